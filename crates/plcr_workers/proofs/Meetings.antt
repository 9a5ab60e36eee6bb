-- Passes meet the writer, one after the other.
use Rattle.std.proofs.Common.{◌≡◌, ℕ, true, List, [], ◌∷◌, length, refl, sym, ap, ◌∙◌, subst, eqb, get_or, arith}
use Rattle.std.proofs.lemmas.Bool.{or_right}
use Rattle.atomic_table.specs.Seated.{TableId}
use Rattle.std.proofs.lemmas.List.Elements.{All-nil, All-cons, All-weaker}
use Rattle.plcr_machine.specs.declared.entry.Entry.{Entry}
use Rattle.plcr_machine.specs.Lists.{Grows}
use Rattle.plcr_machine.proofs.Cases.{eqb_same}
use Rattle.plcr_nodes.specs.Entries.{among, WentOn}
use Rattle.plcr_machine.specs.Parts.{own_entries}
use Rattle.plcr_nodes.proofs.Seeing.{grows_again, own_of}
use Rattle.plcr_imagelist.specs.States.{WriterState, IsAtRest}
use Rattle.plcr_imagelist.specs.Holds.{WalkerState}
use Rattle.plcr_imagelist.specs.Opening.{IsOpenedList}
use Rattle.plcr_imagelist.specs.Tellings.{IsMet}
use Rattle.plcr_imagelist.proofs.Changed.{met_adds, adds_more}
use Rattle.plcr_imagelist.proofs.Looking.{went_again}
use Rattle.plcr_imagelist.proofs.Opened.{walkers_numbered}
use Rattle.std.specs.Prelude.{Option, Some, slice_get, unwrap_or}
use Rattle.plcr_script.specs.Scripts.{ScriptValue}
use Rattle.plcr_workers.specs.inner.Hired.{AreInOrder, AreUntouched}
use Rattle.plcr_workers.specs.inner.Stages.{HasMetThese}

pub met_none : (writer : WriterState) → HasMetThese [] writer writer
met_none writer = record {
  sizes = (refl, refl);
  grows = ([], refl);
  went = ([], refl);
  changes = refl;
  joined = All-nil (λ (i : WalkerState). among i.number writer.joined ≡ true);
  known = All-nil (λ (i : WalkerState). WentOn i.names writer.names);
  seen = All-nil (λ (i : WalkerState). Grows i.history writer.history);
  own = All-nil (λ (i : WalkerState). own_entries i.number writer.history ≡ own_entries i.number i.history);
}

among_first : (n x : ℕ) (xs : List ℕ) → x ≡ n → among n (x ∷ xs) ≡ true
among_first n x xs e = rw (e, eqb_same n) refl

pub met_one : (passes : List WalkerState) (pass : WalkerState) (start old new : WriterState) → IsAtRest old → HasMetThese passes start old → IsMet old pass new → HasMetThese (pass ∷ passes) start new
met_one passes pass start old new rest m met =
    let now : new ≡ record old { history = met.past; names = met.names; joined = pass.number ∷ old.joined } = met.now in
    let history : new.history ≡ met.past = ap (λ (s : WriterState). s.history) now in
    let joined : new.joined ≡ pass.number ∷ old.joined = ap (λ (s : WriterState). s.joined) now in
    let names : new.names ≡ met.names = ap (λ (s : WriterState). s.names) now in
    let Knows : WalkerState → Type 0 = λ i. WentOn i.names new.names in
    let Joined : WalkerState → Type 0 = λ i. among i.number new.joined ≡ true in
    record {
      sizes = (ap (λ (s : WriterState). s.nodes) now ∙ m.sizes.0, ap (λ (s : WriterState). s.passes) now ∙ m.sizes.1);
      grows = subst (λ (h : List Entry). Grows start.history h) (sym history) (grows_again start.history old.history met.past m.grows met.sees.added.grows);
      went = subst (λ (ns : List (List ℕ)). WentOn start.names ns) (sym (ap (λ (s : WriterState). s.names) now)) (went_again start.names old.names met.names m.went met.sees.named);
      changes = adds_more start old new [] [] m.changes (met_adds old pass new rest.known met);
      joined = All-cons Joined pass passes (ap (among pass.number) joined ∙ among_first pass.number pass.number old.joined refl)
          (All-weaker (λ (i : WalkerState). among i.number old.joined ≡ true) Joined (λ i before. ap (among i.number) joined ∙ or_right (eqb pass.number i.number) (among i.number old.joined) before) passes m.joined);
      known = All-cons Knows pass passes (subst (λ (ns : List (List ℕ)). WentOn pass.names ns) (sym names) met.named)
          (All-weaker (λ (i : WalkerState). WentOn i.names old.names) Knows (λ i before. subst (λ (ns : List (List ℕ)). WentOn i.names ns) (sym names) (went_again i.names old.names met.names before met.sees.named)) passes m.known);
      seen = All-cons (λ (i : WalkerState). Grows i.history new.history) pass passes (subst (λ (h : List Entry). Grows pass.history h) (sym history) met.met.grows)
          (All-weaker (λ (i : WalkerState). Grows i.history old.history) (λ (i : WalkerState). Grows i.history new.history) (λ i before. subst (λ (h : List Entry). Grows i.history h) (sym history) (grows_again i.history old.history met.past before met.sees.added.grows)) passes m.seen);
      own = All-cons (λ (i : WalkerState). own_entries i.number new.history ≡ own_entries i.number i.history) pass passes (ap (own_entries pass.number) history ∙ own_of pass.number pass.history met.past met.met)
          (All-weaker (λ (i : WalkerState). (among i.number old.joined ≡ true) × (own_entries i.number old.history ≡ own_entries i.number i.history)) (λ (i : WalkerState). own_entries i.number new.history ≡ own_entries i.number i.history)
          (λ i before. ap (own_entries i.number) history ∙ met.sees.added.own i.number before.0 ∙ before.1) passes (λ k d less. (m.joined k d less, m.own k d less)));
    }

-- ---- the passes of a list that was just opened

pub opened_count : (table : TableId) (nodes passes : ℕ) (writer : WriterState) (images : List WalkerState) → IsOpenedList nodes passes table writer images → length images ≡ passes
opened_count table nodes passes writer images o = ap length o.numbered ∙ (walkers_numbered table nodes passes passes).0

pub opened_in_order : (table : TableId) (nodes passes : ℕ) (writer : WriterState) (images : List WalkerState) → IsOpenedList nodes passes table writer images → AreInOrder table images
opened_in_order table nodes passes writer images o place other less =
    let count = opened_count table nodes passes writer images o in
    let is = ap (λ (l : List WalkerState). get_or l place other) o.numbered ∙ (walkers_numbered table nodes passes passes).1 place other (omega (arith, less, count)) in
    (ap (λ (w : WalkerState). w.table) is, ap (λ (w : WalkerState). w.number) is)

pub opened_untouched : (table : TableId) (nodes passes : ℕ) (writer : WriterState) (images : List WalkerState) → IsOpenedList nodes passes table writer images → AreUntouched images
opened_untouched table nodes passes writer images o place other less =
    let count = opened_count table nodes passes writer images o in
    let is = ap (λ (l : List WalkerState). get_or l place other) o.numbered ∙ (walkers_numbered table nodes passes passes).1 place other (omega (arith, less, count)) in
    ap (λ (w : WalkerState). w.history) is

-- the first script, by its place
pub first_is : (scripts : List ScriptValue) (found script : ScriptValue) → found ≡ get_or scripts 0 found → slice_get scripts 0 ≡ Some script → found ≡ script
first_is [] found script is first = absurd cc
first_is (x ∷ scripts) found script is first = is ∙ ap (λ (o : Option ScriptValue). unwrap_or o x) first
