-- A pass that is told what the writer has seen, does something, and tells the writer.
use Rattle.std.proofs.Common.{◌≡◌, ◌≢◌, ℕ, ◌<◌, List, [], length, refl, sym, ap, ◌∙◌, subst, ⊎_elim}
use Rattle.std.proofs.lemmas.Bool.{cases_eq}
use Rattle.atomic_table.specs.Seated.{TableId}
use Rattle.plcr_machine.specs.declared.entry.Entry.{Entry}
use Rattle.plcr_machine.specs.Lists.{Grows, loads}
use Rattle.plcr_machine.specs.Histories.{IsHistory}
use Rattle.plcr_machine.specs.Parts.{own_entries, owner_entries}
use Rattle.plcr_machine.specs.Changes.{TakesFirst}
use Rattle.plcr_machine.proofs.ListsMade.{takes_same}
use Rattle.plcr_nodes.specs.Entries.{WentOn}
use Rattle.plcr_nodes.proofs.Seeing.{grows_again, own_of}
use Rattle.plcr_imagelist.specs.States.{WriterState}
use Rattle.plcr_imagelist.specs.Listing.{HasLists}
use Rattle.plcr_imagelist.specs.Holds.{WalkerState}
use Rattle.plcr_imagelist.specs.Tellings.{note_of_writer, note_of_walker, IsWriterTold, IsWalkerTold}
use Rattle.plcr_imagelist.proofs.Looking.{went_again}
use Rattle.plcr_imagelist.proofs.Changed.{has_lists}
use Rattle.plcr_run.specs.declared.slots.Slot.{Slot}
use Rattle.plcr_run.specs.declared.slots.Slot.TheVariants.{Out, In, Away}
use Rattle.plcr_run.specs.declared.writing.Writing.{Writing}
use Rattle.plcr_run.specs.declared.writing.Writing.TheVariants.{Resting, Changing}
use Rattle.plcr_run.specs.inner.Slots.{slot_at, IsPut}
use Rattle.plcr_run.specs.inner.Tokens.{writer_of, with_writer, IsGoing, seen_in, IsKnown, IsPlaced, AreTokens, IsAll}
use Rattle.plcr_machine.proofs.Between.{own_between}
use Rattle.plcr_run.proofs.SameLength.{went_same}
use Rattle.plcr_run.proofs.Still.{OneActs, pass_still}

-- the writer went on, and knows no less of a pass
pub known_later : (old new : WriterState) (k : ℕ) (pass : WalkerState) → new.table ≡ old.table → new.nodes ≡ old.nodes → new.passes ≡ old.passes → Grows old.history new.history → WentOn old.names new.names → IsKnown old k pass → IsKnown new k pass
known_later old new k pass table nodes passes g w known = record {
  table = known.table ∙ sym table;
  nodes = known.nodes ∙ sym nodes;
  passes = known.passes ∙ sym passes;
  number = known.number;
  known = grows_again pass.history old.history new.history known.known g;
  named = went_again pass.names old.names new.names known.named w;
}

pub placed_later : (old new : WriterState) (k : ℕ) (slot : Slot) → new.table ≡ old.table → new.nodes ≡ old.nodes → new.passes ≡ old.passes → Grows old.history new.history → WentOn old.names new.names → IsPlaced old k slot → IsPlaced new k slot
placed_later old new k (Out pass) table nodes passes g w known = known_later old new k pass table nodes passes g w known
placed_later old new k (In hold) table nodes passes g w known = (known_later old new k hold.walker table nodes passes g w known.0, known.1)
placed_later old new k Away table nodes passes g w known = known

-- what the pass of a slot has seen, the writer has
pub placed_seen : (writer : WriterState) (k : ℕ) (slot : Slot) → IsPlaced writer k slot → Grows (seen_in slot) writer.history
placed_seen writer k (Out pass) known = known.known
placed_seen writer k (In hold) known = known.0.known
placed_seen writer k Away known = absurd known

-- a writing with a writer that knows more
pub writer_with : (writing : Writing) (writer : WriterState) → writer_of (with_writer writing writer) ≡ writer
writer_with (Resting old) writer = refl
writer_with (Changing change) writer = refl

-- the pass of a slot was told what the writer had seen, and told the writer what it had seen then
pub record IsActing (old : Writing) (r : ℕ) (pass told last : WalkerState) (new : Writing) : Type 0 where
  pub hears : IsWalkerTold pass (note_of_writer (writer_of old)) told
  pub grows : Grows told.history last.history
  pub went : WentOn told.names last.names
  pub same : (last.table ≡ told.table) × (last.nodes ≡ told.nodes) × (last.passes ≡ told.passes) × (last.number ≡ told.number)
  pub tells : IsWriterTold (writer_of old) (note_of_walker last) (writer_of new)
  pub goes : IsGoing new

-- the tokens afterwards
pub tokens_acting : (table : TableId) (old : Writing) (olds : List Slot) (r : ℕ) (pass told last : WalkerState) (slot : Slot) (new : Writing) (news : List Slot)
    → AreTokens table old olds → IsKnown (writer_of old) r pass → IsActing old r pass told last new → IsPut olds news r slot → (IsKnown (writer_of new) r last → IsPlaced (writer_of new) r slot) → AreTokens table new news
tokens_acting table old olds r pass told last slot new news tokens known acts put placing =
    let w : WriterState = writer_of old in
    let w' : WriterState = writer_of new in
    let t = acts.tells in
    let now : w' ≡ record w { history = t.past; names = t.names } = t.now in
    let table' : w'.table ≡ w.table = ap (λ (s : WriterState). s.table) now in
    let nodes' : w'.nodes ≡ w.nodes = ap (λ (s : WriterState). s.nodes) now in
    let passes' : w'.passes ≡ w.passes = ap (λ (s : WriterState). s.passes) now in
    let history' : w'.history ≡ t.past = ap (λ (s : WriterState). s.history) now in
    let names' : w'.names ≡ t.names = ap (λ (s : WriterState). s.names) now in
    let grown : Grows w.history w'.history = subst (λ (h : List Entry). Grows w.history h) (sym history') t.sees.added.grows in
    let went : WentOn w.names w'.names = subst (λ (ns : List (List ℕ)). WentOn w.names ns) (sym names') t.sees.named in
    let hears : told ≡ record pass { history = acts.hears.past; names = acts.hears.names } = acts.hears.now in
    let mine : IsKnown w' r last = record {
      table = acts.same.0 ∙ ap (λ (s : WalkerState). s.table) hears ∙ known.table ∙ sym table';
      nodes = acts.same.1 ∙ ap (λ (s : WalkerState). s.nodes) hears ∙ known.nodes ∙ sym nodes';
      passes = acts.same.2 ∙ ap (λ (s : WalkerState). s.passes) hears ∙ known.passes ∙ sym passes';
      number = acts.same.3 ∙ ap (λ (s : WalkerState). s.number) hears ∙ known.number;
      known = subst (λ (h : List Entry). Grows last.history h) (sym history') t.told;
      named = subst (λ (ns : List (List ℕ)). WentOn last.names ns) (sym names') t.named;
    } in
    let legal : IsHistory w.nodes w.passes t.past t.names = t.sees.legal in
    let first : TakesFirst t.past = takes_same w.history t.past (t.sees.added.owner refl) tokens.lists.first in
    record {
      list = table' ∙ tokens.list;
      none = ap (λ (s : WriterState). s.joined) now ∙ tokens.none;
      lists = subst (λ (s : WriterState). HasLists s) (sym now) (has_lists (record w { history = t.past; names = t.names }) legal first);
      going = acts.goes;
      count = put.count ∙ tokens.count ∙ sym passes';
      placed = λ k below. ⊎_elim
          (λ (e : k ≡ r). subst (λ j. IsPlaced w' j (slot_at news j)) (sym e) (subst (λ (s : Slot). IsPlaced w' r s) (sym put.here) (placing mine)))
          (λ (n : k ≡ r → ⊥). subst (λ (s : Slot). IsPlaced w' k s) (sym (put.others k n)) (placed_later w w' k (slot_at olds k) table' nodes' passes' grown went (tokens.placed k (subst (λ m. k < m) passes' below))))
          (cases_eq k r);
    }

-- where the writer has seen all afterwards: the pass was told nothing that the writer had not seen, others did nothing, and the writer was told nothing else
pub record ActsAlone (old : Writing) (olds : List Slot) (r : ℕ) (told last : WalkerState) (new : Writing) : Type 0 where
  pub all : IsAll old olds
  pub history : told.history ≡ (writer_of old).history
  pub names : told.names ≡ (writer_of old).names
  pub acts : OneActs told.passes r told.history (writer_of new).history
  pub on : Grows last.history (writer_of new).history

pub acting_alone : (table : TableId) (old : Writing) (olds : List Slot) (r : ℕ) (pass told last : WalkerState) (slot : Slot) (new : Writing) (news : List Slot)
    → AreTokens table old olds → r < (writer_of old).passes → IsKnown (writer_of old) r pass → own_entries r (seen_in (slot_at olds r)) ≡ own_entries r pass.history → IsActing old r pass told last new → IsPut olds news r slot → IsAll new news
    → ActsAlone old olds r told last new
acting_alone table old olds r pass told last slot new news tokens within known was acts put all =
    let w : WriterState = writer_of old in
    let w' : WriterState = writer_of new in
    let t = acts.tells in
    let now : w' ≡ record w { history = t.past; names = t.names } = t.now in
    let passes' : w'.passes ≡ w.passes = ap (λ (s : WriterState). s.passes) now in
    let history' : w'.history ≡ t.past = ap (λ (s : WriterState). s.history) now in
    let grown : Grows w.history w'.history = subst (λ (h : List Entry). Grows w.history h) (sym history') t.sees.added.grows in
    let owner : owner_entries w'.history ≡ owner_entries w.history = ap owner_entries history' ∙ t.sees.added.owner refl in
    let hears : told ≡ record pass { history = acts.hears.past; names = acts.hears.names } = acts.hears.now in
    let seen : told.history ≡ acts.hears.past = ap (λ (s : WalkerState). s.history) hears in
    let named : told.names ≡ acts.hears.names = ap (λ (s : WalkerState). s.names) hears in
    let knew : (k : ℕ) → k < w.passes → Grows (seen_in (slot_at olds k)) w.history = λ k below. placed_seen w k (slot_at olds k) (tokens.placed k below) in
    let others : (k : ℕ) → k < w.passes → k ≢ r → (own_entries k w'.history ≡ own_entries k w.history) × (own_entries k w.history ≡ own_entries k (seen_in (slot_at olds k))) =
    λ k below n.
    let whole : own_entries k w'.history ≡ own_entries k (seen_in (slot_at olds k)) = all k (subst (λ m. k < m) (sym passes') below) ∙ ap (λ (s : Slot). own_entries k (seen_in s)) (put.others k n) in
    let mid = own_between k (seen_in (slot_at olds k)) w.history w'.history (knew k below) grown whole in
    (whole ∙ sym mid, mid) in
    let alone : OneActs w.passes r w.history w'.history = record { grows = grown; owner = owner; others = λ k below n. (others k below n).0 } in
    let told_on : Grows w.history told.history = subst (λ (h : List Entry). Grows w.history h) (sym seen) acts.hears.told in
    let last_on : Grows last.history w'.history = subst (λ (h : List Entry). Grows last.history h) (sym history') t.told in
    let on : Grows told.history w'.history = grows_again told.history last.history w'.history acts.grows last_on in
    let own : own_entries r told.history ≡ own_entries r pass.history = subst (λ (h : List Entry). own_entries r h ≡ own_entries r pass.history) (sym seen) (subst (λ n. own_entries n acts.hears.past ≡ own_entries n pass.history) known.number (own_of pass.number pass.history acts.hears.past acts.hears.sees.added)) in
    let mine : own_entries r w.history ≡ own_entries r pass.history = own_between r pass.history w.history told.history known.known told_on own in
    let legal : IsHistory pass.nodes pass.passes told.history told.names = subst (λ (h : List Entry). IsHistory pass.nodes pass.passes h told.names) (sym seen) (subst (λ (ns : List (List ℕ)). IsHistory pass.nodes pass.passes acts.hears.past ns) (sym named) acts.hears.sees.legal) in
    let sized : told.passes ≡ w.passes = ap (λ (s : WalkerState). s.passes) hears ∙ known.passes in
    let alone' : OneActs pass.passes r w.history w'.history = subst (λ m. OneActs m r w.history w'.history) (sym known.passes) alone in
    let same : told.history ≡ w.history = pass_still pass.nodes pass.passes r w.history told.history w'.history alone' told_on on legal.legal (own ∙ sym mine) in
    let went : WentOn w.names told.names = subst (λ (ns : List (List ℕ)). WentOn w.names ns) (sym named) acts.hears.named in
    let long : length told.names ≡ length w.names = legal.named ∙ ap loads same ∙ sym tokens.lists.known.named in
    record {
      all = λ k below. ⊎_elim
          (λ (e : k ≡ r). subst (λ j. own_entries j w.history ≡ own_entries j (seen_in (slot_at olds j))) (sym e) (mine ∙ sym was))
          (λ (n : k ≡ r → ⊥). (others k below n).1)
          (cases_eq k r);
      history = same;
      names = went_same w.names told.names went.0 went.1 long;
      acts = subst (λ (h : List Entry). OneActs told.passes r h w'.history) (sym same) (subst (λ m. OneActs m r w.history w'.history) (sym sized) alone);
      on = last_on;
    }

-- and in the end the writer has seen just what the pass had
pub record ToldAll (last : WalkerState) (new : Writing) : Type 0 where
  pub history : (writer_of new).history ≡ last.history
  pub names : (writer_of new).names ≡ last.names

pub told_all : (table : TableId) (old : Writing) (r : ℕ) (pass told last : WalkerState) (new : Writing) (news : List Slot)
    → AreTokens table new news → r < (writer_of new).passes → seen_in (slot_at news r) ≡ last.history → length last.names ≡ loads last.history → last.passes ≡ (writer_of new).passes → IsActing old r pass told last new → IsAll new news
    → OneActs last.passes r last.history (writer_of new).history → ToldAll last new
told_all table old r pass told last new news tokens within slot named sized acts all o =
    let w' : WriterState = writer_of new in
    let t = acts.tells in
    let history' : w'.history ≡ t.past = ap (λ (s : WriterState). s.history) t.now in
    let names' : w'.names ≡ t.names = ap (λ (s : WriterState). s.names) t.now in
    let own : own_entries r w'.history ≡ own_entries r last.history = all r within ∙ ap (own_entries r) slot in
    let legal = tokens.lists.known in
    let o' : OneActs w'.passes r last.history w'.history = subst (λ m. OneActs m r last.history w'.history) sized o in
    let same : w'.history ≡ last.history = pass_still w'.nodes w'.passes r last.history w'.history w'.history o' o.grows ([], refl) legal.legal own in
    let went : WentOn last.names w'.names = subst (λ (ns : List (List ℕ)). WentOn last.names ns) (sym names') t.named in
    let long : length w'.names ≡ length last.names = legal.named ∙ ap loads same ∙ sym named in
    record { history = same; names = went_same last.names w'.names went.0 went.1 long }
