-- Workers handed out and taken in.
use Rattle.std.proofs.Common.{◌≡◌, ◌≢◌, ℕ, zero, suc, ◌+◌, ◌<◌, ◌≤◌, true, List, [], ◌∷◌, ◌++◌, drop, length, slice_get, Some, refl, sym, ap, ◌∙◌, subst, length-append, append-nil, zero-add, arith}
use Rattle.std.proofs.lemmas.Option.{same_Some, none-some}
use mathlib.Core.List.{IsPrefix}
use Rattle.atomic_table.specs.Seated.{TableId}
use Rattle.plcr_machine.proofs.Cases.{at_or_else}
use Rattle.plcr_imagelist.specs.States.{WriterState}
use Rattle.plcr_turns.specs.declared.lines.ChangeLine.{ChangeLine}
use Rattle.plcr_turns.specs.declared.turn.Part.{Part}
use Rattle.plcr_turns.specs.declared.view.Role.TheVariants.{Chief, Worker}
use Rattle.plcr_turns.specs.declared.view.Share.{Share}
use Rattle.plcr_turns.specs.declared.view.View.{View}
use Rattle.plcr_turns.specs.Lines.{lines_of}
use Rattle.plcr_turns.specs.Turns.{TurnState, IsTurn, opened_turn, untouched}
use Rattle.plcr_turns.specs.Views.{shares_from, has_share, Agrees, AllBegin, opened_view, left_view, worker_view, both_view, first_share, later_shares, HasAll, IsTaken}
use Rattle.plcr_turns.specs.Working.{IsWorking, IsFresh}
use Rattle.plcr_turns.specs.Gathering.{shares_of, journals_of, AreWorking, HasHanded, HasGathered}
use Rattle.plcr_turns.proofs.Shares.{has_first, has_later, other_of}
use Rattle.plcr_turns.proofs.Turned.{lines_more}
use Rattle.plcr_turns.proofs.Working.{empty_if}

count_of : (totals : List ℕ) → length (untouched totals) ≡ length totals
count_of [] = refl
count_of (total ∷ totals) = ap suc (count_of totals)

pub nothing_handed : (writer : WriterState) (totals : List ℕ) → HasHanded 0 writer.table totals (opened_view (opened_turn writer totals))
nothing_handed writer totals = record { role = refl; turn = refl; list_is = refl; count = count_of totals; journal = refl; joined = refl; shares = refl }

-- the totals from a number on begin with its own
drop_is : (n : ℕ) (xs : List ℕ) → n < length xs → (x : ℕ) × (drop n xs ≡ x ∷ drop (suc n) xs) × (slice_get xs n ≡ Some x)
drop_is n [] h = absurd (omega arith)
drop_is zero (x ∷ xs) h = (x, refl, refl)
drop_is (suc n) (x ∷ xs) h = drop_is n xs (omega arith)

pub hands_next : (from : ℕ) (list : TableId) (totals : List ℕ) (v : View) → HasHanded from list totals v → from < length totals
    → (v.shares ≢ []) × HasHanded (suc from) list totals (left_view v)
    × ((total : ℕ) × (slice_get totals from ≡ Some total) × IsFresh from total list (worker_view v))
hands_next from list totals v h few =
    let d = drop_is from totals few in
    let is : v.shares ≡ record { script = from; part = record { applied = 0; total = d.0 } } ∷ shares_from (suc from) (untouched (drop (suc from) totals)) = h.shares ∙ ap (λ l. shares_from from (untouched l)) d.1 in (
      (λ e. absurd (let e' : suc (length (shares_from (suc from) (untouched (drop (suc from) totals)))) ≡ 0 = ap length (sym is ∙ e) in omega arith)),
      record { role = h.role; turn = h.turn; list_is = h.list_is; count = h.count; journal = h.journal; joined = h.joined; shares = ap later_shares is },
      (
        d.0,
        d.2,
        record {
          working = record {
            role = refl;
            list_is = h.list_is;
            turn = h.turn;
            alone = refl;
            part = record { applied = 0; total = d.0 };
            shares = ap first_share is;
            lines = ap (λ l. length (lines_of from l)) h.journal;
            most = omega arith;
          };
          shares = ap first_share is;
          journal = h.journal;
        },
      ),
    )

drop_all : (xs : List ℕ) → drop (length xs) xs ≡ []
drop_all [] = refl
drop_all (x ∷ xs) = drop_all xs

pub nobody_gathered : (list : TableId) (totals : List ℕ) (v : View) → HasHanded (length totals) list totals v → HasGathered (length totals) list [] v
nobody_gathered list totals v h =
    record { role = h.role; turn = h.turn; list_is = h.list_is; count_is = h.count; shares = h.shares ∙ ap (λ l. shares_from (length totals) (untouched l)) (drop_all totals); joined = h.joined }

pub gathers_next : (count script : ℕ) (list : TableId) (worker : View) (workers : List View) (v : View) → HasGathered count list workers v → IsWorking script list worker
    → HasGathered count list (worker ∷ workers) (both_view v worker)
gathers_next count script list worker workers v g w = record {
  role = g.role;
  turn = g.turn;
  list_is = g.list_is;
  count_is = g.count_is;
  shares = ap (λ (l : List Share). worker.shares ++ l) g.shares;
  joined = ap (λ (l : List (List ChangeLine)). worker.journal ∷ (worker.joined ++ l)) g.joined;
}

-- each script is among the shares of all workers
has_all : (from : ℕ) (list : TableId) (workers : List View) → AreWorking from list workers → (script : ℕ) → from ≤ script → script < from + length workers → has_share script (shares_of workers) ≡ true
has_all from list [] are script low high = absurd (omega arith)
has_all from list (worker ∷ workers) are script low high =
    let own : Share = record { script = from; part = are.0.part } in
    subst (λ (l : List Share). has_share script (l ++ shares_of workers) ≡ true) (sym are.0.shares)
    (at_or_else from script (λ e. subst (λ s. has_share s (own ∷ shares_of workers) ≡ true) e (has_first own (shares_of workers)))
    (λ f. has_later script own (shares_of workers) (has_all (suc from) list workers are.1 script (let n = other_of from script f in omega arith) (omega arith))))

pub has_all_again : (list : TableId) (workers : List View) (v : View) → HasGathered (length workers) list workers v → AreWorking 0 list workers → HasAll v
has_all_again list workers v g are script few =
    subst (λ (l : List Share). has_share script l ≡ true) (sym g.shares) (has_all 0 list workers are script (omega arith) (let less : script < length workers = subst (λ n. script < n) g.count_is few in omega arith))

-- the lines of a script are those that its worker saw
just_these : (script : ℕ) (list : TableId) (w : View) (x : TurnState) → IsWorking script list w → IsPrefix w.journal x.journal → Agrees x.parts w.shares → IsTurn x → lines_of script x.journal ≡ lines_of script w.journal
just_these script list w x working begins agrees turn =
    let at : slice_get x.parts script ≡ Some working.part = (subst (λ (l : List Share). Agrees x.parts l) working.shares agrees).0 in
    let all = (turn.progress script working.part at).lines in
    let mine = working.lines in
    let cut : lines_of script x.journal ≡ lines_of script w.journal ++ lines_of script begins.0 = ap (lines_of script) (sym begins.1) ∙ lines_more script w.journal begins.0 in
    let counts : length (lines_of script x.journal) ≡ length (lines_of script w.journal) + length (lines_of script begins.0) = ap length cut ∙ length-append (lines_of script w.journal) (lines_of script begins.0) in
    cut ∙ ap (λ l. lines_of script w.journal ++ l) (empty_if (lines_of script begins.0) (omega arith)) ∙ append-nil (lines_of script w.journal)

agrees_parts : (parts : List Part) (some others : List Share) → Agrees parts (some ++ others) → Agrees parts some × Agrees parts others
agrees_parts parts [] others a = (tt, a)
agrees_parts parts (share ∷ some) others a = let r = agrees_parts parts some others a.1 in ((a.0, r.0), r.1)

begin_parts : (some others : List (List ChangeLine)) (journal : List ChangeLine) → AllBegin (some ++ others) journal → AllBegin others journal
begin_parts [] others journal a = a
begin_parts (seen ∷ some) others journal a = begin_parts some others journal a.1

each_once_from : (from : ℕ) (list : TableId) (workers : List View) (x : TurnState) → AreWorking from list workers → AllBegin (journals_of workers) x.journal → Agrees x.parts (shares_of workers) → IsTurn x
    → (n : ℕ) (w : View) → slice_get workers n ≡ Some w → IsPrefix w.journal x.journal × (lines_of (from + n) x.journal ≡ lines_of (from + n) w.journal)
each_once_from from list [] x are begin agrees turn n w at = absurd (none-some w at)
each_once_from from list (worker ∷ workers) x are begin agrees turn zero w at =
    subst (λ (u : View). IsPrefix u.journal x.journal × (lines_of (from + 0) x.journal ≡ lines_of (from + 0) u.journal)) (same_Some _ _ at)
    (begin.0, subst (λ s. lines_of s x.journal ≡ lines_of s worker.journal) (omega arith) (just_these from list worker x are.0 begin.0 (agrees_parts x.parts worker.shares (shares_of workers) agrees).0 turn))
each_once_from from list (worker ∷ workers) x are begin agrees turn (suc n) w at =
    let r = each_once_from (suc from) list workers x are.1 (begin_parts worker.joined (journals_of workers) x.journal begin.1) (agrees_parts x.parts worker.shares (shares_of workers) agrees).1 turn n w at in
    let same : suc from + n ≡ from + suc n = omega arith in
    (r.0, subst (λ s. lines_of s x.journal ≡ lines_of s w.journal) same r.1)

pub each_once : (count : ℕ) (list : TableId) (workers : List View) (v : View) (x : TurnState) → HasGathered count list workers v → AreWorking 0 list workers → IsTaken v x → IsTurn x
    → (script : ℕ) (worker : View) → slice_get workers script ≡ Some worker → IsPrefix worker.journal x.journal × (lines_of script x.journal ≡ lines_of script worker.journal)
each_once count list workers v x g are taken turn script worker at =
    subst (λ s. IsPrefix worker.journal x.journal × (lines_of s x.journal ≡ lines_of s worker.journal)) (zero-add script)
    (each_once_from 0 list workers x are (subst (λ (l : List (List ChangeLine)). AllBegin l x.journal) g.joined taken.joined) (subst (λ (l : List Share). Agrees x.parts l) g.shares taken.progress) turn script worker at)
