-- The list that is opened for a run.
use Rattle.std.proofs.Common.{◌≡◌, ◌⊎◌, inl, inr, ℕ, zero, suc, ◌<◌, ◌≤◌, true, false, List, [], ◌∷◌, ◌++◌, map, length, length-append, get_or, leb, refl, sym, ap, subst, ◌∙◌, ⊎_elim, arith}
use Rattle.std.proofs.lemmas.List.{map-append, length-map}
use Rattle.std.proofs.lemmas.Bool.{cases_eq, cases_Bool, leb-true, leb-false}
use Rattle.atomic_table.specs.Seated.{TableId}
use Rattle.plcr_machine.specs.Histories.{IsHistory}
use Rattle.plcr_imagelist.specs.States.{WriterState, IsAtRest}
use Rattle.plcr_imagelist.specs.Opening.{opened_writer, opened_walker, opened_walkers}
use Rattle.plcr_imagelist.proofs.Changed.{has_lists}
use Rattle.plcr_script.specs.Scripts.{ScriptValue}
use Rattle.plcr_script.specs.Lawful.{AreSizes}
use Rattle.plcr_script.specs.RunStates.{is_in}
use Rattle.plcr_run.specs.declared.scripts.Opened.{Opened}
use Rattle.plcr_run.specs.declared.slots.Slot.{Slot}
use Rattle.plcr_run.specs.declared.slots.Slot.TheVariants.{Out, Away}
use Rattle.plcr_run.specs.declared.writing.Writing.TheVariants.{Resting}
use Rattle.plcr_run.specs.inner.Slots.{slot_at}
use Rattle.plcr_run.specs.inner.Tokens.{IsPlaced, AreTokens, place_in}
use Rattle.plcr_run.specs.inner.Opening.{IsOpened}
use Rattle.plcr_run.specs.inner.Running.{IsFresh}

walkers_count : (table : TableId) (nodes passes n : ℕ) → length (map Out (opened_walkers table nodes passes n)) ≡ n
walkers_count table nodes passes zero = refl
walkers_count table nodes passes (suc n) =
    let one = opened_walker table nodes passes n in
    let before = opened_walkers table nodes passes n in
    let all = length-map (before ++ one ∷ []) Out in
    let more = length-append before (one ∷ []) in
    let rest = walkers_count table nodes passes n in
    let same = length-map before Out in
    omega arith

-- one behind others, or one of the others
at_last : (xs : List Slot) (x : Slot) (k : ℕ) → k ≡ length xs → get_or (xs ++ x ∷ []) k Away ≡ x
at_last [] x k e = subst (λ n. get_or (x ∷ []) n Away ≡ x) (sym e) refl
at_last (y ∷ xs) x zero e = absurd (omega arith)
at_last (y ∷ xs) x (suc k) e = at_last xs x k (omega arith)

at_front : (xs : List Slot) (x : Slot) (k : ℕ) → k < length xs → get_or (xs ++ x ∷ []) k Away ≡ get_or xs k Away
at_front [] x k lt = absurd (omega arith)
at_front (y ∷ xs) x zero lt = refl
at_front (y ∷ xs) x (suc k) lt = at_front xs x k (omega arith)

walker_at : (table : TableId) (nodes passes n k : ℕ) → k < n → slot_at (map Out (opened_walkers table nodes passes n)) k ≡ Out (opened_walker table nodes passes k)
walker_at table nodes passes zero k lt = absurd (omega arith)
walker_at table nodes passes (suc n) k lt =
    let before = opened_walkers table nodes passes n in
    let split : map Out (before ++ opened_walker table nodes passes n ∷ []) ≡ map Out before ++ Out (opened_walker table nodes passes n) ∷ [] = map-append Out before (opened_walker table nodes passes n ∷ []) in
    let count = walkers_count table nodes passes n in
    ap (λ (l : List Slot). slot_at l k) split
    ∙ ⊎_elim
    (λ (e : k ≡ n). at_last (map Out before) (Out (opened_walker table nodes passes n)) k (omega arith) ∙ ap (λ j. Out (opened_walker table nodes passes j)) (sym e))
    (λ (d : k ≡ n → ⊥). at_front (map Out before) (Out (opened_walker table nodes passes n)) k (omega (arith, d)) ∙ walker_at table nodes passes n k (omega (arith, d)))
    (cases_eq k n)

past_end : (xs : List Slot) (k : ℕ) → length xs ≤ k → slot_at xs k ≡ Away
past_end [] k le = refl
past_end (x ∷ xs) zero le = absurd (omega arith)
past_end (x ∷ xs) (suc k) le = past_end xs k (omega arith)

empty_known : (nodes passes : ℕ) → AreSizes nodes passes → IsHistory nodes passes [] []
empty_known nodes passes sizes = record { few_nodes = sizes.1; few_passes = sizes.3; legal = tt; named = refl }

opened_rest : (table : TableId) (nodes passes : ℕ) → AreSizes nodes passes → IsAtRest (opened_writer table nodes passes)
opened_rest table nodes passes sizes = record { known = empty_known nodes passes sizes; paced = tt; first = tt; counted = refl }

-- the tokens of a list that was just opened
fresh_tokens : (table : TableId) (nodes passes : ℕ) → AreSizes nodes passes → AreTokens table (Resting (opened_writer table nodes passes)) (map Out (opened_walkers table nodes passes passes))
fresh_tokens table nodes passes sizes =
    let rest = opened_rest table nodes passes sizes in
    record {
      list = refl;
      none = refl;
      lists = has_lists (opened_writer table nodes passes) rest.known rest.first;
      going = rest;
      count = walkers_count table nodes passes passes;
      placed = λ k below. subst (λ (s : Slot). IsPlaced (opened_writer table nodes passes) k s) (sym (walker_at table nodes passes passes k below))
          (record { table = refl; nodes = refl; passes = refl; number = refl; known = ([], refl); named = ([], refl) });
    }

fresh_is : (script : ScriptValue) (table : TableId) → IsFresh script (Resting (opened_writer table script.nodes script.passes)) (map Out (opened_walkers table script.nodes script.passes script.passes))
fresh_is script table =
    let n : ℕ = script.nodes in
    let p : ℕ = script.passes in
    record {
      nodes = refl;
      passes = refl;
      state = record { events = refl; opened = refl; places = λ k below. ap place_in (walker_at table n p p k below) };
      out = λ k. ⊎_elim
          (λ (below : k < p). ap (λ (s : Slot). is_in (place_in s)) (walker_at table n p p k below))
          (λ (above : p ≤ k). ap (λ (s : Slot). is_in (place_in s)) (past_end (map Out (opened_walkers table n p p)) k (let count = walkers_count table n p p in omega arith)))
          (below_or_not k p);
    }
  where
    below_or_not : (k p : ℕ) → (k < p) ⊎ (p ≤ k)
    below_or_not k p = ⊎_elim (λ (t : leb p k ≡ true). inr (leb-true p k t)) (λ (f : leb p k ≡ false). inl (leb-false p k f)) (cases_Bool (leb p k))

pub opened_tokens : (nodes passes : ℕ) (opened : Opened) → IsOpened nodes passes opened → AreTokens opened.list (Resting opened.writer) opened.slots.items
opened_tokens nodes passes opened o = subst (λ (l : List Slot). AreTokens opened.list (Resting opened.writer) l) (sym o.slots_are) (subst (λ (w : WriterState). AreTokens opened.list (Resting w) (map Out (opened_walkers opened.list nodes passes passes))) (sym o.writing) (fresh_tokens opened.list nodes passes o.sizes))

pub opened_fresh : (script : ScriptValue) (opened : Opened) → IsOpened script.nodes script.passes opened → IsFresh script (Resting opened.writer) opened.slots.items
opened_fresh script opened o = subst (λ (l : List Slot). IsFresh script (Resting opened.writer) l) (sym o.slots_are) (subst (λ (w : WriterState). IsFresh script (Resting w) (map Out (opened_walkers opened.list script.nodes script.passes script.passes))) (sym o.writing) (fresh_is script opened.list))
