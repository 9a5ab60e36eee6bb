-- Turns one after the other, and the end of a script.
use Rattle.std.proofs.Common.{◌≡◌, ◌≢◌, ℕ, suc, ◌+◌, ◌<◌, true, false, List, length, cond, eqb, ltb, refl, sym, ap, ◌∙◌, subst, ⊎_elim, arith}
use Rattle.std.proofs.lemmas.Bool.{cases_eq, lt-ltb, le-ltb, ltb-true, ltb-false, eqb-true, eqb-false}
use Rattle.atomic_table.specs.Seated.{TableId}
use Rattle.plcr_machine.proofs.Cases.{by_cases}
use Rattle.plcr_script.specs.RunStates as states
use Rattle.plcr_script.specs.RunStates.{Place, State, placed, is_in, left, leaves, all_left, entered, entered_if_out}
use Rattle.plcr_run.specs.declared.slots.Slot.{Slot}
use Rattle.plcr_run.specs.declared.slots.Slot.TheVariants.{Out, In, Away}
use Rattle.plcr_run.specs.declared.writing.Writing.{Writing}
use Rattle.plcr_run.specs.inner.Slots.{slot_at, is_out_slot, IsOutSlot, IsInSlot, IsOutAt, IsInAt}
use Rattle.plcr_run.specs.inner.Tokens.{writer_of, AreTokens, IsPlaced, place_in, StateIs, Goes}
use Rattle.plcr_run.specs.inner.Ending.{left_below, AreOut}

-- one after the other
pub goes_twice : (a : Writing) (olds : List Slot) (f : State → State) (b : Writing) (bs : List Slot) (g : State → State) (c : Writing) (cs : List Slot) → Goes a olds f b bs → Goes b bs g c cs → Goes a olds (λ state. g (f state)) c cs
goes_twice a olds f b bs g c cs first second = record {
  sizes = (second.sizes.0 ∙ first.sizes.0, second.sizes.1 ∙ first.sizes.1);
  back = λ all. first.back (second.back all);
  state = λ all state is. second.state all (f state) (first.state (second.back all) state is);
}

-- the same states, for each pass that there is
pub state_same : (writing : Writing) (slots : List Slot) (s t : State) → s.events ≡ t.events → s.opened ≡ t.opened → ((k : ℕ) → k < (writer_of writing).passes → s.places k ≡ t.places k) → StateIs writing slots s → StateIs writing slots t
state_same writing slots s t events opened places is = record {
  events = is.events ∙ events;
  opened = is.opened ∙ opened;
  places = λ k below. is.places k below ∙ places k below;
}

-- going to a state that is the same
pub goes_as : (a : Writing) (olds : List Slot) (f g : State → State) (b : Writing) (bs : List Slot) → ((state : State) → StateIs a olds state → StateIs b bs (f state) → StateIs b bs (g state)) → Goes a olds f b bs → Goes a olds g b bs
goes_as a olds f g b bs same goes = record {
  sizes = goes.sizes;
  back = goes.back;
  state = λ all state is. same state is (goes.state all state is);
}

pub goes_nowhere : (a : Writing) (olds : List Slot) (f : State → State) → ((state : State) → StateIs a olds state → StateIs a olds (f state)) → Goes a olds f a olds
goes_nowhere a olds f same = record { sizes = (refl, refl); back = λ all. all; state = λ all state is. same state is }

-- a slot of tokens is one of the two
pub slot_cases : (table : TableId) (writing : Writing) (slots : List Slot) (k : ℕ) → AreTokens table writing slots → k < length slots → is_out_slot (slot_at slots k) ≡ false → IsInAt slots k
slot_cases table writing slots k tokens within is = cases (slot_at slots k) (tokens.placed k (let count = tokens.count in omega arith)) is
  where
    cases : (slot : Slot) → IsPlaced (writer_of writing) k slot → is_out_slot slot ≡ false → IsInSlot slot
    cases (Out pass) p e = cc
    cases (In hold) p e = tt
    cases Away p e = absurd p

pub out_slot : (slot : Slot) → is_out_slot slot ≡ true → IsOutSlot slot
out_slot (Out pass) e = tt
out_slot (In hold) e = cc
out_slot Away e = cc

-- where a run says that the pass of a slot is
pub place_out : (slot : Slot) → IsOutSlot slot → place_in slot ≡ states.Out
place_out (Out pass) o = refl
place_out (In hold) o = absurd o
place_out Away o = absurd o

pub place_inside : (slot : Slot) → IsInSlot slot → is_in (place_in slot) ≡ true
place_inside (Out pass) i = absurd i
place_inside (In hold) i = refl
place_inside Away i = absurd i

-- a pass that is in stays where it is, as it is asked to go in
pub stays_in : (writing : Writing) (slots : List Slot) (pass : ℕ) (state : State) → pass < (writer_of writing).passes → IsInAt slots pass → StateIs writing slots state → StateIs writing slots (entered_if_out pass state)
stays_in writing slots pass state below inside is =
    let at : is_in (state.places pass) ≡ true = ap is_in (sym (is.places pass below)) ∙ place_inside (slot_at slots pass) inside in
    subst (λ (s : State). StateIs writing slots s) (ap (λ b. cond b state (entered pass state)) (sym at)) is

pub goes_in : (a : Writing) (olds : List Slot) (pass : ℕ) (state : State) → pass < (writer_of a).passes → IsOutAt olds pass → StateIs a olds state → entered pass state ≡ entered_if_out pass state
goes_in a olds pass state below out is =
    let at : is_in (state.places pass) ≡ false = ap is_in (sym (is.places pass below) ∙ place_out (slot_at olds pass) out) in
    ap (λ b. cond b state (entered pass state)) (sym at)

-- none came out yet
pub none_left : (writing : Writing) (slots : List Slot) (state : State) → StateIs writing slots state → StateIs writing slots (left_below 0 state)
none_left writing slots state is = state_same writing slots state (left_below 0 state) refl refl (λ k below. ap (λ b. cond b states.Out (state.places k)) (sym (le-ltb k 0 (omega arith)))) is

at_or_below : (k n : ℕ) → eqb k n ≡ false → ltb k (suc n) ≡ ltb k n
at_or_below k n e = by_cases (ltb k n) (λ t. lt-ltb k (suc n) (let lt = ltb-true k n t in omega arith) ∙ sym t) (λ f. le-ltb k (suc n) (let ge = ltb-false k n f in let ne = eqb-false k n e in omega arith) ∙ sym f)

-- one more came out, or was out
pub one_left : (writing : Writing) (slots : List Slot) (pass : ℕ) (state : State) → is_in (state.places pass) ≡ true → StateIs writing slots (left pass (left_below pass state)) → StateIs writing slots (left_below (suc pass) state)
one_left writing slots pass state inside is =
    let events : leaves pass (all_left pass state.places state.events) ≡ all_left (suc pass) state.places state.events = ap (λ b. cond b (leaves pass (all_left pass state.places state.events)) (all_left pass state.places state.events)) (sym inside) in
    state_same writing slots (left pass (left_below pass state)) (left_below (suc pass) state) events refl
    (λ k below. by_cases (eqb k pass)
    (λ e. rw e (ap (λ b. cond b states.Out (state.places k)) (sym (lt-ltb k (suc pass) (let same = eqb-true k pass e in omega arith)))))
    (λ n. rw n (ap (λ b. cond b states.Out (state.places k)) (sym (at_or_below k pass n)))))
    is

pub one_out : (writing : Writing) (slots : List Slot) (pass : ℕ) (state : State) → is_in (state.places pass) ≡ false → state.places pass ≡ states.Out → StateIs writing slots (left_below pass state) → StateIs writing slots (left_below (suc pass) state)
one_out writing slots pass state outside place is =
    let events : all_left pass state.places state.events ≡ all_left (suc pass) state.places state.events = ap (λ b. cond b (leaves pass (all_left pass state.places state.events)) (all_left pass state.places state.events)) (sym outside) in
    state_same writing slots (left_below pass state) (left_below (suc pass) state) events refl
    (λ k below. by_cases (eqb k pass)
    (λ e. let same = eqb-true k pass e in
    let here : state.places k ≡ states.Out = ap state.places same ∙ place in
    ap (λ b. cond b states.Out (state.places k)) (le-ltb k pass (omega arith)) ∙ here ∙ ap (λ b. cond b states.Out (state.places k)) (sym (lt-ltb k (suc pass) (omega arith))))
    (λ n. ap (λ b. cond b states.Out (state.places k)) (sym (at_or_below k pass n))))
    is

-- the place of a pass that did not come out yet
not_below : (pass : ℕ) (state : State) → (left_below pass state).places pass ≡ state.places pass
not_below pass state = ap (λ b. cond b states.Out (state.places pass)) (le-ltb pass pass (omega arith))

-- one more pass, which was in, came out
pub leave_more : (a : Writing) (olds : List Slot) (b : Writing) (bs : List Slot) (c : Writing) (cs : List Slot) (pass : ℕ) → Goes a olds (left_below pass) b bs → Goes b bs (left pass) c cs → IsInAt bs pass → pass < (writer_of b).passes → Goes a olds (left_below (suc pass)) c cs
leave_more a olds b bs c cs pass first second inside below = record {
  sizes = (second.sizes.0 ∙ first.sizes.0, second.sizes.1 ∙ first.sizes.1);
  back = λ all. first.back (second.back all);
  state = λ all state is.
      let mid = first.state (second.back all) state is in
      let at : is_in (state.places pass) ≡ true = ap is_in (sym (not_below pass state) ∙ sym (mid.places pass below)) ∙ place_inside (slot_at bs pass) inside in
      one_left c cs pass state at (second.state all (left_below pass state) mid);
}

-- or it was out
pub out_more : (a : Writing) (olds : List Slot) (b : Writing) (bs : List Slot) (pass : ℕ) → Goes a olds (left_below pass) b bs → IsOutAt bs pass → pass < (writer_of b).passes → Goes a olds (left_below (suc pass)) b bs
out_more a olds b bs pass first out below = record {
  sizes = first.sizes;
  back = first.back;
  state = λ all state is.
      let mid = first.state all state is in
      let at : state.places pass ≡ states.Out = sym (not_below pass state) ∙ sym (mid.places pass below) ∙ place_out (slot_at bs pass) out in
      one_out b bs pass state (ap is_in at) at mid;
}

-- one more slot has its pass out
pub slots_more : (pass : ℕ) (olds news : List Slot) → AreOut pass olds → IsOutAt news pass → ((k : ℕ) → k ≢ pass → slot_at news k ≡ slot_at olds k) → (k : ℕ) → k < pass + 1 → IsOutAt news k
slots_more pass olds news before here others k below =
    ⊎_elim
    (λ (e : k ≡ pass). subst (λ j. IsOutAt news j) (sym e) here)
    (λ (n : k ≡ pass → ⊥). subst (λ (s : Slot). IsOutSlot s) (sym (others k n)) (before k (omega (arith, n))))
    (cases_eq k pass)
