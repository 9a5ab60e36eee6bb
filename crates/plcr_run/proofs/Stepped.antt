-- Steps of the open change, and the turns of a run.
use Rattle.std.proofs.Common.{◌≡◌, ℕ, zero, suc, ◌+◌, ◌<◌, Bool, true, false, List, [], Some, None, cond, leb, refl, sym, ap, ◌∙◌, subst, arith}
use Rattle.std.proofs.lemmas.Bool.{le-leb, lt-leb}
use Rattle.atomic_table.specs.Seated.{TableId}
use Rattle.plcr_machine.specs.declared.entry.Entry.{Entry}
use Rattle.plcr_machine.specs.Lists.{Grows}
use Rattle.plcr_machine.specs.Histories.{IsHistory}
use Rattle.plcr_machine.specs.Events.{events_of}
use Rattle.plcr_nodes.proofs.Seeing.{grows_again}
use Rattle.plcr_imagelist.specs.declared.change.Progress.TheVariants.{More, Done}
use Rattle.plcr_imagelist.specs.States.{WriterState, Doing, Loads, Unloads, ChangeState, IsAtRest, is_load, steps_of}
use Rattle.plcr_imagelist.specs.Listing.{HasLists, change_of}
use Rattle.plcr_imagelist.proofs.Changed.{has_lists}
use Rattle.plcr_script.specs.declared.outcomes.Outcome.{Outcome}
use Rattle.plcr_script.specs.declared.outcomes.Outcome.TheVariants as outcomes
use Rattle.plcr_script.specs.RunChanges.{made_outcome}
use Rattle.plcr_script.specs.RunStates.{Place, stepped, steps, steps_left}
use Rattle.plcr_script.specs.RunTurns.{where_open, stepped_through, stepped_on, step_turn}
use Rattle.plcr_run.specs.declared.writing.Writing.TheVariants.{Resting, Changing}
use Rattle.plcr_run.specs.inner.Tokens.{steps_before, opened_by}
use Rattle.plcr_run.specs.inner.Changes.{MakesSteps, IsSteppedOn, IsSteppedThrough, WriterTurns, said_when_made}
use Rattle.plcr_run.proofs.Still.{OwnerActs}
use Rattle.plcr_run.proofs.Owning.{WriterWent, went_twice, step_went, step_made, change_at}
use Rattle.plcr_run.proofs.WriterWent.{steps_went, stepped_known}
use Rattle.plcr_run.proofs.WriterTurned.{the_state, TurnIs, Knows, writer_turns, turn_by}

-- what steps leave as it was
pub record SameChange (old new : ChangeState) (count : ℕ) : Type 0 where
  pub doing : new.doing ≡ old.doing
  pub load : new.load ≡ old.load
  pub made : new.made ≡ old.made + count

pub same_change : (count : ℕ) (old new : ChangeState) → MakesSteps count old new → SameChange old new count
same_change zero old new m = record { doing = ap (λ (c : ChangeState). c.doing) m; load = ap (λ (c : ChangeState). c.load) m; made = let e = ap (λ (c : ChangeState). c.made) m in omega arith }
same_change (suc count) old new m =
    let before = same_change count old m.0 m.1 in
    let a = m.2.1 in
    record { doing = a.doing ∙ before.doing; load = a.load ∙ before.load; made = let one = a.made in let rest = before.made in omega arith }

-- and the plan of the change
plan_same : (old new : ChangeState) (count : ℕ) → SameChange old new count → (opened_by new).plan ≡ (opened_by old).plan
plan_same old new count s = λ i. record { change = change_of (s.doing i) (s.load i); load = s.load i; before = steps_before (s.doing i) }

-- steps add what a run says
pub record StepsMade (old new : ChangeState) (count : ℕ) (top : List Entry) : Type 0 where
  pub events : events_of new.writer.names new.writer.history ≡ steps (opened_by old) count (events_of old.writer.names old.writer.history)
  pub acts : OwnerActs new.writer.passes new.writer.history top
  pub known : IsHistory new.writer.nodes new.writer.passes new.writer.history new.writer.names

pub steps_made : (count : ℕ) (old new : ChangeState) (top : List Entry) → IsHistory old.writer.nodes old.writer.passes old.writer.history old.writer.names → MakesSteps count old new → OwnerActs old.writer.passes old.writer.history top → Grows new.writer.history top → StepsMade old new count top
steps_made zero old new top known m o on = subst (λ (c : ChangeState). StepsMade old c zero top) (sym m) (record { events = refl; acts = o; known = known })
steps_made (suc count) old new top known m o on =
    let mid : ChangeState = m.0 in
    let went = step_went mid (More new) m.2 in
    let before = steps_made count old mid top known m.1 o (grows_again mid.writer.history new.writer.history top went.grows on) in
    let same = same_change count old mid m.1 in
    let one = step_made mid (More new) top before.known m.2 before.acts on in
    record {
      events = one.made ∙ (λ i. stepped (plan_same old mid count same i) (same.made i) (before.events i));
      acts = one.acts;
      known = stepped_known mid (More new) before.known m.2;
    }

-- all that were left
pub through_made : (old : ChangeState) (writer : WriterState) (top : List Entry) → IsHistory old.writer.nodes old.writer.passes old.writer.history old.writer.names → (t : IsSteppedThrough old writer) → OwnerActs old.writer.passes old.writer.history top → Grows writer.history top
    → (suc t.0 ≡ steps_left (opened_by old)) × (events_of writer.names writer.history ≡ steps (opened_by old) (suc t.0) (events_of old.writer.names old.writer.history))
through_made old writer top known t o on =
    let last : ChangeState = t.1 in
    let went = step_went last (Done writer) t.3 in
    let before = steps_made t.0 old last top known t.2 o (grows_again last.writer.history writer.history top went.grows on) in
    let same = same_change t.0 old last t.2 in
    let one = step_made last (Done writer) top before.known t.3 before.acts on in
    let end = t.3.0 in
    let at = change_at old.doing in
    let doing : steps_of last.doing ≡ steps_of old.doing = ap steps_of same.doing in
    let made = same.made in
    (omega arith, one.made ∙ (λ i. stepped (plan_same old last t.0 same i) (same.made i) (before.events i)))

pub through_went : (old : ChangeState) (writer : WriterState) → IsSteppedThrough old writer → WriterWent old.writer writer
through_went old writer t = went_twice old.writer t.1.writer writer (steps_went t.0 old t.1 t.2) (step_went t.1 (Done writer) t.3)

-- what a change that was made comes to
made_said : (old : ChangeState) (loads : Bool) (load : ℕ) → loads ≡ is_load old.doing → load ≡ old.load → said_when_made loads load ≡ made_outcome (opened_by old).plan
made_said old loads load a b = (λ i. said_when_made (a i) (b i)) ∙ by_doing old.doing old.load
  where
    by_doing : (doing : Doing) (n : ℕ) → said_when_made (is_load doing) n ≡ made_outcome (record { change = change_of doing n; load = n; before = steps_before doing })
    by_doing (Loads header name) n = refl
    by_doing (Unloads image) n = refl

-- a change made to its end
through_is : (old : ChangeState) (writer : WriterState) (places : ℕ → Place) (said : Outcome) → Knows (Changing old) writer.history → IsSteppedThrough old writer → said ≡ made_outcome (opened_by old).plan
    → TurnIs (stepped_through (opened_by old) (the_state (Changing old) places)) (Resting writer) places said
through_is old writer places said k t is =
    let m = through_made old writer writer.history k.lists.known t k.acts ([], refl) in
    let events : steps (opened_by old) (steps_left (opened_by old)) (events_of old.writer.names old.writer.history) ≡ events_of writer.names writer.history = ap (λ n. steps (opened_by old) n (events_of old.writer.names old.writer.history)) (sym m.0) ∙ sym m.1 in
    record { state = λ i. record { events = events i; opened = None; places = places }; outcome = is }

pub end_turns : (table : TableId) (old : ChangeState) (writer : WriterState) (loads : Bool) (load : ℕ) (said : Outcome) → IsSteppedThrough old writer → IsAtRest writer → loads ≡ is_load old.doing → load ≡ old.load → said ≡ said_when_made loads load
    → WriterTurns table (Changing old) (λ n p. where_open stepped_through) (Resting writer) said
end_turns table old writer loads load said t rest a b is =
    writer_turns table (Changing old) (Resting writer) (λ n p. where_open stepped_through) said (through_went old writer t) (has_lists writer rest.known rest.first) (λ g. rest)
    (λ places k. through_is old writer places said k t (is ∙ made_said old loads load a b))

-- at most so many steps
pub step_done : (table : TableId) (old : ChangeState) (most : ℕ) (writer : WriterState) (loads : Bool) (load : ℕ) (said : Outcome) → IsSteppedOn old most (Done writer) → loads ≡ is_load old.doing → load ≡ old.load → said ≡ said_when_made loads load
    → WriterTurns table (Changing old) (λ n p. where_open (step_turn most)) (Resting writer) said
step_done table old most writer loads load said s a b is =
    let t : IsSteppedThrough old writer = (s.0, s.1, s.3, s.4) in
    let rest : IsAtRest writer = s.4.2 in
    writer_turns table (Changing old) (Resting writer) (λ n p. where_open (step_turn most)) said (through_went old writer t) (has_lists writer rest.known rest.first) (λ g. rest)
    (λ places k.
    let m = through_made old writer writer.history k.lists.known t k.acts ([], refl) in
    let few = s.2 in
    let test : leb (steps_left (opened_by old)) most ≡ true = let all = m.0 in le-leb (steps_left (opened_by old)) most (omega arith) in
    turn_by _ _ (Resting writer) places said (ap (λ b. cond b (stepped_through (opened_by old) (the_state (Changing old) places)) (stepped_on most (opened_by old) (the_state (Changing old) places))) test)
    (through_is old writer places said k t (is ∙ made_said old loads load a b)))

-- a change that is open still has steps left
still_open : (old new : ChangeState) (most : ℕ) → old.made < steps_of old.doing → MakesSteps most old new → new.made < steps_of new.doing
still_open old new zero few m = subst (λ (c : ChangeState). c.made < steps_of c.doing) (sym m) few
still_open old new (suc most) few m =
    let a = m.2.1 in
    let doing : steps_of new.doing ≡ steps_of m.0.doing = ap steps_of a.doing in
    let one = a.made in
    let left = m.2.0 in
    omega arith

pub step_more : (table : TableId) (old new : ChangeState) (most made : ℕ) → IsSteppedOn old most (More new) → (HasLists old.writer → HasLists new.writer) → made ≡ new.made
    → WriterTurns table (Changing old) (λ n p. where_open (step_turn most)) (Changing new) (outcomes.Stepped made)
step_more table old new most made s more is slots tokens =
    let lists = more tokens.lists in
    let same = same_change most old new s in
    writer_turns table (Changing old) (Changing new) (λ n p. where_open (step_turn most)) (outcomes.Stepped made) (steps_went most old new s) lists (λ g. (lists, still_open old new most g.1 s))
    (λ places k.
    let m = steps_made most old new new.writer.history k.lists.known s k.acts ([], refl) in
    let at = change_at old.doing in
    let left = still_open old new most k.going.1 s in
    let doing : steps_of new.doing ≡ steps_of old.doing = ap steps_of same.doing in
    let count = same.made in
    let test : leb (steps_left (opened_by old)) most ≡ false = lt-leb (steps_left (opened_by old)) most (omega arith) in
    let opened : record { plan = (opened_by old).plan; made = old.made + most } ≡ opened_by new = λ i. record { plan = sym (plan_same old new most same) i; made = sym same.made i } in
    turn_by _ _ (Changing new) places (outcomes.Stepped made) (ap (λ b. cond b (stepped_through (opened_by old) (the_state (Changing old) places)) (stepped_on most (opened_by old) (the_state (Changing old) places))) test)
    (record { state = λ i. record { events = sym m.events i; opened = Some (opened i); places = places }; outcome = ap outcomes.Stepped (is ∙ same.made) })) slots tokens
