-- The changes of a run that stops are the first of those that the whole run makes.
use Rattle.std.proofs.Common.{◌≡◌, ◌⊎◌, inl, inr, ℕ, zero, suc, ◌+◌, ◌-◌, ◌<◌, Bool, true, false, List, [], ◌∷◌, ◌++◌, Option, Some, None, eqb, ltb, refl, sym, ap, ◌∙◌, arith, add-zero, add-suc, add_assoc}
use Rattle.std.specs.Prelude.{if◌then◌else◌}
use Rattle.plcr_machine.specs.declared.change.Change.{Change}
use Rattle.plcr_machine.specs.declared.entry.Entry.TheVariants.{Count}
use Rattle.plcr_machine.specs.Events.{Event, Changed, Noted, changes_in}
use Rattle.plcr_script.specs.Meanings.{Meanings}
use Rattle.plcr_script.specs.declared.statements.NumberedStatement.{NumberedStatement}
use Rattle.plcr_script.specs.RunChanges.{Plan}
use Rattle.plcr_script.specs.RunStates.{Opened, steps_in, steps_left, stepped, steps, searched, Place, is_in, walk, State, first_state, entered, walked, leaves, left, all_left, finished, ended}
use Rattle.plcr_script.specs.RunTurns.{turn_of}
use Rattle.plcr_script.specs.Run.{state_after, turns_from, end_after}
use Rattle.plcr_script.specs.RunLaws.{RunsGoOn, StoppedRunsArePrefixes}
use Rattle.plcr_script.proofs.Turning.{with_open, after_steps, after_all, looked, MayCome, searched_changes, statements_keep}
use Rattle.plcr_script.proofs.SoundRuns.{AddNothing, AddChange, step_changes}

-- steps add the same changes to whatever had the same
stepped_same : (plan : Plan) (made : ℕ) (a b : List Event) → changes_in a ≡ changes_in b → changes_in (stepped plan made a) ≡ changes_in (stepped plan made b)
stepped_same plan made a b same = of (eqb made plan.before) (ltb plan.before made)
  where
    of : (at past : Bool) → changes_in (if at then Changed plan.change ∷ a else if past then Noted Count ∷ a else a) ≡ changes_in (if at then Changed plan.change ∷ b else if past then Noted Count ∷ b else b)
    of true past = ap (λ (cs : List Change). plan.change ∷ cs) same
    of false true = same
    of false false = same

steps_same : (o : Opened) (n : ℕ) (a b : List Event) → changes_in a ≡ changes_in b → changes_in (steps o n a) ≡ changes_in (steps o n b)
steps_same o zero a b same = same
steps_same o (suc n) a b same = stepped_same o.plan (o.made + n) (steps o n a) (steps o n b) (steps_same o n a b same)

-- the changes of a state, with the open one made to its end
abbrev pub will_be : Option Opened → List Event → List Change
will_be opened events = changes_in (finished opened events)

pub will_be_same : (opened : Option Opened) (a b : List Event) → changes_in a ≡ changes_in b → will_be opened a ≡ will_be opened b
will_be_same None a b same = same
will_be_same (Some o) a b same = steps_same o (steps_left o) a b same

-- steps of a change go on from those that were made
steps_on : (o : Opened) (n more : ℕ) (events : List Event) → steps (record o { made = o.made + n }) more (steps o n events) ≡ steps o (n + more) events
steps_on o n zero events = rw (add-zero n) refl
steps_on o n (suc more) events = rw (add-suc n more, ← add_assoc o.made n more, steps_on o n more events) refl

-- what will be at the end goes on from this
abbrev pub GoesOn : List Change → State → Type 0
GoesOn past s = (later : List Change) × (will_be s.opened s.events ≡ later ++ past)

module _ (past : List Change) where
  same_keeps : (opened : Option Opened) (a b : List Event) → changes_in b ≡ changes_in a → ((later : List Change) × (will_be opened a ≡ later ++ past)) → (later : List Change) × (will_be opened b ≡ later ++ past)
  same_keeps opened a b same h = (h.0, will_be_same opened b a same ∙ h.1)

  looks_go : (nodes passes : ℕ) (s : State) → GoesOn past s → GoesOn past (looked nodes passes s)
  looks_go nodes passes s h = same_keeps s.opened s.events (searched nodes passes s.events) (searched_changes nodes passes s.events) h

  opening_goes : (s : State) (plan : Plan) → GoesOn past s → s.opened ≡ None → MayCome plan s → GoesOn past (with_open plan s)
  opening_goes s plan h none may = of (step_changes o (steps_left o) s.events)
    where
      o : Opened
      o = record { plan = plan; made = 0 }

      now : changes_in s.events ≡ h.0 ++ past
      now = rw none at h.1

      of : AddNothing o (steps_left o) s.events ⊎ AddChange o (steps_left o) s.events → GoesOn past (with_open plan s)
      of (inl same) = (h.0, same.0 ∙ now)
      of (inr came) = (plan.change ∷ h.0, came.0 ∙ ap (λ (cs : List Change). plan.change ∷ cs) now)

  steps_go : (s : State) (o : Opened) (more : ℕ) → GoesOn past s → s.opened ≡ Some o → more < steps_left o → GoesOn past (after_steps more o s)
  steps_go s o more h is few =
      let left : more + (steps_in o.plan - (o.made + more)) ≡ steps_left o = omega (arith, few) in
      let will : changes_in (steps o (steps_left o) s.events) ≡ h.0 ++ past = rw is at h.1 in
      (h.0, ap changes_in (steps_on o more (steps_in o.plan - (o.made + more)) s.events ∙ ap (λ (k : ℕ). steps o k s.events) left) ∙ will)

  end_goes : (s : State) (o : Opened) → GoesOn past s → s.opened ≡ Some o → GoesOn past (after_all o s)
  end_goes s o h is = (h.0, rw is at h.1)

  enter_goes : (s : State) (p : ℕ) → GoesOn past s → GoesOn past (entered p s)
  enter_goes s p h = same_keeps s.opened s.events (entered p s).events refl h

  walk_goes : (s : State) (p most : ℕ) → GoesOn past s → GoesOn past (walked p (walk most (changes_in s.events) (s.places p)) s)
  walk_goes s p most h = h

  leave_goes : (s : State) (p : ℕ) → GoesOn past s → GoesOn past (left p s)
  leave_goes s p h = same_keeps s.opened s.events (left p s).events refl h

  -- and so do statements
  pub statements_go : (process : Meanings) (nodes passes : ℕ) (s : State) (xs : List NumberedStatement) → GoesOn past s → GoesOn past (state_after process nodes passes s xs)
  statements_go process nodes passes s xs h = statements_keep process nodes passes (GoesOn past) (looks_go nodes passes) opening_goes steps_go end_goes enter_goes walk_goes leave_goes xs s h

-- what will be at the end goes on from what is now
pub goes_from_now : (s : State) → GoesOn (changes_in s.events) s
goes_from_now s = of s.opened
  where
    of : (o : Option Opened) → (later : List Change) × (will_be o s.events ≡ later ++ changes_in s.events)
    of None = ([], refl)
    of (Some o) = steps_of (step_changes o (steps_left o) s.events)
      where
        steps_of : AddNothing o (steps_left o) s.events ⊎ AddChange o (steps_left o) s.events → (later : List Change) × (changes_in (steps o (steps_left o) s.events) ≡ later ++ changes_in s.events)
        steps_of (inl same) = ([], same.0)
        steps_of (inr came) = (o.plan.change ∷ [], came.0)

-- the passes that come out at the end change nothing
all_left_changes : (passes : ℕ) (places : ℕ → Place) (events : List Event) → changes_in (all_left passes places events) ≡ changes_in events
all_left_changes zero places events = refl
all_left_changes (suc p) places events = of (is_in (places p)) ∙ all_left_changes p places events
  where
    of : (b : Bool) → changes_in (if b then leaves p (all_left p places events) else all_left p places events) ≡ changes_in (all_left p places events)
    of true = refl
    of false = refl

-- the changes at the end of a run that ends in a state
pub ended_changes : (passes : ℕ) (s : State) → changes_in (ended passes s) ≡ changes_in (finished s.opened s.events)
ended_changes passes s = will_be_same s.opened (all_left passes s.places s.events) s.events (all_left_changes passes s.places s.events)

-- more statements go on from the state that the first leave
pub states_go_on : (process : Meanings) (nodes passes : ℕ) (s : State) (xs ys : List NumberedStatement) → state_after process nodes passes s (xs ++ ys) ≡ state_after process nodes passes (state_after process nodes passes s xs) ys
states_go_on process nodes passes s [] ys = refl
states_go_on process nodes passes s (x ∷ xs) ys = states_go_on process nodes passes (turn_of process nodes passes s x.statement).state xs ys

turns_go_on : (process : Meanings) (nodes passes : ℕ) (s : State) (xs ys : List NumberedStatement)
    → turns_from process nodes passes s (xs ++ ys) ≡ turns_from process nodes passes s xs ++ turns_from process nodes passes (state_after process nodes passes s xs) ys
turns_go_on process nodes passes s [] ys = refl
turns_go_on process nodes passes s (x ∷ xs) ys = rw (turns_go_on process nodes passes (turn_of process nodes passes s x.statement).state xs ys) refl

pub runs_go_on : RunsGoOn
runs_go_on process nodes passes s xs ys = (states_go_on process nodes passes s xs ys, turns_go_on process nodes passes s xs ys)

-- a run that stops made the first of the changes
pub stopped_prefix : StoppedRunsArePrefixes
unfolding end_after
stopped_prefix process script xs ys parts =
    let nodes = script.nodes in
    let passes = script.passes in
    let s = state_after process nodes passes first_state xs in
    let past = will_be s.opened s.events in
    let go = statements_go past process nodes passes s ys ([], refl) in
    let whole : state_after process nodes passes first_state script.statements ≡ state_after process nodes passes s ys = ap (state_after process nodes passes first_state) parts ∙ states_go_on process nodes passes first_state xs ys in
    (go.0, ap (λ (t : State). changes_in (ended passes t)) whole ∙ ended_changes passes (state_after process nodes passes s ys) ∙ go.1 ∙ ap (λ (cs : List Change). go.0 ++ cs) (sym (ended_changes passes s)))
