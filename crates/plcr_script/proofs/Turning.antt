-- What each statement of a run keeps.
use Rattle.std.proofs.Common.{◌≡◌, ℕ, zero, suc, ◌+◌, ◌<◌, Bool, true, false, List, [], ◌∷◌, Option, Some, None, Result, Ok, Err, leb, refl, subst}
use Rattle.std.specs.Prelude.{if◌then◌else◌, ok_or, option_map}
use Rattle.std.proofs.lemmas.Bool.{leb-false}
use Rattle.plcr_base.specs.Chains.{passed}
use Rattle.plcr_machine.specs.declared.change.Named.{Named}
use Rattle.plcr_machine.specs.declared.change.Change.{Change}
use Rattle.plcr_machine.specs.Changes.{list_of}
use Rattle.plcr_machine.specs.Events.{Event, changes_in, looks}
use Rattle.plcr_script.specs.declared.outcomes.Outcome.{Outcome}
use Rattle.plcr_script.specs.declared.outcomes.Outcome.TheVariants.{NotLoaded}
use Rattle.plcr_script.specs.declared.statements.Statement.{Statement}
use Rattle.plcr_script.specs.declared.statements.Statement.TheVariants as statements
use Rattle.plcr_script.specs.declared.statements.NumberedStatement.{NumberedStatement}
use Rattle.plcr_script.specs.Places.{pass_of}
use Rattle.plcr_script.specs.Meanings.{Meanings}
use Rattle.plcr_script.specs.RunChanges.{Plan, first_with, worn, load_refusal, load_plan, planned_load, unload_plan, found_unload, unless_refusal, planned_unload}
use Rattle.plcr_script.specs.RunStates.{Opened, steps_left, steps, is_full, searched, State, entered, entered_if_out, is_in, walked, walk, left}
use Rattle.plcr_script.specs.RunTurns.{Turn, comes_to, stepped_on, stepped_through, step_turn, where_open, left_open, made_whole, unless_refused, unless_busy, full, with_opened, without_opened, with_node, load_turn, unload_turn, turn_of}
use Rattle.plcr_script.specs.Run.{state_after}
use Rattle.plcr_script.proofs.NumberedChanges.{AreNumbered}

-- the state with a change open of which no step is made
abbrev pub with_open : Plan → State → State
with_open plan state = record state { opened = Some (record { plan = plan; made = 0 }) }

-- and after some steps of the open change, or all
abbrev pub after_steps : ℕ → Opened → State → State
after_steps more opened state = record state { events = steps opened more state.events; opened = Some (record opened { made = opened.made + more }) }

abbrev pub after_all : Opened → State → State
after_all opened state = record state { events = steps opened (steps_left opened) state.events; opened = None }

abbrev pub looked : ℕ → ℕ → State → State
looked nodes passes state = record state { events = searched nodes passes state.events }

-- the change of a plan may come next, where loads are numbered
abbrev pub MayCome : Plan → State → Type 0
MayCome plan state = AreNumbered (changes_in state.events) → AreNumbered (plan.change ∷ changes_in state.events)

-- looks change nothing
pub looks_changes : (passes : ℕ) (events : List Event) → changes_in (looks passes events) ≡ changes_in events
looks_changes zero events = refl
looks_changes (suc pass) events = looks_changes pass events

pub searched_changes : (nodes passes : ℕ) (events : List Event) → changes_in (searched nodes passes events) ≡ changes_in events
searched_changes nodes passes events = of (is_full nodes passes events)
  where
    of : (b : Bool) → changes_in (if b then looks passes events else events) ≡ changes_in events
    of true = looks_changes passes events
    of false = refl

-- a load and an unload that are planned may come next
load_may_come : (fault : Option ℕ) (changes : List Change) (header : ℕ) (name : List ℕ) (plan : Plan) → planned_load fault changes header name ≡ Ok plan → AreNumbered changes → AreNumbered (plan.change ∷ changes)
load_may_come fault changes header name plan e numbered = of (load_refusal fault changes name) e
  where
    of : (refusal : Option Outcome) → passed (load_plan changes header name) refusal ≡ Ok plan → AreNumbered (plan.change ∷ changes)
    of None h = let same : load_plan changes header name ≡ plan = cc in subst (λ (p : Plan). AreNumbered (p.change ∷ changes)) same (refl, numbered)
    of (Some refusal) h = absurd cc

unload_may_come : (changes : List Change) (header : ℕ) (plan : Plan) → planned_unload changes header ≡ Ok plan → AreNumbered changes → AreNumbered (plan.change ∷ changes)
unload_may_come changes header plan e numbered = of (worn changes) e
  where
    found : (image : Option Named) → ok_or (option_map (unload_plan header) image) NotLoaded ≡ Ok plan → AreNumbered (plan.change ∷ changes)
    found None h = absurd cc
    found (Some image) h = let same : unload_plan header image ≡ plan = cc in subst (λ (p : Plan). AreNumbered (p.change ∷ changes)) same numbered

    of : (refusal : Option Outcome) → unless_refusal refusal (found_unload changes header) ≡ Ok plan → AreNumbered (plan.change ∷ changes)
    of None h = found (first_with header (list_of changes)) h
    of (Some refusal) h = absurd cc

module _ (process : Meanings) (nodes passes : ℕ) (P : State → Type 0)
    (looks_keep : (s : State) → P s → P (looked nodes passes s))
    (opening_keeps : (s : State) (plan : Plan) → P s → s.opened ≡ None → MayCome plan s → P (with_open plan s))
    (steps_keep : (s : State) (o : Opened) (more : ℕ) → P s → s.opened ≡ Some o → more < steps_left o → P (after_steps more o s))
    (end_keeps : (s : State) (o : Opened) → P s → s.opened ≡ Some o → P (after_all o s))
  where
    -- what is done with a plan keeps it
    abbrev Keeps : (Plan → State → Turn) → Type 0
    Keeps done = (s : State) (plan : Plan) → P s → s.opened ≡ None → MayCome plan s → P (done plan s).state

    open_keeps : Keeps left_open
    open_keeps s plan p none may = opening_keeps s plan p none may

    whole_keeps : Keeps made_whole
    whole_keeps s plan p none may = end_keeps (with_open plan s) (record { plan = plan; made = 0 }) (opening_keeps s plan p none may) refl

    node_keeps : (done : Plan → State → Turn) → Keeps done → Keeps (with_node nodes passes done)
    node_keeps done keeps s plan p none may = of (is_full nodes passes (looked nodes passes s).events)
      where
        found : State
        found = looked nodes passes s

        kept : P (looked nodes passes s)
        kept = looks_keep s p

        of : (b : Bool) → P (if b then comes_to (full nodes passes (looked nodes passes s).events) (looked nodes passes s) else done plan (looked nodes passes s)).state
        of true = kept
        of false = keeps (looked nodes passes s) plan kept none (rw (searched_changes nodes passes s.events) may)

    planned_keeps : (done : Plan → State → Turn) → Keeps done → (s : State) (planned : Result Plan Outcome) → P s → s.opened ≡ None → ((plan : Plan) → planned ≡ Ok plan → MayCome plan s) → P (unless_refused done planned s).state
    planned_keeps done keeps s (Ok plan) p none may = keeps s plan p none (may plan refl)
    planned_keeps done keeps s (Err refusal) p none may = p

    idle_keeps : (done : State → Turn) (s : State) → P s → (s.opened ≡ None → P (done s).state) → P (unless_busy done s).state
    idle_keeps done s p keeps = of s.opened refl
      where
        of : (o : Option Opened) → s.opened ≡ o → P (without_opened done o s).state
        of None e = keeps e
        of (Some opened) e = p

    load_keeps : (done : Plan → State → Turn) → Keeps done → (header : ℕ) (name : List ℕ) (s : State) → P s → P (load_turn process nodes passes done header name s).state
    load_keeps done keeps header name s p =
        idle_keeps (unless_refused (with_node nodes passes done) (planned_load (process.fault header) (changes_in s.events) header name)) s p
        (λ none. planned_keeps (with_node nodes passes done) (node_keeps done keeps) s (planned_load (process.fault header) (changes_in s.events) header name) p none
        (λ plan e numbered. load_may_come (process.fault header) (changes_in s.events) header name plan e numbered))

    unload_keeps : (done : Plan → State → Turn) → Keeps done → (header : ℕ) (s : State) → P s → P (unload_turn done header s).state
    unload_keeps done keeps header s p =
        idle_keeps (unless_refused done (planned_unload (changes_in s.events) header)) s p
        (λ none. planned_keeps done keeps s (planned_unload (changes_in s.events) header) p none (λ plan e numbered. unload_may_come (changes_in s.events) header plan e numbered))

    open_change_keeps : (done : Opened → State → Turn) (s : State) → P s → ((o : Opened) → s.opened ≡ Some o → P (done o s).state) → P (where_open done s).state
    open_change_keeps done s p keeps = of s.opened refl
      where
        of : (o : Option Opened) → s.opened ≡ o → P (with_opened done o s).state
        of None e = p
        of (Some opened) e = keeps opened e

    step_keeps : (most : ℕ) (o : Opened) (s : State) → P s → s.opened ≡ Some o → P (step_turn most o s).state
    step_keeps most o s p e = of (leb (steps_left o) most) refl
      where
        of : (b : Bool) → leb (steps_left o) most ≡ b → P (if b then stepped_through o s else stepped_on most o s).state
        of true h = end_keeps s o p e
        of false h = steps_keep s o most p e (leb-false (steps_left o) most h)

    -- each statement that names no pass keeps it
    pub changing_keeps : (s : State) (statement : Statement) → pass_of statement ≡ None → P s → P (turn_of process nodes passes s statement).state
    unfolding turn_of
    changing_keeps s (statements.Load header name) none p = load_keeps made_whole whole_keeps header name s p
    changing_keeps s (statements.Unload header) none p = unload_keeps made_whole whole_keeps header s p
    changing_keeps s (statements.BeginLoad header name) none p = load_keeps left_open open_keeps header name s p
    changing_keeps s (statements.BeginUnload header) none p = unload_keeps left_open open_keeps header s p
    changing_keeps s (statements.Step most) none p = open_change_keeps (step_turn most) s p (λ o e. step_keeps most o s p e)
    changing_keeps s statements.End none p = open_change_keeps stepped_through s p (λ o e. end_keeps s o p e)
    changing_keeps s other some p = absurd cc

    module _ (enter_keeps : (s : State) (pass : ℕ) → P s → P (entered pass s))
        (walk_keeps : (s : State) (pass most : ℕ) → P s → P (walked pass (walk most (changes_in s.events) (s.places pass)) s))
        (leave_keeps : (s : State) (pass : ℕ) → P s → P (left pass s))
      where
        -- so does that a pass goes in for a report
        pub enter_if_keeps : (s : State) (pass : ℕ) → P s → P (entered_if_out pass s)
        enter_if_keeps s pass p = of (is_in (s.places pass))
          where
            of : (b : Bool) → P (if b then s else entered pass s)
            of true = p
            of false = enter_keeps s pass p

        -- each statement keeps it
        pub turn_keeps : (s : State) (statement : Statement) → P s → P (turn_of process nodes passes s statement).state
        unfolding turn_of
        turn_keeps s (statements.Enter pass) p = enter_keeps s pass p
        turn_keeps s (statements.Walk pass most) p = walk_keeps s pass most p
        turn_keeps s (statements.Leave pass) p = leave_keeps s pass p
        turn_keeps s (statements.Report pass file) p = leave_keeps (entered_if_out pass s) pass (enter_if_keeps s pass p)
        turn_keeps s statement p = changing_keeps s statement refl p

        -- and so do all
        pub statements_keep : (xs : List NumberedStatement) (s : State) → P s → P (state_after process nodes passes s xs)
        statements_keep [] s p = p
        statements_keep (x ∷ xs) s p = statements_keep xs (turn_of process nodes passes s x.statement).state (turn_keeps s x.statement p)
