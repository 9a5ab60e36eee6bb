-- What each statement of a script comes to.
use Rattle.std.specs.Prelude.{ℕ, ◌+◌, ◌-◌, ◌*◌, List, [], ◌∷◌, Option, Some, None, Result, Ok, Err, length, map, nat_le, if◌then◌else◌}
use Rattle.plcr_machine.specs.declared.limits.TheConstants.{COUNT_UNIT}
use Rattle.plcr_machine.specs.declared.change.Named.{Named}
use Rattle.plcr_machine.specs.Passes.{announced_count}
use Rattle.plcr_machine.specs.Changes.{list_of}
use Rattle.plcr_machine.specs.Events.{Event, changes_in, noted_in}
use Rattle.plcr_macho.specs.Images.{Listed}
use Rattle.plcr_script.specs.declared.statements.Statement.{Statement}
use Rattle.plcr_script.specs.declared.statements.Statement.TheVariants as statements
use Rattle.plcr_script.specs.declared.outcomes.Outcome.{Outcome}
use Rattle.plcr_script.specs.declared.outcomes.Outcome.TheVariants.{Busy, Idle, Full, Begun, Stepped, Entered, Walked, Left, Reported}
use Rattle.plcr_script.specs.Contexts.{lent}
use Rattle.plcr_script.specs.Meanings.{Meanings}
use Rattle.plcr_script.specs.RunChanges.{Plan, planned_load, planned_unload, made_outcome}
use Rattle.plcr_script.specs.RunStates.{Opened, steps_in, steps_left, steps, is_full, searched, met_in, has_ended, walk, walk_to_end, State, entered, entered_if_out, walked, left, low_of, high_of}

-- what a statement comes to: its outcome, the state after it, and the files that it keeps
pub record Turn : Type 0 where
  pub outcome : Outcome
  pub state : State
  pub kept : List (List ℕ × List ℕ)

-- an outcome that keeps no file
abbrev pub comes_to : Outcome → State → Turn
comes_to outcome state = record { outcome = outcome; state = state; kept = [] }

-- so many steps more of an open change, after which it is open still
abbrev pub stepped_on : ℕ → Opened → State → Turn
stepped_on more opened state = comes_to (Stepped (opened.made + more))
    (record state {
      events = steps opened more state.events;
      opened = Some (record opened { made = opened.made + more });
    })

-- all steps that are left of an open change
abbrev pub stepped_through : Opened → State → Turn
stepped_through opened state = comes_to (made_outcome opened.plan)
    (record state { events = steps opened (steps_left opened) state.events; opened = None })

-- at most so many steps more of an open change
abbrev pub step_turn : ℕ → Opened → State → Turn
step_turn most opened state = if nat_le (steps_left opened) most then stepped_through opened state
    else stepped_on most opened state

-- what is done with the change that is open; idle where there is none
abbrev pub with_opened : (Opened → State → Turn) → Option Opened → State → Turn
with_opened done None state = comes_to Idle state
with_opened done (Some opened) state = done opened state

abbrev pub where_open : (Opened → State → Turn) → State → Turn
where_open done state = with_opened done state.opened state

-- a change of which no step is made yet stays open, or all its steps are made at once
abbrev pub left_open : Plan → State → Turn
left_open plan state =
    comes_to (Begun (steps_in plan))
    (record state { opened = Some (record { plan = plan; made = 0 }) })

abbrev pub made_whole : Plan → State → Turn
made_whole plan state = stepped_through (record { plan = plan; made = 0 }) state

-- what is done with a change, unless it is refused
abbrev pub unless_refused : (Plan → State → Turn) → Result Plan Outcome → State → Turn
unless_refused done (Err refusal) state = comes_to refusal state
unless_refused done (Ok plan) state = done plan state

-- what is done where no other change is open
abbrev pub without_opened : (State → Turn) → Option Opened → State → Turn
without_opened done None state = done state
without_opened done (Some opened) state = comes_to Busy state

abbrev pub unless_busy : (State → Turn) → State → Turn
unless_busy done state = without_opened done state.opened state

-- a list of which no node is free after the looks at its passes: how many images it has, how many
-- nodes are held back, and how many changes were made and how many passes announced
abbrev pub full : ℕ → ℕ → List Event → Outcome
full nodes passes events =
    let live = length (list_of (changes_in events)) in
    Full live (nodes - live)
    (length (changes_in events) * COUNT_UNIT + announced_count passes (noted_in events))

-- what is done with a load, where it finds a free node
abbrev pub with_node : (nodes passes : ℕ) → (Plan → State → Turn) → Plan → State → Turn
with_node nodes passes done plan state =
    let found = record state { events = searched nodes passes state.events } in
    if is_full nodes passes found.events then comes_to (full nodes passes found.events) found
    else done plan found

-- a load and an unload, by what is done with them
abbrev pub load_turn : Meanings → (nodes passes : ℕ) → (Plan → State → Turn) → ℕ → List ℕ → State →
    Turn
load_turn process nodes passes done header name state =
    unless_busy (unless_refused (with_node nodes passes done)
    (planned_load (process.fault header) (changes_in state.events) header name)) state

abbrev pub unload_turn : (Plan → State → Turn) → ℕ → State → Turn
unload_turn done header state =
    unless_busy (unless_refused done (planned_unload (changes_in state.events) header)) state

-- at most so many images more of the walk of a pass
abbrev pub walk_turn : ℕ → ℕ → State → Turn
walk_turn pass most state =
    let place = walk most (changes_in state.events) (state.places pass) in
    comes_to (Walked pass (length (met_in place)) (has_ended place)) (walked pass place state)

-- the pass comes out
abbrev pub leave_turn : ℕ → State → Turn
leave_turn pass state =
    comes_to (Left pass (length (met_in (state.places pass))) (low_of pass state) (high_of state))
    (left pass state)

-- the images without their numbers
abbrev pub listed : List Named → List Listed
listed images = map (λ image. record { header = image.header; name = image.name }) images

-- the images that a pass reports: those that its walk has met once it has come to its end
abbrev pub reported : ℕ → State → List Named
reported pass state = met_in (walk_to_end (changes_in state.events) (state.places pass))

-- a report of a pass that is in, after which it comes out
abbrev pub report_inside : Meanings → ℕ → List ℕ → State → Turn
report_inside process pass file state =
    let bytes = process.report (listed (reported pass state)) in
    record {
      outcome = Reported (lent file) (length bytes) (length (reported pass state))
          (low_of pass state) (high_of state);
      state = left pass state;
      kept = (file, bytes) ∷ [];
    }

-- a report: a pass that is out goes in for it
abbrev pub report_turn : Meanings → ℕ → List ℕ → State → Turn
report_turn process pass file state = report_inside process pass file (entered_if_out pass state)

-- what a statement comes to, on a list of this many nodes and passes
unfoldable pub turn_of : Meanings → (nodes passes : ℕ) → State → Statement → Turn
turn_of process nodes passes state (statements.Load header name) =
    load_turn process nodes passes made_whole header name state
turn_of process nodes passes state (statements.Unload header) = unload_turn made_whole header state
turn_of process nodes passes state (statements.BeginLoad header name) =
    load_turn process nodes passes left_open header name state
turn_of process nodes passes state (statements.BeginUnload header) =
    unload_turn left_open header state
turn_of process nodes passes state (statements.Step most) = where_open (step_turn most) state
turn_of process nodes passes state statements.End = where_open stepped_through state
turn_of process nodes passes state (statements.Enter pass) =
    comes_to (Entered pass) (entered pass state)
turn_of process nodes passes state (statements.Walk pass most) = walk_turn pass most state
turn_of process nodes passes state (statements.Leave pass) = leave_turn pass state
turn_of process nodes passes state (statements.Report pass file) =
    report_turn process pass file state
