-- What running a script comes to, statement by statement, and what its image list has seen at the
-- end.
use Rattle.std.specs.Prelude.{ℕ, List, [], ◌∷◌, None, map, flat_map}
use Rattle.plcr_machine.specs.declared.change.Change.{Change}
use Rattle.plcr_machine.specs.declared.entry.Entry.{Entry}
use Rattle.plcr_machine.specs.Events.{Event, changes_in, HasEvents}
use Rattle.plcr_script.specs.declared.statements.NumberedStatement.{NumberedStatement}
use Rattle.plcr_script.specs.declared.outcomes.Outcome.{Outcome}
use Rattle.plcr_script.specs.Scripts.{ScriptValue}
use Rattle.plcr_script.specs.Log.{log_line}
use Rattle.plcr_script.specs.Meanings.{Meanings}
use Rattle.plcr_script.specs.RunStates.{State, first_state, ended}
use Rattle.plcr_script.specs.RunTurns.{Turn, turn_of}

-- the turn of a statement, and the number of its line
pub record NumberedTurn : Type 0 where
  pub line : ℕ
  pub turn : Turn

-- what statements come to, one after the other, each in the state that those before it leave
abbrev pub turns_from : Meanings → (nodes passes : ℕ) → State → List NumberedStatement →
    List NumberedTurn
turns_from process nodes passes state [] = []
turns_from process nodes passes state (s ∷ others) =
    record { line = s.line; turn = turn_of process nodes passes state s.statement }
    ∷ turns_from process nodes passes (turn_of process nodes passes state s.statement).state others

-- the state that statements leave
abbrev pub state_after : Meanings → (nodes passes : ℕ) → State → List NumberedStatement → State
state_after process nodes passes state [] = state
state_after process nodes passes state (s ∷ others) =
    state_after process nodes passes (turn_of process nodes passes state s.statement).state others

-- the run of a script
unfoldable pub run_of : Meanings → ScriptValue → List NumberedTurn
run_of process script = turns_from process script.nodes script.passes first_state script.statements

-- what each line came to
abbrev pub outcomes_of : List NumberedTurn → List (ℕ × Outcome)
outcomes_of run = map (λ t. (t.line, t.turn.outcome)) run

-- the files that a run keeps, in order
abbrev pub kept_by : List NumberedTurn → List (List ℕ × List ℕ)
kept_by run = flat_map (λ t. t.turn.kept) run

-- the log of a run: a line for each statement
abbrev pub log_of : List NumberedTurn → List ℕ
log_of run = flat_map (λ t. log_line None t.line t.turn.outcome) run

-- what has happened once a run that did these statements of a script has ended: passes that are in
-- come out, in the order of their numbers, and an open change is made to its end
unfoldable pub end_after : Meanings → ScriptValue → List NumberedStatement → List Event
end_after process script statements =
    ended script.passes (state_after process script.nodes script.passes first_state statements)

-- what has happened at the end of a script
abbrev pub end_of : Meanings → ScriptValue → List Event
end_of process script = end_after process script script.statements

-- a history that the list of a run may have at the end of the script. Which of the free nodes a
-- load takes stays open
abbrev pub MayHave : Meanings → ScriptValue → List Entry → List (List ℕ) → Type 0
MayHave process script history names =
    HasEvents script.nodes script.passes (end_of process script) history names

-- the changes of a list whose run ended behind these statements of the script, the newest first
abbrev pub changes_after : Meanings → ScriptValue → List NumberedStatement → List Change
changes_after process script statements = changes_in (end_after process script statements)
