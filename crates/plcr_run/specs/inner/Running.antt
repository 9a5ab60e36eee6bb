-- The statements of a script so far.
use Rattle.std.specs.Prelude.{◌≡◌, ℕ, false, List, ◌++◌}
use Rattle.plcr_base.specs.Told.{Gains}
use Rattle.plcr_script.specs.Scripts.{ScriptValue}
use Rattle.plcr_script.specs.declared.statements.NumberedStatement.{NumberedStatement}
use Rattle.plcr_script.specs.Meanings.{Meanings}
use Rattle.plcr_script.specs.RunStates.{State, is_in, first_state}
use Rattle.plcr_script.specs.Run.{run_of, kept_by}
use Rattle.plcr_script.specs.RunLaws.{state_behind, Follows}
use Rattle.plcr_command.specs.Seen.{Seen}
use Rattle.plcr_run.specs.declared.slots.Slot.{Slot}
use Rattle.plcr_run.specs.declared.writing.Writing.{Writing}
use Rattle.plcr_run.specs.inner.Slots.{slot_at}
use Rattle.plcr_run.specs.inner.Tokens.{writer_of, IsAll, place_in, StateIs}
use Rattle.plcr_run.specs.inner.Stepping.{will_change}
use Rattle.plcr_run.specs.Runs.{run_behind, IsDone, IsStopped}

-- the tokens of a list that was opened with the sizes of the script: nothing has happened, and all
-- passes are out
pub record IsFresh (script : ScriptValue) (writing : Writing) (slots : List Slot) : Type 0 where
  pub nodes : (writer_of writing).nodes ≡ script.nodes
  pub passes : (writer_of writing).passes ≡ script.passes
  pub state : StateIs writing slots first_state
  pub out : (k : ℕ) → is_in (place_in (slot_at slots k)) ≡ false

-- all statements were done, where the writer has seen all
pub record RunDone (process : Meanings) (script : ScriptValue) (old : Seen) (writing : Writing)
    (slots : List Slot) (new : Seen) : Type 0 where
  pub nodes : (writer_of writing).nodes ≡ script.nodes
  pub passes : (writer_of writing).passes ≡ script.passes
  pub done : IsAll writing slots → IsDone (run_of process script) old new
  pub state : IsAll writing slots →
      StateIs writing slots (state_behind process script script.statements)

-- the run stopped behind some statements: their files were kept, what they made happen did, and the
-- list will have the changes that these make
pub record StoppedBehind (process : Meanings) (script : ScriptValue) (old : Seen)
    (writing : Writing) (slots : List Slot) (new : Seen) : Type 0 where
  pub done : List NumberedStatement
  pub others : List NumberedStatement
  pub parts : script.statements ≡ done ++ others
  pub kept : Gains old.desk.kept new.desk.kept (kept_by (run_behind process script done))
  pub state : State
  pub is : StateIs writing slots state
  pub changes : will_change state ≡ will_change (state_behind process script done)
  pub went : Follows (state_behind process script done).events state.events

pub record RunStopped (process : Meanings) (script : ScriptValue) (old : Seen) (writing : Writing)
    (slots : List Slot) (new : Seen) : Type 0 where
  pub nodes : (writer_of writing).nodes ≡ script.nodes
  pub passes : (writer_of writing).passes ≡ script.passes
  pub stopped : IsAll writing slots → IsStopped (run_of process script) old new
  pub behind : IsAll writing slots → StoppedBehind process script old writing slots new
