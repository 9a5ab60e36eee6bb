-- What is known of the image list that a run went over, once it has ended: the writer that it
-- leaves.
use Rattle.std.specs.Prelude.{◌≡◌, ◌⊎◌, ℕ, ◌<◌, true, List, ◌++◌, Option, Some, None}
use Rattle.plcr_base.specs.Told.{Gains}
use Rattle.plcr_machine.specs.declared.change.Change.{Change}
use Rattle.plcr_machine.specs.Histories.{IsHistory}
use Rattle.plcr_machine.specs.Changes.{TakesFirst, changes_of}
use Rattle.plcr_machine.specs.Events.{events_of}
use Rattle.plcr_nodes.specs.Entries.{among}
use Rattle.plcr_imagelist.specs.States.{WriterState}
use Rattle.plcr_script.specs.Scripts.{ScriptValue}
use Rattle.plcr_script.specs.Meanings.{Meanings}
use Rattle.plcr_script.specs.declared.statements.NumberedStatement.{NumberedStatement}
use Rattle.plcr_script.specs.Run.{run_of, kept_by, MayHave, changes_after}
use Rattle.plcr_script.specs.RunLaws.{Follows, state_behind}
use Rattle.plcr_command.specs.declared.endings.Ending.{Ending}
use Rattle.plcr_command.specs.declared.endings.Ending.TheVariants.{Done, Misused, Refused, Stopped}
use Rattle.plcr_command.specs.declared.refusals.Refusal.TheVariants.{OutOfMemory}
use Rattle.plcr_command.specs.Seen.{Seen}
use Rattle.plcr_run.specs.Runs.{run_behind, IsDone, IsStopped}

-- The writer of a list with the sizes of the script, which each pass of the list has met: so it has
-- seen all that happened on the list
pub record HasMetAll (script : ScriptValue) (past : Option WriterState)
    (writer : WriterState) : Type 0 where
  pub is : past ≡ Some writer
  pub nodes : writer.nodes ≡ script.nodes
  pub passes : writer.passes ≡ script.passes
  pub met : (pass : ℕ) → pass < script.passes → among pass writer.joined ≡ true

-- what happened on the list is what the whole script means. Which free node each load took is open
pub record LeavesWhole (process : Meanings) (script : ScriptValue)
    (past : Option WriterState) : Type 0 where
  pub writer : WriterState
  pub all : HasMetAll script past writer
  pub may : MayHave process script writer.history writer.names

-- what happened on the list is lawful; it goes on from what the first statements of the script
-- mean, and its changes are those of these statements: the first of those that the whole script
-- makes
pub record LeavesPart (process : Meanings) (script : ScriptValue)
    (past : Option WriterState) : Type 0 where
  pub done : List NumberedStatement
  pub others : List NumberedStatement
  pub parts : script.statements ≡ done ++ others
  pub writer : WriterState
  pub all : HasMetAll script past writer
  pub legal : IsHistory script.nodes script.passes writer.history writer.names
  pub first : TakesFirst writer.history
  pub went : Follows (state_behind process script done).events
      (events_of writer.names writer.history)
  pub made : changes_of writer.names writer.history ≡ changes_after process script done
  pub later : List Change
  pub changes : changes_after process script script.statements
      ≡ later ++ changes_of writer.names writer.history

-- the whole script was run
pub record RanWhole (process : Meanings) (script : ScriptValue) (old new : Seen)
    (past : Option WriterState) : Type 0 where
  pub done : IsDone (run_of process script) old new
  pub past_is : LeavesWhole process script past

-- its run stopped at a file that wasn't kept, or at a line that wasn't printed whole. The files of
-- the statements that were done were kept
pub record RanPart (process : Meanings) (script : ScriptValue) (old new : Seen)
    (past : Option WriterState) : Type 0 where
  pub stopped : IsStopped (run_of process script) old new
  pub past_is : LeavesPart process script past
  pub kept : Gains old.desk.kept new.desk.kept (kept_by (run_behind process script past_is.done))

-- there was no memory for its list, and nothing was done
pub record RanNot (old new : Seen) (past : Option WriterState) : Type 0 where
  pub same : new ≡ old
  pub none : past ≡ None

-- how the run of a script ended, by its status
abbrev pub RunIs : Meanings → ScriptValue → Seen → Seen → Option WriterState → ℕ → Type 0
RunIs process script old new past status =
    ((status ≡ 0) × RanWhole process script old new past)
    ⊎ ((status ≡ 5) × RanPart process script old new past)
    ⊎ ((status ≡ 7) × RanNot old new past)

-- how it ended: all was done, it stopped, or memory was wanting. No run is refused for another
-- reason, or misused
abbrev pub PlayIs : Meanings → ScriptValue → Seen → Seen → Option WriterState → Ending → Type 0
PlayIs process script old new past Done = RanWhole process script old new past
PlayIs process script old new past Stopped = RanPart process script old new past
PlayIs process script old new past (Refused OutOfMemory) = RanNot old new past
PlayIs process script old new past (Refused refusal) = ⊥
PlayIs process script old new past Misused = ⊥
