-- What `threads CORE SCRIPT...` does, ending by ending, and what it leaves of the image list that
-- the scripts ran on.
use Rattle.std.specs.Prelude.{◌≡◌, ◌≢◌, ◌⊎◌, ℕ, ◌<◌, true, List, length, take, All, slice_get, [], ◌∷◌, ◌++◌, Option, Some, None}
use Rattle.std.specs.Io.KnownBytes.{append_known}
use Rattle.plcr_base.specs.Causes.{Rose}
use Rattle.plcr_base.specs.Told.{AppendsProperFront, Gains, Prints}
use Rattle.plcr_machine.specs.Histories.{IsHistory}
use Rattle.plcr_machine.specs.Passes.{IsPaced}
use Rattle.plcr_machine.specs.Changes.{TakesFirst, changes_of}
use Rattle.plcr_nodes.specs.Entries.{among}
use Rattle.plcr_imagelist.specs.States.{WriterState}
use Rattle.plcr_core.specs.declared.read.Core.{Core}
use Rattle.plcr_script.specs.Meanings.{Meanings, meanings}
use Rattle.plcr_script.specs.Scripts.{ScriptValue}
use Rattle.plcr_script.specs.Reading.{written_by}
use Rattle.plcr_command.specs.declared.jobs.Job.{Job}
use Rattle.plcr_command.specs.declared.endings.Ending.{Ending}
use Rattle.plcr_command.specs.Seen.{Seen}
use Rattle.plcr_command.specs.Jobs.{IsJob, JobMisread, job_files}
use Rattle.plcr_command.specs.Lines.{cannot_write}
use Rattle.plcr_command.specs.Process.{fault_at, meanings_of}
use Rattle.plcr_command.specs.Endings.{CannotPrint, Did, Ended, HasKept, HasRead, kept_names}
use Rattle.plcr_turns.specs.declared.lines.ChangeLine.{ChangeLine}
use Rattle.plcr_turns.specs.Lines.{lines_of, wanted_by}
use Rattle.plcr_workers.specs.declared.lines.PassLine.{PassLine}
use Rattle.plcr_workers.specs.Asking.{accepted_changes, change_lines}
use Rattle.plcr_workers.specs.Outcomes.{JournalRuns}
use Rattle.plcr_workers.specs.declared.command.TheConstants.{SIDE_BY_SIDE}
use Rattle.plcr_workers.specs.Stopped.{IsLawfulReport}
use Rattle.plcr_workers.specs.Log.{threads_log}
use Rattle.plcr_workers.specs.Threads.{ScriptsRun}

-- all was done: each file that the scripts write was made and kept, in the order of script and
-- line, none was given up, and a log was printed
pub record AllKept (job : Job) (old new : Seen) : Type 0 where
  pub journal : List ChangeLine
  pub others : List (List PassLine)
  pub files : List (List ℕ × List ℕ)
  pub names : kept_names files ≡ written_by job.scripts
  pub kept : HasKept files (threads_log job.scripts journal others) old new

-- of the files that the scripts write, in the order of script and line, the first were kept, and
-- then this one wasn't; a line says so, and nothing else was printed. Its output wasn't made, and
-- then none was kept; or all were made, and it wasn't written whole or not kept
pub record NotAllKept (job : Job) (old new : Seen) : Type 0 where
  pub name : List ℕ
  pub files : List (List ℕ × List ℕ)
  pub later : List (List ℕ)
  pub outcome : ((before : List (List ℕ)) × (files ≡ [])
      × (written_by job.scripts ≡ before ++ name ∷ later)
      × Gains old.desk.made new.desk.made before)
      ⊎ ((written_by job.scripts ≡ kept_names files ++ name ∷ later)
      × Gains old.desk.made new.desk.made (written_by job.scripts))
  pub kept : Gains old.desk.kept new.desk.kept files
  pub lines : Prints old.lines new.lines (cannot_write name) old.line_faults new.line_faults
  pub cause : Rose old.desk.out_faults new.desk.out_faults

-- each load and unload line of each script was applied, once and in the script's order
abbrev pub AllApplied : List ScriptValue → List ChangeLine → Type 0
AllApplied scripts journal = (number : ℕ) (script : ScriptValue) →
    slice_get scripts number ≡ Some script →
    wanted_by (lines_of number journal) ≡ change_lines script.statements

-- all files were kept, and then the sink of the lines didn't take the log of this journal whole, in
-- which all lines were applied
pub record NotPrinted (job : Job) (journal : List ChangeLine) (old new : Seen) : Type 0 where
  pub others : List (List PassLine)
  pub files : List (List ℕ × List ℕ)
  pub names : kept_names files ≡ written_by job.scripts
  pub cut : CannotPrint files [] (threads_log job.scripts journal others) old new
  pub applied : AllApplied job.scripts journal

-- why a run with this journal stopped
abbrev pub StoppedBy : Job → List ChangeLine → Seen → Seen → Type 0
StoppedBy job journal old new = NotAllKept job old new ⊎ NotPrinted job journal old new

abbrev pub HasStopped : Job → Seen → Seen → Type 0
HasStopped job old new = (journal : List ChangeLine) × StoppedBy job journal old new

-- what `threads CORE SCRIPT...` did, where it ended so
abbrev pub Threads : List ℕ → List (List ℕ) → Seen → Seen → Ending → Type 0
Threads core scripts old new ending =
    Did (IsJob SIDE_BY_SIDE) (JobMisread SIDE_BY_SIDE) (job_files core scripts) AllKept HasStopped
    old new ending

-- what `threads CORE SCRIPT...` does
abbrev pub ThreadsDoes : List ℕ → List (List ℕ) → Seen → Seen → ℕ → Type 0
ThreadsDoes core scripts old new status = Ended (Threads core scripts old new) status old new

-- the writer of the list that was opened for the scripts, which has met the pass of each script,
-- and what has happened there
pub record IsWriterOf (scripts : List ScriptValue) (past : Option WriterState) : Type 0 where
  pub writer : WriterState
  pub is : past ≡ Some writer
  pub known : IsHistory writer.nodes writer.passes writer.history writer.names
  pub first : TakesFirst writer.history
  pub paced : IsPaced writer.history
  pub met : (pass : ℕ) → pass < length scripts → among pass writer.joined ≡ true
  -- its list has as many nodes as the first script says, and a pass for each script
  pub nodes_are : (script : ScriptValue) → slice_get scripts 0 ≡ Some script →
      writer.nodes ≡ script.nodes
  pub passes_are : writer.passes ≡ length scripts

-- the same of the scripts that the files hold
abbrev pub LeftByScripts : (core : List ℕ) → (scripts : List (List ℕ)) → (old new : Seen) →
    Option WriterState → Type 0
LeftByScripts core scripts old new past =
    HasRead (IsJob SIDE_BY_SIDE) (job_files core scripts) (λ job old new.
    IsWriterOf job.scripts past) old new

-- what `threads CORE SCRIPT...` leaves, by its status: that writer, or none
pub record ThreadsLeave (core : List ℕ) (scripts : List (List ℕ)) (old new : Seen)
    (past : Option WriterState) (status : ℕ) : Type 0 where
  pub done : status ≡ 0 → LeftByScripts core scripts old new past
  pub stopped : status ≡ 5 → LeftByScripts core scripts old new past
  pub others : status ≢ 0 → status ≢ 5 → past ≡ None

-- what the core means to the run of scripts: the first of them has the values of all reports
abbrev pub meanings_in : Core → List ScriptValue → Meanings
meanings_in core [] = meanings (fault_at core) (λ images. [])
meanings_in core (script ∷ scripts) = meanings_of core script

-- a journal of these scripts and the history that the writer has seen are one another's: it has of
-- each script the first of its load and unload lines, in order, each once, and no other lines; its
-- accepted lines are the changes of the history, in order; and each line came to what those before
-- it make of it
pub record IsJournalOf (process : Meanings) (scripts : List ScriptValue) (journal : List ChangeLine)
    (w : WriterState) : Type 0 where
  pub lines : (number : ℕ) (script : ScriptValue) → slice_get scripts number ≡ Some script →
      (count : ℕ) × (wanted_by (lines_of number journal)
      ≡ take count (change_lines script.statements))
  pub alone : All (λ (l : ChangeLine). l.script < length scripts) journal
  pub changes : changes_of w.names w.history ≡ accepted_changes scripts journal
  pub outcomes : JournalRuns process scripts w [] [] journal

-- the run of a job's scripts left a writer, and its journal is one another's with what this has
-- seen; where all was done, that journal has each line of the scripts, and is the one that was
-- printed; where the log was cut, it is this journal's
pub record RanTogether (past : Option WriterState) (status : ℕ) (job : Job)
    (old new : Seen) : Type 0 where
  pub writer : WriterState
  pub is : past ≡ Some writer
  pub journal : List ChangeLine
  pub tells : IsJournalOf (meanings_in job.core job.scripts) job.scripts journal writer
  pub applied : status ≡ 0 → AllApplied job.scripts journal
  pub stopped : status ≡ 5 → StoppedBy job journal old new
  pub printed : status ≡ 0 → (others : List (List PassLine))
      × (new.lines ≡ append_known old.lines (threads_log job.scripts journal others))

-- where `threads CORE SCRIPT...` came to its run, what the journal tells is true
abbrev pub ThreadsTell : List ℕ → List (List ℕ) → Seen → Seen → Option WriterState → ℕ → Type 0
ThreadsTell core scripts old new past status =
    (status ≡ 0) ⊎ (status ≡ 5) →
    HasRead (IsJob SIDE_BY_SIDE) (job_files core scripts) (RanTogether past status) old new

-- the files that were kept are the first that the scripts write, in the order of script and line,
-- and each is a report of the images of a walk that is lawful between two lists of the history
pub record KeptReports (job : Job) (w : WriterState) (old new : Seen) : Type 0 where
  pub files : List (List ℕ × List ℕ)
  pub rest : List (List ℕ)
  pub names : written_by job.scripts ≡ kept_names files ++ rest
  pub gained : Gains old.desk.kept new.desk.kept files
  pub reports : All (λ (file : List ℕ × List ℕ).
      IsLawfulReport (meanings_in job.core job.scripts) w file.1) files

-- the run of a job's scripts left a writer, and what was kept are lawful reports of what this has
-- seen
pub record RanReports (past : Option WriterState) (job : Job) (old new : Seen) : Type 0 where
  pub writer : WriterState
  pub is : past ≡ Some writer
  pub kept : KeptReports job writer old new

-- where `threads CORE SCRIPT...` came to its run, also where it stopped, each file that it kept is
-- a lawful report
abbrev pub ThreadsKept : List ℕ → List (List ℕ) → Seen → Seen → Option WriterState → ℕ → Type 0
ThreadsKept core scripts old new past status = (status ≡ 0) ⊎ (status ≡ 5) →
    HasRead (IsJob SIDE_BY_SIDE) (job_files core scripts) (RanReports past) old new

-- a log was printed
abbrev pub IsPrinted : List ℕ → Seen → Seen → Type 0
IsPrinted log old new = new.lines ≡ append_known old.lines log

-- a log was cut: the sink of the lines took a front of it, and its count of faults rose
pub record IsCut (log : List ℕ) (old new : Seen) : Type 0 where
  pub lines : AppendsProperFront old.lines new.lines log
  pub cause : Rose old.line_faults new.line_faults

-- what the scripts of a job came to that ran whole, where this is what was told: one history, which
-- the writer has seen; a journal that has each load and unload line of each script once, and whose
-- accepted lines are the changes of the history; and for each script its other lines and its files,
-- which are those of a run of its statements: its stays with their windows, the images that they
-- met, and what their reports say. All files were kept, and the log of all this came out so
pub record RanWhole (past : Option WriterState) (CameOut : List ℕ → Seen → Seen → Type 0)
    (job : Job) (old new : Seen) : Type 0 where
  pub writer : WriterState
  pub is : past ≡ Some writer
  pub journal : List ChangeLine
  pub others : List (List PassLine)
  pub files : List (List ℕ × List ℕ)
  pub tells : IsJournalOf (meanings_in job.core job.scripts) job.scripts journal writer
  pub applied : AllApplied job.scripts journal
  pub runs : ScriptsRun (meanings_in job.core job.scripts) writer journal 0 job.scripts others files
  pub names : kept_names files ≡ written_by job.scripts
  pub kept : Gains old.desk.kept new.desk.kept files
  pub log : CameOut (threads_log job.scripts journal others) old new

-- where a run stopped, a file was not kept, and no log was printed; or the scripts ran whole, and
-- what was printed is a front of their log
abbrev pub RanAndStopped : Option WriterState → Job → Seen → Seen → Type 0
RanAndStopped past job old new = NotAllKept job old new ⊎ RanWhole past IsCut job old new

-- where `threads CORE SCRIPT...` did all, its scripts ran so; and where it stopped, so
pub record ThreadsRan (core : List ℕ) (scripts : List (List ℕ)) (old new : Seen)
    (past : Option WriterState) (status : ℕ) : Type 0 where
  pub done : status ≡ 0 →
      HasRead (IsJob SIDE_BY_SIDE) (job_files core scripts) (RanWhole past IsPrinted) old new
  pub stopped : status ≡ 5 →
      HasRead (IsJob SIDE_BY_SIDE) (job_files core scripts) (RanAndStopped past) old new
