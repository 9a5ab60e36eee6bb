-- What a command leaves of the image list that it ran on: its writer, or none.
use Rattle.std.specs.Prelude.{◌≡◌, ◌≢◌, ℕ, List, [], ◌∷◌, Option, None}
use Rattle.plcr_imagelist.specs.States.{WriterState}
use Rattle.plcr_script.specs.Scripts.{ScriptValue}
use Rattle.plcr_script.specs.Meanings.{Meanings}
use Rattle.plcr_command.specs.declared.jobs.Job.{Job}
use Rattle.plcr_command.specs.Seen.{Seen}
use Rattle.plcr_command.specs.Jobs.{IsJob}
use Rattle.plcr_command.specs.Process.{meanings_of}
use Rattle.plcr_command.specs.Endings.{HasRead}
use Rattle.plcr_run.specs.Past.{LeavesWhole, LeavesPart}
use Rattle.plcr_maker.specs.Make.{MakeLeaves}
use Rattle.plcr_workers.specs.Command.{ThreadsLeave}
use Rattle.plcr_tool.specs.declared.report.TheConstants.{ALONE}
use Rattle.plcr_tool.specs.Report.{report_files}
use Rattle.plcr_tool.specs.Top.{Form, Report, Show, Make, SideBySide, Usage, form_of}

-- the job has one script, and this is known of the writer that its run on the core left
pub record Left (Leaves : Meanings → ScriptValue → Option WriterState →
    Type 0) (past : Option WriterState) (job : Job) : Type 0 where
  pub script : ScriptValue
  pub alone : job.scripts ≡ script ∷ []
  pub leaves : Leaves (meanings_of job.core script) script past

-- the same of the job that the files of the words hold
abbrev pub FilesLeft : (Meanings → ScriptValue → Option WriterState → Type 0)
    → (core script : List ℕ) → (old new : Seen) → Option WriterState → Type 0
FilesLeft Leaves core script old new past =
    HasRead (IsJob ALONE) (report_files core script) (λ job old new. Left Leaves past job) old new

-- What `report CORE SCRIPT` leaves, by its status: the writer of the list that was opened for the
-- run, which has met each pass of that list, and what has happened there; or none
pub record ReportLeaves (core script : List ℕ) (old new : Seen) (past : Option WriterState)
    (status : ℕ) : Type 0 where
  -- just what the script means
  pub done : status ≡ 0 → FilesLeft LeavesWhole core script old new past
  -- lawful, with the first of the changes that the script means
  pub stopped : status ≡ 5 → FilesLeft LeavesPart core script old new past
  pub others : status ≢ 0 → status ≢ 5 → past ≡ None

-- what the program leaves for words of this form: a command that runs no script leaves none
abbrev pub FormLeaves : Form → Seen → Seen → Option WriterState → ℕ → Type 0
FormLeaves (Report core script) old new past status = ReportLeaves core script old new past status
FormLeaves (Show report) old new past status = past ≡ None
FormLeaves (Make images core script) old new past status = MakeLeaves images past status
FormLeaves (SideBySide core scripts) old new past status =
    ThreadsLeave core scripts old new past status
FormLeaves Usage old new past status = past ≡ None

-- what the program leaves for its words
abbrev pub TopLeaves : List (List ℕ) → Seen → Seen → Option WriterState → ℕ → Type 0
TopLeaves words old new past status = FormLeaves (form_of words) old new past status
