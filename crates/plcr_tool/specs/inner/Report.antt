-- How the run of a job ends.
use Rattle.std.specs.Prelude.{◌≡◌, ℕ, List, [], ◌∷◌, Option, None}
use Rattle.plcr_imagelist.specs.States.{WriterState}
use Rattle.plcr_script.specs.Scripts.{ScriptValue}
use Rattle.plcr_command.specs.declared.jobs.Job.{Job}
use Rattle.plcr_command.specs.declared.endings.Ending.{Ending}
use Rattle.plcr_command.specs.declared.endings.Ending.TheVariants.{Done, Stopped, Refused, Misused}
use Rattle.plcr_command.specs.Seen.{Seen}
use Rattle.plcr_command.specs.Process.{meanings_of}
use Rattle.plcr_run.specs.Past.{LeavesWhole, LeavesPart, PlayIs}
use Rattle.plcr_command.specs.Jobs.{IsJob}
use Rattle.plcr_command.specs.Endings.{HasRead}
use Rattle.plcr_script.specs.Contexts.{context_of}
use Rattle.plcr_tool.specs.declared.report.TheConstants.{ALONE}
use Rattle.plcr_tool.specs.Laws.{IsHandedContext}
use Rattle.plcr_tool.specs.Report.{report_files}
use Rattle.plcr_tool.specs.Past.{FilesLeft}
use Rattle.plcr_tool.specs.Headline.{RanTruly}

-- the job has one script, and so its run on the core ended
pub record RunEnds (job : Job) (old new : Seen) (past : Option WriterState)
    (ending : Ending) : Type 0 where
  pub script : ScriptValue
  pub alone : job.scripts ≡ script ∷ []
  pub about : IsHandedContext (context_of script job.core.arch)
  pub ends : PlayIs (meanings_of job.core script) script old new past ending

-- what `report CORE SCRIPT` leaves, by its ending
abbrev pub Leaves : List ℕ → List ℕ → Seen → Seen → Option WriterState → Ending → Type 0
Leaves core script old new past Done = FilesLeft LeavesWhole core script old new past
Leaves core script old new past Stopped = FilesLeft LeavesPart core script old new past
Leaves core script old new past (Refused refusal) = past ≡ None
Leaves core script old new past Misused = past ≡ None

-- where it ended behind its run, what it kept is true
abbrev pub TrulyBy : List ℕ → List ℕ → Seen → Seen → Option WriterState → Ending → Type 0
TrulyBy core script old new past Done =
    HasRead (IsJob ALONE) (report_files core script) (RanTruly past 0) old new
TrulyBy core script old new past Stopped =
    HasRead (IsJob ALONE) (report_files core script) (RanTruly past 5) old new
TrulyBy core script old new past (Refused refusal) = Unit {0}
TrulyBy core script old new past Misused = Unit {0}
