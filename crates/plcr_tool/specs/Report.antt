-- What `report CORE SCRIPT` does, ending by ending: how the run of the script on the core ends.
use Rattle.std.specs.Prelude.{◌≡◌, ℕ, List, [], ◌∷◌}
use Rattle.plcr_script.specs.Run.{NumberedTurn, run_of}
use Rattle.plcr_script.specs.Scripts.{ScriptValue}
use Rattle.plcr_command.specs.declared.jobs.Job.{Job}
use Rattle.plcr_command.specs.declared.endings.Ending.{Ending}
use Rattle.plcr_command.specs.Seen.{Seen}
use Rattle.plcr_command.specs.Files.{File}
use Rattle.plcr_command.specs.Jobs.{IsJob, JobMisread, job_files}
use Rattle.plcr_command.specs.Process.{meanings_of}
use Rattle.plcr_command.specs.Endings.{Did, Ended}
use Rattle.plcr_run.specs.Runs.{IsDone, IsStopped}
use Rattle.plcr_tool.specs.declared.report.TheConstants.{ALONE}

-- the files of the two words
abbrev pub report_files : List ℕ → List ℕ → List File
report_files core script = job_files core (script ∷ [])

-- the job has one script, and so its run on the core ended
pub record Ran (Ends : List NumberedTurn → Seen → Seen →
    Type 0) (job : Job) (old new : Seen) : Type 0 where
  pub script : ScriptValue
  pub alone : job.scripts ≡ script ∷ []
  pub ends : Ends (run_of (meanings_of job.core script) script) old new

-- what `report CORE SCRIPT` did, where it ended so
abbrev pub Reports : List ℕ → List ℕ → Seen → Seen → Ending → Type 0
Reports core script old new ending =
    Did (IsJob ALONE) (JobMisread ALONE) (report_files core script) (Ran IsDone) (Ran IsStopped)
    old new ending

-- what `report CORE SCRIPT` does
abbrev pub ReportDoes : List ℕ → List ℕ → Seen → Seen → ℕ → Type 0
ReportDoes core script old new status = Ended (Reports core script old new) status old new
