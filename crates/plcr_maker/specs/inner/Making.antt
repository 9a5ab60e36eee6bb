-- What `make` makes in memory, before it makes its first file.
use Rattle.std.specs.Prelude.{◌≡◌, ℕ, List, [], ◌∷◌, Some, Ok, length}
use Rattle.plcr_report.specs.declared.messages.Report.{Report}
use Rattle.plcr_core.specs.declared.read.Core.{Core}
use Rattle.plcr_io.specs.MemFiles.{File, last_named}
use Rattle.plcr_decode.specs.Reads.{reads}
use Rattle.plcr_script.specs.Scripts.{ScriptValue}
use Rattle.plcr_script.specs.Run.{run_of, kept_by}
use Rattle.plcr_command.specs.Jobs.{IsCore}
use Rattle.plcr_command.specs.Process.{meanings_of}
use Rattle.plcr_run.specs.Past.{LeavesWhole}
use Rattle.plcr_make.specs.Cores.{core_of}
use Rattle.plcr_make.specs.Scripts.{report_name, script_of}
use Rattle.plcr_make.specs.MadeScripts.{made_script}
use Rattle.plcr_make.specs.Summary.{summary_line}
use Rattle.plcr_maker.specs.Make.{frames_in, made_run}
use Rattle.plcr_maker.specs.declared.counts.Counts.{Counts}
use Rattle.plcr_maker.specs.declared.runs.Ran.{Ran}
use Rattle.plcr_maker.specs.declared.making.Made.{Made}

-- the numbers of a report
pub record AreCounts (report : Report) (counts : Counts) : Type 0 where
  pub images : counts.images ≡ length report.binary_images
  pub threads : counts.threads ≡ length report.threads
  pub frames : counts.frames ≡ frames_in report.threads

-- the script was run whole on the core: what it kept under the report's name, and the writer of its
-- list
pub record IsRun (core : Core) (script : ScriptValue) (ran : Ran) : Type 0 where
  pub report : last_named report_name (kept_by (run_of (meanings_of core script) script))
      ≡ Some ran.report.items
  pub left : LeavesWhole (meanings_of core script) script (Some ran.writer)

-- the core and the script for so many images; the one report that the script's run on the core
-- keeps, and that it reads as; and the writer of the list that the script ran on
pub record IsMade (images : ℕ) (made : Made) : Type 0 where
  pub value : Core
  pub core : made.core.items ≡ core_of images
  pub is_core : IsCore (core_of images) value
  pub script : made.script.items ≡ script_of images
  pub kept : kept_by (made_run value images) ≡ (report_name, made.report.items) ∷ []
  pub report : Report
  pub read : reads made.report.items ≡ Ok report
  pub counts : AreCounts report made.counts
  pub left : LeavesWhole (meanings_of value (made_script images)) (made_script images)
      (Some made.writer)

-- the files that were made, in their order, and the line of the report
abbrev pub files_of : (core script : List ℕ) → Made → List File
files_of core script made =
    (core, made.core.items) ∷ (script, made.script.items) ∷ (report_name, made.report.items) ∷ []

abbrev pub line_of : Made → List ℕ
line_of made =
    summary_line made.counts.images made.counts.threads made.counts.frames
    (length made.report.items)
