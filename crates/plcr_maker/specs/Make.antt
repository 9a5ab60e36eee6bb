-- What `make N CORE SCRIPT` does, ending by ending, and what it leaves of the image list that it
-- ran on.
use Rattle.std.specs.Prelude.{◌≡◌, ◌≢◌, ◌⊎◌, ℕ, List, [], ◌∷◌, ◌++◌, Option, None, Ok, length, sum_by}
use Rattle.plcr_report.specs.declared.messages.Report.{Report}
use Rattle.plcr_report.specs.declared.messages.Thread.{Thread}
use Rattle.plcr_core.specs.declared.read.Core.{Core}
use Rattle.plcr_io.specs.MemFiles.{File}
use Rattle.plcr_decode.specs.Reads.{reads}
use Rattle.plcr_imagelist.specs.States.{WriterState}
use Rattle.plcr_script.specs.Run.{NumberedTurn, run_of, kept_by}
use Rattle.plcr_command.specs.declared.endings.Ending.{Ending}
use Rattle.plcr_command.specs.declared.endings.Ending.TheVariants.{Done, Stopped, Refused}
use Rattle.plcr_command.specs.declared.refusals.Refusal.TheVariants.{OutOfMemory}
use Rattle.plcr_command.specs.Seen.{Seen}
use Rattle.plcr_command.specs.Jobs.{IsCore}
use Rattle.plcr_command.specs.Process.{meanings_of}
use Rattle.plcr_command.specs.Saving.{TookNothing}
use Rattle.plcr_command.specs.Endings.{Ended, HasKept, CannotWrite, CannotPrint}
use Rattle.plcr_run.specs.Past.{LeavesWhole}
use Rattle.plcr_make.specs.Cores.{core_of}
use Rattle.plcr_make.specs.Scripts.{report_name, script_of}
use Rattle.plcr_make.specs.MadeScripts.{made_script}
use Rattle.plcr_make.specs.Summary.{summary_line}

-- how many frames threads have
abbrev pub frames_in : List Thread → ℕ
frames_in threads = sum_by (λ t. length t.frames) threads

-- the run of the script for so many images on a core
abbrev pub made_run : Core → (images : ℕ) → List NumberedTurn
made_run core images = run_of (meanings_of core (made_script images)) (made_script images)

-- what is made of so many images: the one report that the run of the made script on the made core
-- keeps
pub record IsMake (images : ℕ) (bytes : List ℕ) : Type 0 where
  pub core : Core
  pub is_core : IsCore (core_of images) core
  pub kept : kept_by (made_run core images) ≡ (report_name, bytes) ∷ []
  pub report : Report
  pub read : reads bytes ≡ Ok report

-- the line of the report
abbrev pub summary_of : Report → List ℕ → List ℕ
summary_of report bytes =
    summary_line (length report.binary_images) (length report.threads)
    (frames_in report.threads) (length bytes)

-- the three files, in the order in which they are kept
abbrev pub made_files : (images : ℕ) → (core script bytes : List ℕ) → List File
made_files images core script bytes =
    (core, core_of images) ∷ (script, script_of images) ∷ (report_name, bytes) ∷ []

-- one of the files wasn't kept, behind those before it
pub record CannotKeepOne (files : List File) (old new : Seen) : Type 0 where
  pub before : List File
  pub name : List ℕ
  pub bytes : List ℕ
  pub after : List File
  pub parts : files ≡ before ++ (name, bytes) ∷ after
  pub stop : CannotWrite before [] name bytes old new

-- a file wasn't kept, or all were and the line wasn't printed whole
abbrev pub StopsIn : (files : List File) → (line : List ℕ) → Seen → Seen → Type 0
StopsIn files line old new = CannotKeepOne files old new ⊎ CannotPrint files [] line old new

-- a report was made, and no file taken; so the files and the line of the report were handed out
pub record HasMade (images : ℕ) (core script : List ℕ) (HandsOut : List File → List ℕ → Seen →
    Seen → Type 0) (old new : Seen) : Type 0 where
  pub bytes : List ℕ
  pub make : IsMake images bytes
  pub took : TookNothing old.desk new.desk
  pub hands : HandsOut (made_files images core script bytes) (summary_of make.report bytes)
      old new

-- what `make N CORE SCRIPT` did, where it ended so; it reads nothing, so only want of memory keeps
-- it from its work
abbrev pub Makes : (images : ℕ) → (core script : List ℕ) → Seen → Seen → Ending → Type 0
Makes images core script old new Done = HasMade images core script HasKept old new
Makes images core script old new Stopped = HasMade images core script StopsIn old new
Makes images core script old new (Refused OutOfMemory) = new ≡ old
Makes images core script old new ending = ⊥

-- what `make N CORE SCRIPT` does
abbrev pub MakeDoes : (images : ℕ) → (core script : List ℕ) → Seen → Seen → ℕ → Type 0
MakeDoes images core script old new status = Ended (Makes images core script old new) status old new

-- the writer of the list that the made script ran on, which has met each pass of that list; what
-- happened there is just what the script means on the made core
pub record MadeLeft (images : ℕ) (past : Option WriterState) : Type 0 where
  pub core : Core
  pub is_core : IsCore (core_of images) core
  pub leaves : LeavesWhole (meanings_of core (made_script images)) (made_script images) past

-- what `make N CORE SCRIPT` leaves, by its status: the writer of the list of its run, also where a
-- file wasn't kept; or none
pub record MakeLeaves (images : ℕ) (past : Option WriterState) (status : ℕ) : Type 0 where
  pub ran : (status ≡ 0) ⊎ (status ≡ 5) → MadeLeft images past
  pub others : status ≢ 0 → status ≢ 5 → past ≡ None
