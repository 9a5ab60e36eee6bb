-- What `report CORE SCRIPT` and `show REPORT` have done, by their status: what they took, made,
-- kept, gave up and printed, and what they left in `past`. No other status comes.
use Rattle.std.specs.Prelude.{◌≡◌, ◌⊎◌, ◌↔◌, ℕ, List, Option, None}
use Rattle.plcr_base.specs.Told.{Prints}
use Rattle.plcr_core.specs.declared.fault.CoreFault.{CoreFault}
use Rattle.plcr_decode.specs.declared.faults.DecodeFault.{DecodeFault}
use Rattle.plcr_imagelist.specs.States.{WriterState}
use Rattle.plcr_command.specs.declared.files.FileWord.{FileWord}
use Rattle.plcr_command.specs.declared.refusals.Refusal.{Refusal}
use Rattle.plcr_command.specs.declared.refusals.Refusal.TheVariants.{CannotRead, TooLong, CoreRefused, ScriptRefused, ReportRefused}
use Rattle.plcr_command.specs.Seen.{Seen}
use Rattle.plcr_command.specs.Files.{File, named}
use Rattle.plcr_command.specs.Taking.{IsUnreadable, IsTooLong, TookSome, MadeNothing}
use Rattle.plcr_command.specs.Refusals.{IsMisread}
use Rattle.plcr_command.specs.Lines.{refusal_line}
use Rattle.plcr_command.specs.Jobs.{IsJob, JobMisread}
use Rattle.plcr_command.specs.Endings.{HasRead}
use Rattle.plcr_run.specs.Runs.{IsDone, IsStopped}
use Rattle.plcr_run.specs.Past.{LeavesWhole, LeavesPart}
use Rattle.plcr_tool.specs.declared.report.TheConstants.{ALONE}
use Rattle.plcr_tool.specs.Report.{Ran, ReportDoes, report_files}
use Rattle.plcr_tool.specs.Show.{IsReport, ReportMisread, IsPrinted, IsCut, ShowDoes, shown_files}
use Rattle.plcr_tool.specs.Past.{FilesLeft, ReportLeaves}
use Rattle.plcr_tool.specs.Top.{Usage, TopDoes, form_of}

-- nothing was made, kept or given up, and the line of a refusal was printed
pub record Refuses (refusal : Refusal) (old new : Seen) : Type 0 where
  pub nothing : MadeNothing old.desk new.desk
  pub printed : Prints old.lines new.lines (refusal_line refusal) old.line_faults new.line_faults

-- status 2: just the files before this one were taken. A take failed, or the file is longer than
-- its limit
pub record CannotTake (files : List File) (old new : Seen) : Type 0 where
  pub word : FileWord
  pub how : (IsUnreadable files (named word) old.desk new.desk × Refuses (CannotRead word) old new)
      ⊎ (IsTooLong files (named word) old.desk new.desk × Refuses (TooLong word) old new)

-- statuses 3, 4 and 6: all files were taken, and their bytes are refused for this
pub record IsNone (Misread : List (List ℕ) → Refusal → Type 0) (files : List File)
    (refusal : Refusal) (old new : Seen) : Type 0 where
  pub why : IsMisread Misread files refusal old.desk new.desk
  pub refuses : Refuses refusal old new

-- status 7: some of the files were taken, nothing was made, kept or given up, and nothing was
-- printed
pub record WantsMemory (files : List File) (old new : Seen) : Type 0 where
  pub took : TookSome files old.desk new.desk
  pub nothing : MadeNothing old.desk new.desk
  pub lines : new.lines ≡ old.lines

-- `report CORE SCRIPT`, status by status.

-- 0: both files were taken and the run was done: its files were kept and its log printed, and
-- `past` has the writer of its list
abbrev pub AllReported : List ℕ → List ℕ → Seen → Seen → Option WriterState → Type 0
AllReported core script old new past =
    HasRead (IsJob ALONE) (report_files core script) (Ran IsDone) old new
    × FilesLeft LeavesWhole core script old new past

-- 5: both files were taken, and the run stopped at a file that wasn't kept or at a line that wasn't
-- printed whole
abbrev pub PartReported : List ℕ → List ℕ → Seen → Seen → Option WriterState → Type 0
PartReported core script old new past =
    HasRead (IsJob ALONE) (report_files core script) (Ran IsStopped) old new
    × FilesLeft LeavesPart core script old new past

-- 3: the first file is no core. 4: it is one, and the second is no script
abbrev pub NoCore : List ℕ → List ℕ → Seen → Seen → Type 0
NoCore core script old new =
    (fault : CoreFault)
    × IsNone (JobMisread ALONE) (report_files core script) (CoreRefused fault) old new

abbrev pub NoScript : List ℕ → List ℕ → Seen → Seen → Type 0
NoScript core script old new =
    (number : ℕ) × (line : ℕ) × (kind : ℕ)
    × IsNone (JobMisread ALONE) (report_files core script) (ScriptRefused number line kind) old new

abbrev pub ReportIs : List ℕ → List ℕ → Seen → Seen → Option WriterState → ℕ → Type 0
ReportIs core script old new past status =
    ((status ≡ 0) × AllReported core script old new past)
    ⊎ ((status ≡ 2) × CannotTake (report_files core script) old new × (past ≡ None))
    ⊎ ((status ≡ 3) × NoCore core script old new × (past ≡ None))
    ⊎ ((status ≡ 4) × NoScript core script old new × (past ≡ None))
    ⊎ ((status ≡ 5) × PartReported core script old new past)
    ⊎ ((status ≡ 7) × WantsMemory (report_files core script) old new × (past ≡ None))

-- `show REPORT`, status by status; it makes no file and leaves no writer.

-- 0: the file was taken and its text printed. 5: the text wasn't printed whole. 6: the file is no
-- report
abbrev pub NoReport : List ℕ → Seen → Seen → Type 0
NoReport report old new =
    (fault : DecodeFault) × IsNone ReportMisread (shown_files report) (ReportRefused fault) old new

abbrev pub ShowIs : List ℕ → Seen → Seen → ℕ → Type 0
ShowIs report old new status =
    ((status ≡ 0) × HasRead IsReport (shown_files report) IsPrinted old new)
    ⊎ ((status ≡ 2) × CannotTake (shown_files report) old new)
    ⊎ ((status ≡ 5) × HasRead IsReport (shown_files report) IsCut old new)
    ⊎ ((status ≡ 6) × NoReport report old new)
    ⊎ ((status ≡ 7) × WantsMemory (shown_files report) old new)

-- what the contracts of the commands say, read by the status
abbrev pub ReportsByStatus : Type 0
ReportsByStatus =
    (core script : List ℕ) → (old new : Seen) → (past : Option WriterState) → (status : ℕ)
    → ReportDoes core script old new status → ReportLeaves core script old new past status
    → ReportIs core script old new past status

abbrev pub ShownByStatus : Type 0
ShownByStatus = (report : List ℕ) → (old new : Seen) → (status : ℕ)
    → ShowDoes report old new status → ShowIs report old new status

-- status 1 comes exactly where the words fit no command form
abbrev pub MisusedWords : Type 0
MisusedWords = (words : List (List ℕ)) → (old new : Seen) → (status : ℕ)
    → TopDoes words old new status → (status ≡ 1) ↔ (form_of words ≡ Usage)
