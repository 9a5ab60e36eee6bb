-- What a command answers where its files are told and no count of faults rises: it follows from the
-- bytes of the files, but for want of memory.
use Rattle.std.specs.Prelude.{◌≡◌, ◌⊎◌, ℕ, List}
use Rattle.plcr_base.specs.Causes.{Rose}
use Rattle.plcr_report.specs.declared.messages.Report.{Report as ReportValue}
use Rattle.plcr_command.specs.declared.jobs.Job.{Job}
use Rattle.plcr_command.specs.Seen.{Seen}
use Rattle.plcr_command.specs.Taking.{TookAll}
use Rattle.plcr_command.specs.Jobs.{IsJob, HasNoCore, HasNoScript}
use Rattle.plcr_command.specs.Complete.{CanBeTaken, ComesWhere, LongFilesAreRefused}
use Rattle.plcr_tool.specs.declared.report.TheConstants.{ALONE}
use Rattle.plcr_run.specs.Runs.{IsDone}
use Rattle.plcr_maker.specs.Make.{MakeDoes}
use Rattle.plcr_tool.specs.Report.{Ran, ReportDoes, report_files}
use Rattle.plcr_tool.specs.Show.{HasNoReport, IsPrinted, IsReport, ShowDoes, shown_files}
use Rattle.plcr_tool.specs.Top.{Report, Show, Make, TopDoes, form_of}

-- `report` on a core and a script: both are taken, and all that their run makes is made, kept and
-- printed, or memory is wanting
abbrev pub ReportsAreComplete : Type 0
ReportsAreComplete =
    (core script : List ℕ) → (contents : List (List ℕ)) → (job : Job)
    → (old new : Seen) → (status : ℕ)
    → CanBeTaken (report_files core script) contents old.desk new.desk
    → IsJob ALONE contents job
    → ¬ Rose old.desk.out_faults new.desk.out_faults
    → ¬ Rose old.line_faults new.line_faults
    → ReportDoes core script old new status
    → ((status ≡ 0) × TookAll (report_files core script) contents old.desk new.desk
    × Ran IsDone job old new)
    ⊎ (status ≡ 7)

-- `show` on a report: it is taken, nothing is made, and its text is printed, or memory is wanting
abbrev pub ShownReportsAreComplete : Type 0
ShownReportsAreComplete =
    (report : List ℕ) → (contents : List (List ℕ)) → (value : ReportValue)
    → (old new : Seen) → (status : ℕ)
    → CanBeTaken (shown_files report) contents old.desk new.desk
    → IsReport contents value
    → ¬ Rose old.line_faults new.line_faults
    → ShowDoes report old new status
    → ((status ≡ 0) × TookAll (shown_files report) contents old.desk new.desk
    × IsPrinted value old new)
    ⊎ (status ≡ 7)

-- `report` refuses the core exactly where it is none
abbrev pub CoreRefusalsAreExact : Type 0
CoreRefusalsAreExact =
    (core script : List ℕ)
    → ComesWhere 3 (report_files core script) HasNoCore (ReportDoes core script)

-- `report` refuses the script exactly where it is none and the core is one
abbrev pub ScriptRefusalsAreExact : Type 0
ScriptRefusalsAreExact =
    (core script : List ℕ)
    → ComesWhere 4 (report_files core script) (HasNoScript ALONE) (ReportDoes core script)

-- `show` refuses the report exactly where it is none
abbrev pub ReportRefusalsAreExact : Type 0
ReportRefusalsAreExact =
    (report : List ℕ) → ComesWhere 6 (shown_files report) HasNoReport (ShowDoes report)

-- both refuse the first of their files that is too long
abbrev pub LongJobsAreRefused : Type 0
LongJobsAreRefused =
    (core script : List ℕ)
    → LongFilesAreRefused (report_files core script) (ReportDoes core script)

abbrev pub LongReportsAreRefused : Type 0
LongReportsAreRefused =
    (report : List ℕ) → LongFilesAreRefused (shown_files report) (ShowDoes report)

-- words of the form `report CORE SCRIPT` do what that command does
abbrev pub WordsReport : Type 0
WordsReport = (words : List (List ℕ)) → (core script : List ℕ) → (old new : Seen) → (status : ℕ)
    → form_of words ≡ Report core script → TopDoes words old new status
    → ReportDoes core script old new status

-- words of the form `show REPORT` do what that command does
abbrev pub WordsShow : Type 0
WordsShow = (words : List (List ℕ)) → (report : List ℕ) → (old new : Seen) → (status : ℕ)
    → form_of words ≡ Show report → TopDoes words old new status → ShowDoes report old new status

-- words of the form `make N CORE SCRIPT` do what that command does
abbrev pub WordsMake : Type 0
WordsMake = (words : List (List ℕ)) → (images : ℕ) → (core script : List ℕ) → (old new : Seen) →
    (status : ℕ)
    → form_of words ≡ Make images core script → TopDoes words old new status
    → MakeDoes images core script old new status
