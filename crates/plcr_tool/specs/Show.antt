-- What `show REPORT` does, ending by ending.
use Rattle.std.specs.Prelude.{◌≡◌, ◌≢◌, ℕ, List, [], ◌∷◌, Ok, Err}
use Rattle.std.specs.Io.KnownBytes.{append_known}
use Rattle.plcr_base.specs.Causes.{Rose}
use Rattle.plcr_base.specs.Told.{AppendsProperFront}
use Rattle.plcr_report.specs.declared.messages.Report.{Report}
use Rattle.plcr_decode.specs.declared.faults.DecodeFault.{DecodeFault}
use Rattle.plcr_decode.specs.declared.faults.DecodeFault.TheVariants as faults
use Rattle.plcr_decode.specs.Reads.{reads}
use Rattle.plcr_decode.specs.Text.{text_of}
use Rattle.plcr_command.specs.declared.endings.Ending.{Ending}
use Rattle.plcr_command.specs.declared.refusals.Refusal.{Refusal}
use Rattle.plcr_command.specs.declared.refusals.Refusal.TheVariants.{ReportRefused, OutOfMemory}
use Rattle.plcr_command.specs.Seen.{Seen}
use Rattle.plcr_command.specs.Files.{File, report_file}
use Rattle.plcr_command.specs.Taking.{MadeNothing}
use Rattle.plcr_command.specs.Endings.{Did, Ended}

-- the file of the word
abbrev pub shown_files : List ℕ → List File
shown_files report = report_file report ∷ []

-- the file holds a report
abbrev pub IsReport : List (List ℕ) → Report → Type 0
IsReport (bytes ∷ []) value = reads bytes ≡ Ok value
IsReport contents value = ⊥

-- bytes are no report, and this is their first fault
pub record IsNoReport (bytes : List ℕ) (fault : DecodeFault) : Type 0 where
  pub first : reads bytes ≡ Err fault
  pub no_want : fault ≢ faults.Memory

-- what a report is refused for; want of memory has no cause
abbrev pub ReportMisread : List (List ℕ) → Refusal → Type 0
ReportMisread (bytes ∷ []) (ReportRefused fault) = IsNoReport bytes fault
ReportMisread (bytes ∷ []) OutOfMemory = Unit {0}
ReportMisread contents refusal = ⊥

-- the file is no report
abbrev pub HasNoReport : List (List ℕ) → Type 0
HasNoReport (bytes ∷ []) = (fault : DecodeFault) × IsNoReport bytes fault
HasNoReport contents = ⊥

-- nothing was made, and the text was printed
pub record IsPrinted (value : Report) (old new : Seen) : Type 0 where
  pub nothing : MadeNothing old.desk new.desk
  pub printed : new.lines ≡ append_known old.lines (text_of value)

-- nothing was made, and the sink of the lines didn't take the text whole
pub record IsCut (value : Report) (old new : Seen) : Type 0 where
  pub nothing : MadeNothing old.desk new.desk
  pub front : AppendsProperFront old.lines new.lines (text_of value)
  pub cause : Rose old.line_faults new.line_faults

-- what `show REPORT` did, where it ended so
abbrev pub Shows : List ℕ → Seen → Seen → Ending → Type 0
Shows report old new ending =
    Did IsReport ReportMisread (shown_files report) IsPrinted IsCut old new ending

-- what `show REPORT` does
abbrev pub ShowDoes : List ℕ → Seen → Seen → ℕ → Type 0
ShowDoes report old new status = Ended (Shows report old new) status old new
