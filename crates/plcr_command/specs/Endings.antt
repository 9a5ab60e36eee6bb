-- How a command ends, and what each ending says of the files, the outputs and the lines.
use Rattle.std.specs.Prelude.{◌≡◌, ◌⊎◌, ◌≤◌, ℕ, List, [], ◌∷◌, ◌++◌, map}
use Rattle.std.specs.Io.KnownBytes.{append_known}
use Rattle.plcr_base.specs.Causes.{Rose}
use Rattle.plcr_base.specs.Told.{Gains, AppendsProperFront, Prints}
use Rattle.plcr_command.specs.declared.endings.Ending.{Ending}
use Rattle.plcr_command.specs.declared.endings.Ending.TheVariants.{Done, Stopped, Refused, Misused}
use Rattle.plcr_command.specs.declared.refusals.Refusal.{Refusal}
use Rattle.plcr_command.specs.declared.refusals.Refusal.TheVariants.{CannotRead, TooLong, CoreRefused, ScriptRefused, ReportRefused, OutOfMemory}
use Rattle.plcr_command.specs.Seen.{Seen}
use Rattle.plcr_command.specs.Files.{File}
use Rattle.plcr_command.specs.Taking.{MadeNothing}
use Rattle.plcr_command.specs.Refusals.{IsRead, Refuses}
use Rattle.plcr_command.specs.Saving.{DropsFront, TookNothing}
use Rattle.plcr_command.specs.Lines.{refusal_line, cannot_write}

-- the status of each ending
abbrev pub status_of : Ending → ℕ
status_of Done = 0
status_of Misused = 1
status_of (Refused (CannotRead word)) = 2
status_of (Refused (TooLong word)) = 2
status_of (Refused (CoreRefused fault)) = 3
status_of (Refused (ScriptRefused script line kind)) = 4
status_of Stopped = 5
status_of (Refused (ReportRefused fault)) = 6
status_of (Refused OutOfMemory) = 7

-- the names of files that are kept
abbrev pub kept_names : List (List ℕ × List ℕ) → List (List ℕ)
kept_names files = map (λ file. file.0) files

-- each of these files was made and kept with its bytes, in order, none was given up, and this text
-- was printed
pub record HasKept (files : List (List ℕ × List ℕ)) (text : List ℕ) (old new : Seen) : Type 0 where
  pub made : Gains old.desk.made new.desk.made (kept_names files)
  pub kept : Gains old.desk.kept new.desk.kept files
  pub dropped : Gains old.desk.dropped new.desk.dropped []
  pub lines : new.lines ≡ append_known old.lines text

-- between the statements of a run no file is taken, and the count of faults of the lines doesn't
-- fall
pub record GoesOn (old new : Seen) : Type 0 where
  pub desk : TookNothing old.desk new.desk
  pub line_faults : old.line_faults ≤ new.line_faults

-- these files were kept and this text was printed, and then this file wasn't kept; a line says so
-- behind the text
pub record CannotWrite (files : List (List ℕ × List ℕ)) (text name bytes : List ℕ)
    (old new : Seen) : Type 0 where
  -- its output wasn't made, or it was made, and then at most a front of its bytes was given up
  pub outcome : (Gains old.desk.made new.desk.made (kept_names files)
      × Gains old.desk.dropped new.desk.dropped [])
      ⊎ (Gains old.desk.made new.desk.made (kept_names files ++ name ∷ [])
      × DropsFront bytes old.desk new.desk)
  pub kept : Gains old.desk.kept new.desk.kept files
  pub lines : Prints (append_known old.lines text) new.lines (cannot_write name) old.line_faults
      new.line_faults
  pub cause : Rose old.desk.out_faults new.desk.out_faults

-- these files were kept and this text was printed, and then the sink of the lines didn't take this
-- line whole
pub record CannotPrint (files : List (List ℕ × List ℕ)) (text line : List ℕ)
    (old new : Seen) : Type 0 where
  pub made : Gains old.desk.made new.desk.made (kept_names files)
  pub kept : Gains old.desk.kept new.desk.kept files
  pub dropped : Gains old.desk.dropped new.desk.dropped []
  pub lines : AppendsProperFront (append_known old.lines text) new.lines line
  pub cause : Rose old.line_faults new.line_faults

-- a refusal, before anything was made; the line that says so
pub record IsRefused (Misread : List (List ℕ) → Refusal → Type 0) (files : List File)
    (refusal : Refusal) (old new : Seen) : Type 0 where
  pub cause : Refuses Misread files old.desk new.desk refusal
  pub nothing : MadeNothing old.desk new.desk
  pub printed : Prints old.lines new.lines (refusal_line refusal) old.line_faults new.line_faults
  pub silent : refusal ≡ OutOfMemory → new.line_faults ≡ old.line_faults

-- the files were taken, their bytes mean this value, and so it ended with the value
pub record HasRead {A : Type 0} (Reads : List (List ℕ) → A → Type 0) (files : List File) (Ends : A →
    Seen → Seen → Type 0) (old new : Seen) : Type 0 where
  pub value : A
  pub read : IsRead Reads files old.desk new.desk value
  pub ends : Ends value old new

-- what a command did that reads these files, where it ended so: which value their bytes have, for
-- what else they are refused, and what it did with the value where it was done and where it stopped
abbrev pub Did : {A : Type 0} → (List (List ℕ) → A → Type 0) → (List (List ℕ) → Refusal → Type 0) →
    List File → (A → Seen → Seen → Type 0) → (A → Seen → Seen → Type 0) → Seen → Seen → Ending →
    Type 0
Did Reads Misread files IsDone IsStopped old new Done = HasRead Reads files IsDone old new
Did Reads Misread files IsDone IsStopped old new Stopped = HasRead Reads files IsStopped old new
Did Reads Misread files IsDone IsStopped old new (Refused refusal) =
    IsRefused Misread files refusal old new
Did Reads Misread files IsDone IsStopped old new Misused = ⊥

-- the files as they were, and counts that don't fall
pub record Goes (old new : Seen) : Type 0 where
  pub files : new.desk.files ≡ old.desk.files
  pub take_faults : old.desk.take_faults ≤ new.desk.take_faults
  pub out_faults : old.desk.out_faults ≤ new.desk.out_faults
  pub line_faults : old.line_faults ≤ new.line_faults

-- the status is that of an ending, and what that ending says happened
pub record Ended (Does : Ending → Type 0) (status : ℕ) (old new : Seen) : Type 0 where
  pub ending : Ending
  pub number : status ≡ status_of ending
  pub did : Does ending
  pub goes : Goes old new
