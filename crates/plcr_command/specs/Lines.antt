-- The lines that a command prints beside what it was asked for. Each ends with one newline, and
-- numbers are decimal.
use Rattle.std.specs.Prelude.{◌≡◌, ◌⊎◌, ℕ, List, [], ◌++◌, codes, decimal}
use Rattle.plcr_core.specs.FaultTexts.{fault_text as core_text}
use Rattle.plcr_decode.specs.FaultTexts.{fault_text as report_text}
use Rattle.plcr_command.specs.declared.refusals.Refusal.{Refusal}
use Rattle.plcr_command.specs.declared.refusals.Refusal.TheVariants.{CannotRead, TooLong, CoreRefused, ScriptRefused, ReportRefused, OutOfMemory}

-- a file that couldn't be read, and one that has more bytes than its limit
abbrev pub cannot_read : List ℕ → List ℕ
cannot_read name = codes "cannot read " ++ name ++ codes "\n"

abbrev pub too_long : List ℕ → ℕ → List ℕ
too_long name limit = codes "too long " ++ name ++ codes " " ++ decimal limit ++ codes "\n"

-- a file that wasn't kept
abbrev pub cannot_write : List ℕ → List ℕ
cannot_write name = codes "cannot write " ++ name ++ codes "\n"

-- the number of a script, of its refused line and of what is wrong with it
abbrev pub script_refused : ℕ → ℕ → ℕ → List ℕ
script_refused script line kind = codes "script " ++ decimal script ++ codes " " ++ decimal line
    ++ codes " " ++ decimal kind ++ codes "\n"

-- the line of a refusal: which file it was, or what is wrong with the core, with a script or with
-- the report. Want of memory has none
abbrev pub refusal_line : Refusal → List ℕ
refusal_line (CannotRead word) = cannot_read word.name.now
refusal_line (TooLong word) = too_long word.name.now word.limit
refusal_line (CoreRefused fault) = codes "core " ++ core_text fault ++ codes "\n"
refusal_line (ScriptRefused script line kind) = script_refused script line kind
refusal_line (ReportRefused fault) = codes "report " ++ report_text fault ++ codes "\n"
refusal_line OutOfMemory = []

-- a refusal is told as itself; or, where its line names a fault of a core or of a report, as want
-- of memory for that line
abbrev pub IsToldAs : Refusal → Refusal → Type 0
IsToldAs (CoreRefused fault) told = (told ≡ CoreRefused fault) ⊎ (told ≡ OutOfMemory)
IsToldAs (ReportRefused fault) told = (told ≡ ReportRefused fault) ⊎ (told ≡ OutOfMemory)
IsToldAs refusal told = told ≡ refusal
