-- The bytes of a report file of version 1, as PLCrashReporter writes it.
use Rattle.std.specs.Prelude.{ℕ, List, [], ◌∷◌, ◌++◌, codes}
use Rattle.plcr_wire.specs.Message.{spelling}
use Rattle.plcr_report.specs.declared.messages.Report.{Report}
use Rattle.plcr_report.specs.Messages.{report_message}

abbrev pub magic : List ℕ
magic = codes "plcrash"

abbrev pub version : ℕ
version = 1

-- what a file begins with: its magic text and its version
abbrev pub file_head : List ℕ
file_head = magic ++ version ∷ []

-- the file of a report: its head, and the fields of its message, each once and in rising order
unfoldable pub spelling_of : Report → List ℕ
spelling_of r = file_head ++ spelling (report_message r)
