-- The messages of a crash report and their fields, after PLCrashReporter's crash_report.proto.
use Rattle.std.specs.Prelude.{ℕ, ◌==◌, List, [], ◌∷◌, if◌then◌else◌, Option, Some, None}
use Rattle.plcr_report.specs.declared.kinds.Kind.{Kind}
use Rattle.plcr_report.specs.declared.kinds.Kind.TheVariants.{Root, System, Application, Thread, Frame, Symbol, Register, Image, Processor, Signal, Process, Info}
use Rattle.plcr_report.specs.declared.kinds.Holds.{Holds}
use Rattle.plcr_report.specs.declared.kinds.Holds.TheVariants.{Number, Text, Message}

-- how often a field stands in its message: once, at most once, or any number of times (the labels
-- of proto2)
pub data Label : Type 0 where
  Required : Label
  Optional : Label
  Repeated : Label

-- a field of a message: its number, what it holds, and how often it stands there
pub record Row : Type 0 where
  pub number : ℕ
  pub holds : Holds
  pub label : Label

abbrev pub required : ℕ → Holds → Row
required n holds = record { number = n; holds = holds; label = Required }

abbrev pub optional : ℕ → Holds → Row
optional n holds = record { number = n; holds = holds; label = Optional }

abbrev pub repeated : ℕ → Holds → Row
repeated n holds = record { number = n; holds = holds; label = Repeated }

-- the fields of each message, in rising order
abbrev pub rows : Kind → List Row
-- system_info, application_info, threads, binary_images, signal, process_info, report_info
rows Root =
    required 1 (Message System) ∷ required 2 (Message Application) ∷ repeated 3 (Message Thread)
    ∷ repeated 4 (Message Image) ∷ required 6 (Message Signal) ∷ optional 7 (Message Process)
    ∷ optional 9 (Message Info) ∷ []
-- operating_system, os_version, architecture, timestamp, os_build
rows System = required 1 Number ∷ required 2 Text ∷ required 3 Number ∷ required 4 Number
    ∷ optional 5 Text ∷ []
-- identifier, version
rows Application = required 1 Text ∷ required 2 Text ∷ []
-- thread_number, frames, crashed, registers
rows Thread = required 1 Number ∷ repeated 2 (Message Frame) ∷ required 3 Number
    ∷ repeated 4 (Message Register) ∷ []
-- pc, symbol
rows Frame = required 3 Number ∷ optional 6 (Message Symbol) ∷ []
-- name, start_address, end_address
rows Symbol = required 1 Text ∷ required 2 Number ∷ optional 3 Number ∷ []
-- name, value
rows Register = required 1 Text ∷ required 2 Number ∷ []
-- base_address, size, name, uuid, code_type
rows Image = required 1 Number ∷ required 2 Number ∷ required 3 Text ∷ optional 4 Text
    ∷ optional 5 (Message Processor) ∷ []
-- encoding, type, subtype
rows Processor = required 1 Number ∷ required 2 Number ∷ required 3 Number ∷ []
-- name, code, address
rows Signal = required 1 Text ∷ required 2 Text ∷ required 3 Number ∷ []
-- name, id, path, parent_name, parent_id, native
rows Process =
    optional 1 Text ∷ required 2 Number ∷ optional 3 Text ∷ optional 4 Text ∷ required 5 Number
    ∷ required 6 Number ∷ []
-- user_requested, uuid
rows Info = required 1 Number ∷ optional 2 Text ∷ []

-- what the field of this number holds, where there is one
abbrev pub holds_in : List Row → ℕ → Option Holds
holds_in [] n = None
holds_in (row ∷ rows) n = if row.number == n then Some row.holds else holds_in rows n

-- the rule by which a field of a message is read: what it holds, or None where it isn't known
abbrev pub rule : Kind → ℕ → Option Holds
rule kind n = holds_in (rows kind) n
