-- The messages that a report is written as: a list of fields each, by the table of its kind and its
-- values.
use Rattle.std.specs.Prelude.{ℕ, ℤ, Bool, if◌then◌else◌, List, [], ◌∷◌, ◌++◌, map, Option, Some, None}
use Rattle.std.specs.Int.{w64, cast_unsigned}
use Rattle.plcr_wire.specs.Message.{Value, Number, Bytes, Field, spelling}
use Rattle.plcr_report.specs.Schema.{Row, rows}
use Rattle.plcr_report.specs.declared.kinds.Kind.{Kind}
use Rattle.plcr_report.specs.declared.kinds.Kind.TheVariants as kinds
use Rattle.plcr_report.specs.declared.messages.Report.{Report}
use Rattle.plcr_report.specs.declared.messages.System.{System}
use Rattle.plcr_report.specs.declared.messages.Application.{Application}
use Rattle.plcr_report.specs.declared.messages.Thread.{Thread}
use Rattle.plcr_report.specs.declared.messages.Frame.{Frame}
use Rattle.plcr_report.specs.declared.messages.Symbol.{Symbol}
use Rattle.plcr_report.specs.declared.messages.Register.{Register}
use Rattle.plcr_report.specs.declared.messages.Image.{Image}
use Rattle.plcr_report.specs.declared.messages.Processor.{Processor}
use Rattle.plcr_report.specs.declared.messages.Signal.{Signal}
use Rattle.plcr_report.specs.declared.messages.Process.{Process}
use Rattle.plcr_report.specs.declared.messages.Info.{Info}

-- in each row of a table the values that stand there: none, one or several
abbrev pub fields : List Row → List (List Value) → List Field
fields [] values = []
fields (row ∷ rows) [] = []
fields (row ∷ rows) (here ∷ others) = map (λ v. record { number = row.number; value = v }) here
    ++ fields rows others

-- the message of a kind with these values, row by row of its table
abbrev pub message : Kind → List (List Value) → List Field
message kind values = fields (rows kind) values

-- an unsigned number
abbrev pub number : ℕ → List Value
number n = Number n ∷ []

-- a signed number of 64 bits, in two's complement
abbrev pub signed : ℤ → List Value
signed z = Number (cast_unsigned w64 z) ∷ []

-- a bool
abbrev pub flag : Bool → List Value
flag b = Number (if b then 1 else 0) ∷ []

-- a text or plain bytes
abbrev pub text : List ℕ → List Value
text bytes = Bytes bytes ∷ []

-- a message within a message
abbrev pub inner : List Field → List Value
inner fs = Bytes (spelling fs) ∷ []

-- what stands there only where it is known
abbrev pub maybe : {A : Type 0} → (A → List Value) → Option A → List Value
maybe values None = []
maybe values (Some x) = values x

-- a message for each of these
abbrev pub each : {A : Type 0} → (A → List Field) → List A → List Value
each fs xs = map (λ x. Bytes (spelling (fs x))) xs

unfoldable pub symbol_message : Symbol → List Field
symbol_message s = message kinds.Symbol
    (text s.name ∷ number s.start_address ∷ maybe number s.end_address ∷ [])

unfoldable pub frame_message : Frame → List Field
frame_message f = message kinds.Frame (number f.pc ∷ maybe (λ s. inner (symbol_message s)) f.symbol
    ∷ [])

unfoldable pub register_message : Register → List Field
register_message r = message kinds.Register (text r.name ∷ number r.value ∷ [])

unfoldable pub thread_message : Thread → List Field
thread_message t =
    message kinds.Thread
    (number t.thread_number ∷ each frame_message t.frames ∷ flag t.crashed
    ∷ each register_message t.registers ∷ [])

unfoldable pub system_message : System → List Field
system_message s =
    message kinds.System
    (number s.operating_system ∷ text s.os_version ∷ number s.architecture ∷ signed s.timestamp
    ∷ maybe text s.os_build ∷ [])

unfoldable pub application_message : Application → List Field
application_message a = message kinds.Application (text a.identifier ∷ text a.version ∷ [])

unfoldable pub processor_message : Processor → List Field
processor_message p =
    message kinds.Processor (number p.encoding ∷ number p.cpu ∷ number p.subtype ∷ [])

unfoldable pub image_message : Image → List Field
image_message i =
    message kinds.Image
    (number i.base_address ∷ number i.size ∷ text i.name ∷ maybe text i.uuid
    ∷ maybe (λ p. inner (processor_message p)) i.code_type ∷ [])

unfoldable pub signal_message : Signal → List Field
signal_message s = message kinds.Signal (text s.name ∷ text s.code ∷ number s.address ∷ [])

unfoldable pub process_message : Process → List Field
process_message p =
    message kinds.Process
    (maybe text p.name ∷ number p.id ∷ maybe text p.path ∷ maybe text p.parent_name
    ∷ number p.parent_id
    ∷ flag p.native ∷ [])

unfoldable pub info_message : Info → List Field
info_message i = message kinds.Info (flag i.user_requested ∷ maybe text i.uuid ∷ [])

unfoldable pub report_message : Report → List Field
report_message r =
    message kinds.Root
    (inner (system_message r.system_info) ∷ inner (application_message r.application_info)
    ∷ each thread_message r.threads ∷ each image_message r.binary_images
    ∷ inner (signal_message r.signal)
    ∷ maybe (λ p. inner (process_message p)) r.process_info ∷ maybe (λ i. inner (info_message i))
    r.report_info ∷ [])
