-- The texts and messages in a file are shorter than the file.
use Rattle.std.proofs.Common.{◌≡◌, ℕ, ◌^◌, ◌<◌, ◌≤◌, List, [], ◌∷◌, ◌++◌, length, map, Option, Some, None, Ok, length-append, arith}
use Rattle.std.specs.List.{AllByRecursion}
use Rattle.std.specs.Option.{IfSome}
use Rattle.plcr_base.proofs.Plain.{some_weaker}
use Rattle.plcr_wire.specs.Varint.{varint, tag}
use Rattle.plcr_wire.specs.Message.{Value, Number, Fixed64, Bytes, Fixed32, Field, value_bytes, wire_type, value_spelling, spelling, field_spelling}
use Rattle.plcr_report.specs.Spelling.{file_head, spelling_of}
use Rattle.plcr_report.specs.Messages.{maybe, each, symbol_message, frame_message, register_message, thread_message, system_message, application_message, processor_message, image_message, signal_message, process_message, info_message, report_message}
use Rattle.plcr_report.specs.declared.messages.Report.{Report}
use Rattle.plcr_report.specs.declared.messages.System.{System}
use Rattle.plcr_report.specs.declared.messages.Application.{Application}
use Rattle.plcr_report.specs.declared.messages.Thread.{Thread}
use Rattle.plcr_report.specs.declared.messages.Frame.{Frame}
use Rattle.plcr_report.specs.declared.messages.Symbol.{Symbol}
use Rattle.plcr_report.specs.declared.messages.Register.{Register}
use Rattle.plcr_report.specs.declared.messages.Image.{Image}
use Rattle.plcr_report.specs.declared.messages.Processor.{Processor}
use Rattle.plcr_report.specs.declared.messages.Signal.{Signal}
use Rattle.plcr_report.specs.declared.messages.Process.{Process}
use Rattle.plcr_report.specs.declared.messages.Info.{Info}
use Rattle.plcr_decode.specs.Reads.{reads}
use Rattle.plcr_decode.specs.Fits.{TypedSymbol, TypedFrame, TypedRegister, TypedThread, TypedSystem, TypedProcessor, TypedImage, TypedSignal, TypedProcess, TypedReport, HasFile}
use Rattle.plcr_decode.proofs.Bounded.{IsText, FitsSymbol, FitsFrame, FitsRegister, FitsThread, FitsSystem, FitsApplication, FitsProcessor, FitsImage, FitsSignal, FitsProcess, FitsInfo, FitsReport}
use Rattle.plcr_decode.proofs.AgainReport.{report_again}

value_len : (v : Value) → length (value_bytes v) ≤ length (value_spelling v)
value_len (Number n) = omega arith
value_len (Fixed64 n) = omega arith
value_len (Bytes bytes) = let l = length-append (varint (length bytes)) bytes in omega arith
value_len (Fixed32 n) = omega arith

field_len : (f : Field) → length (value_bytes f.value) ≤ length (field_spelling f)
unfolding field_spelling
field_len f = let l = length-append (tag f.number (wire_type f.value)) (value_spelling f.value) in let v = value_len f.value in omega arith

-- what stands in a field is shorter than 2^64 bytes
pub record IsShort (f : Field) : Type 0 where
  pub short : length (value_bytes f.value) < 2 ^ 64

abbrev AreShort : List Field → Type 0
AreShort fs = AllByRecursion IsShort fs

all_short : (fs : List Field) → length (spelling fs) < 2 ^ 64 → AreShort fs
all_short [] h = tt
all_short (f ∷ fs) h =
    let l = length-append (field_spelling f) (spelling fs) in
    let k = field_len f in
    (record { short = omega arith }, all_short fs (omega arith))

-- the lengths of the messages in the rows before the rest
rows_short : {A : Type 0} (n : ℕ) (message : A → List Field) (xs : List A) (rest : List Field) → AreShort (map (λ v. record { number = n; value = v }) (each message xs) ++ rest) → AllByRecursion (λ x. length (spelling (message x)) < 2 ^ 64) xs × AreShort rest
rows_short n message [] rest h = (tt, h)
rows_short n message (x ∷ xs) rest h = let others = rows_short n message xs rest h.1 in ((h.0.short, others.0), others.1)

maybe_text_short : (n : ℕ) (o : Option (List ℕ)) (rest : List Field) → AreShort (map (λ v. record { number = n; value = v }) (maybe (λ bytes. Bytes bytes ∷ []) o) ++ rest) → IfSome o IsText × AreShort rest
maybe_text_short n None rest h = (tt, h)
maybe_text_short n (Some bytes) rest h = (h.0.short, h.1)

maybe_message_short : {A : Type 0} (n : ℕ) (message : A → List Field) (o : Option A) (rest : List Field) → AreShort (map (λ v. record { number = n; value = v }) (maybe (λ x. Bytes (spelling (message x)) ∷ []) o) ++ rest) → IfSome o (λ x. length (spelling (message x)) < 2 ^ 64) × AreShort rest
maybe_message_short n message None rest h = (tt, h)
maybe_message_short n message (Some x) rest h = (h.0.short, h.1)

-- two facts about each
all_both : {A : Type 0} (P Q R : A → Type 0) → ((x : A) → P x → Q x → R x) → (xs : List A) → AllByRecursion P xs → AllByRecursion Q xs → AllByRecursion R xs
all_both P Q R f [] p q = tt
all_both P Q R f (x ∷ xs) p q = (f x p.0 q.0, all_both P Q R f xs p.1 q.1)

some_both : {A : Type 0} (P Q R : A → Type 0) → ((x : A) → P x → Q x → R x) → (o : Option A) → IfSome o P → IfSome o Q → IfSome o R
some_both P Q R f None p q = tt
some_both P Q R f (Some x) p q = f x p q

abbrev Short : {A : Type 0} → (A → List Field) → A → Type 0
Short message x = length (spelling (message x)) < 2 ^ 64

symbol_fits : (s : Symbol) → TypedSymbol s → Short symbol_message s → FitsSymbol s
unfolding symbol_message
symbol_fits s t h =
    let all : AreShort (symbol_message s) = all_short (symbol_message s) h in
    record { name = all.0.short; start_address = t.start_address; end_address = t.end_address; short = h }

frame_fits : (f : Frame) → TypedFrame f → Short frame_message f → FitsFrame f
unfolding frame_message
frame_fits f t h =
    let all : AreShort (frame_message f) = all_short (frame_message f) h in
    record { pc = t.pc; symbol = some_both TypedSymbol (Short symbol_message) FitsSymbol symbol_fits f.symbol t.symbol (maybe_message_short 6 symbol_message f.symbol [] all.1).0; short = h }

register_fits : (r : Register) → TypedRegister r → Short register_message r → FitsRegister r
unfolding register_message
register_fits r t h =
    let all : AreShort (register_message r) = all_short (register_message r) h in
    record { name = all.0.short; value = t.value; short = h }

thread_fits : (t : Thread) → TypedThread t → Short thread_message t → FitsThread t
unfolding thread_message
thread_fits t p h =
    let all : AreShort (thread_message t) = all_short (thread_message t) h in
    let frames = rows_short 2 frame_message t.frames _ all.1 in
    let registers = rows_short 4 register_message t.registers [] frames.1.1 in
    record {
      thread_number = p.thread_number;
      frames = all_both TypedFrame (Short frame_message) FitsFrame frame_fits t.frames p.frames frames.0;
      registers = all_both TypedRegister (Short register_message) FitsRegister register_fits t.registers p.registers registers.0;
      short = h;
    }

system_fits : (s : System) → TypedSystem s → Short system_message s → FitsSystem s
unfolding system_message
system_fits s t h =
    let all : AreShort (system_message s) = all_short (system_message s) h in
    record {
      operating_system = t.operating_system;
      os_version = all.1.0.short;
      architecture = t.architecture;
      timestamp = t.timestamp;
      os_build = (maybe_text_short 5 s.os_build [] all.1.1.1.1).0;
      short = h;
    }

application_fits : (a : Application) → Short application_message a → FitsApplication a
unfolding application_message
application_fits a h =
    let all : AreShort (application_message a) = all_short (application_message a) h in
    record { identifier = all.0.short; version = all.1.0.short; short = h }

processor_fits : (p : Processor) → TypedProcessor p → Short processor_message p → FitsProcessor p
processor_fits p t h = record { encoding = t.encoding; cpu = t.cpu; subtype = t.subtype; short = h }

image_fits : (i : Image) → TypedImage i → Short image_message i → FitsImage i
unfolding image_message
image_fits i t h =
    let all : AreShort (image_message i) = all_short (image_message i) h in
    let uuid = maybe_text_short 4 i.uuid _ all.1.1.1 in
    record {
      base_address = t.base_address;
      size = t.size;
      name = all.1.1.0.short;
      uuid = uuid.0;
      code_type = some_both TypedProcessor (Short processor_message) FitsProcessor processor_fits i.code_type t.code_type (maybe_message_short 5 processor_message i.code_type [] uuid.1).0;
      short = h;
    }

signal_fits : (s : Signal) → TypedSignal s → Short signal_message s → FitsSignal s
unfolding signal_message
signal_fits s t h =
    let all : AreShort (signal_message s) = all_short (signal_message s) h in
    record { name = all.0.short; code = all.1.0.short; address = t.address; short = h }

process_fits : (p : Process) → TypedProcess p → Short process_message p → FitsProcess p
unfolding process_message
process_fits p t h =
    let all : AreShort (process_message p) = all_short (process_message p) h in
    let name = maybe_text_short 1 p.name _ all in
    let path = maybe_text_short 3 p.path _ name.1.1 in
    let parent = maybe_text_short 4 p.parent_name _ path.1 in
    record { name = name.0; id = t.id; path = path.0; parent_name = parent.0; parent_id = t.parent_id; short = h }

info_fits : (i : Info) → Short info_message i → FitsInfo i
unfolding info_message
info_fits i h =
    let all : AreShort (info_message i) = all_short (info_message i) h in
    record { uuid = (maybe_text_short 2 i.uuid [] all.1).0; short = h }

report_fits : (r : Report) → TypedReport r → Short report_message r → FitsReport r
unfolding report_message
report_fits r t h =
    let all : AreShort (report_message r) = all_short (report_message r) h in
    let threads = rows_short 3 thread_message r.threads _ all.1.1 in
    let images = rows_short 4 image_message r.binary_images _ threads.1 in
    let process = maybe_message_short 7 process_message r.process_info _ images.1.1 in
    let info = maybe_message_short 9 info_message r.report_info [] process.1 in
    record {
      system_info = system_fits r.system_info t.system_info all.0.short;
      application_info = application_fits r.application_info all.1.0.short;
      threads = all_both TypedThread (Short thread_message) FitsThread thread_fits r.threads t.threads threads.0;
      binary_images = all_both TypedImage (Short image_message) FitsImage image_fits r.binary_images t.binary_images images.0;
      signal = signal_fits r.signal t.signal images.1.0.short;
      process_info = some_both TypedProcess (Short process_message) FitsProcess process_fits r.process_info t.process_info process.0;
      report_info = some_weaker (Short info_message) FitsInfo info_fits r.report_info info.0;
    }

file_short : (r : Report) → length (spelling_of r) < 2 ^ 64 → Short report_message r
unfolding spelling_of
file_short r h = let l = length-append file_head (spelling (report_message r)) in omega arith

pub file_again : (r : Report) → HasFile r → reads (spelling_of r) ≡ Ok r
file_again r h = report_again r (report_fits r h.typed (file_short r h.short))
