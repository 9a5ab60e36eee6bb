-- The reports that a capture writes have a file: their numbers have the width of their types, and their bytes are few.
use Rattle.std.proofs.Common.{◌≡◌, ℕ, pos, suc, ◌+◌, ◌*◌, ◌^◌, ◌<◌, ◌≤◌, Bool, true, false, List, [], ◌∷◌, ◌++◌, length, map, Option, Some, None, Ok, refl, arith, length-append, lit<, lit≤}
use Rattle.std.specs.Prelude.{IfSome, if◌then◌else◌}
use Rattle.std.specs.List.{AllByRecursion}
use Rattle.std.specs.Int.{w64}
use Rattle.std.proofs.lemmas.Int.{fits_signed_from_abs}
use Rattle.std.proofs.Math.Nat.{suc-mul}
use Rattle.plcr_base.proofs.Plain.{some_weaker}
use Rattle.plcr_base.specs.declared.limits.TheConstants.{IMAGE_NAME_BYTES}
use Rattle.plcr_wire.specs.Message.{Number, Bytes, Field, field_spelling, number_field, bytes_field, spelling}
use Rattle.plcr_regs.specs.declared.arch.Arch.{Arch}
use Rattle.plcr_regs.specs.declared.arch.Arch.TheVariants.{X86_64, Arm64}
use Rattle.plcr_report.specs.Spelling.{file_head, spelling_of}
use Rattle.plcr_report.specs.Messages.{maybe, each, symbol_message, frame_message, register_message, thread_message, system_message, application_message, processor_message, image_message, signal_message, process_message, info_message, report_message}
use Rattle.plcr_report.specs.declared.messages.Report.{Report}
use Rattle.plcr_report.specs.declared.messages.Thread.{Thread}
use Rattle.plcr_report.specs.declared.messages.Frame.{Frame}
use Rattle.plcr_report.specs.declared.messages.Symbol.{Symbol}
use Rattle.plcr_report.specs.declared.messages.Register.{Register}
use Rattle.plcr_report.specs.declared.messages.Image.{Image}
use Rattle.plcr_report.specs.declared.messages.Processor.{Processor}
use Rattle.plcr_symbols.specs.declared.limits.TheConstants.{SYMBOL_NAME_BYTES}
use Rattle.plcr_encode.specs.declared.context.Context.{Context}
use Rattle.plcr_encode.specs.Values.{report_of, architecture_number, system_of, application_of, signal_of, process_of, info_of}
use Rattle.plcr_encode.proofs.Lengths.{number_short, bytes_short}
use Rattle.plcr_decode.specs.Fits.{TypedSymbol, TypedFrame, TypedRegister, TypedThread, TypedProcessor, TypedImage, TypedReport}
use Rattle.plcr_decode.specs.Reads.{reads}
use Rattle.plcr_decode.proofs.Bounds.{file_again}
use Rattle.plcr_tool.specs.Laws.{IsHandedContext, IsHandedSymbol, IsHandedFrame, IsHandedRegister, IsHandedThread, AreHandedThreads, IsHandedImage, AreHandedImages}

-- fields that are spelt in at most so many bytes
pub record AtMost (n : ℕ) (fs : List Field) : Type 0 where
  pub short : length (spelling fs) ≤ n

no_field : AtMost 0 []
no_field = record { short = lit≤ tt }

-- one more field in front, of at most so many bytes
with_field : (f : Field) (fs : List Field) (m n : ℕ) → length (field_spelling f) ≤ m → AtMost n fs → AtMost (m + n) (f ∷ fs)
with_field f fs m n short others = let l = length-append (field_spelling f) (spelling fs) in let rest = others.short in record { short = omega arith }

with_number : (field value : ℕ) (fs : List Field) (n : ℕ) → field < 2 ^ 32 → value < 2 ^ 64 → AtMost n fs → AtMost (20 + n) (record { number = field; value = Number value } ∷ fs)
with_number field value fs n small fits others = with_field (number_field field value) fs 20 n (number_short field value small fits) others

with_bytes : (field : ℕ) (bytes : List ℕ) (m : ℕ) (fs : List Field) (n : ℕ) → field < 2 ^ 32 → length bytes ≤ m → m < 2 ^ 64 → AtMost n fs → AtMost (20 + m + n) (record { number = field; value = Bytes bytes } ∷ fs)
with_bytes field bytes m fs n small short most others =
    let l : length (field_spelling (bytes_field field bytes)) ≤ 20 + length bytes = bytes_short field bytes small (omega arith) in
    with_field (bytes_field field bytes) fs (20 + m) n (omega arith) others

-- a field for each of these
with_rows : {A : Type 0} (field : ℕ) (message : A → List Field) (xs : List A) (m : ℕ) (fs : List Field) (n : ℕ) → field < 2 ^ 32 → m < 2 ^ 64 → AllByRecursion (λ x. AtMost m (message x)) xs → AtMost n fs → AtMost (length xs * (20 + m) + n) (map (λ v. record { number = field; value = v }) (each message xs) ++ fs)
with_rows field message [] m fs n small most all others = let rest = others.short in record { short = omega arith }
with_rows field message (x ∷ xs) m fs n small most all others =
    let rest = with_rows field message xs m fs n small most all.1 others in
    let one = with_bytes field (spelling (message x)) m (map (λ v. record { number = field; value = v }) (each message xs) ++ fs) (length xs * (20 + m) + n) small all.0.short most rest in
    let sum : suc (length xs) * (20 + m) ≡ length xs * (20 + m) + (20 + m) = suc-mul (length xs) (20 + m) in
    let short = one.short in
    record { short = omega (arith, short, sum) }

-- bytes that may not be there
with_maybe : {A : Type 0} (field : ℕ) (bytes : A → List ℕ) (o : Option A) (m : ℕ) (fs : List Field) (n : ℕ) → field < 2 ^ 32 → m < 2 ^ 64 → IfSome o (λ x. length (bytes x) ≤ m) → AtMost n fs → AtMost (20 + m + n) (map (λ v. record { number = field; value = v }) (maybe (λ x. Bytes (bytes x) ∷ []) o) ++ fs)
with_maybe field bytes None m fs n small most short others = let rest = others.short in record { short = omega arith }
with_maybe field bytes (Some x) m fs n small most short others = with_bytes field (bytes x) m fs n small short most others

-- what holds of each
all_weaker : {A : Type 0} (P Q : A → Type 0) → ((x : A) → P x → Q x) → (xs : List A) → AllByRecursion P xs → AllByRecursion Q xs
all_weaker P Q f [] p = tt
all_weaker P Q f (x ∷ xs) p = (f x p.0, all_weaker P Q f xs p.1)

-- a register, whose name has at most 8 bytes
register_typed : (register : Register) → IsHandedRegister register → TypedRegister register
register_typed register handed = record { value = handed.value }

register_len : (register : Register) → IsHandedRegister register → AtMost 48 (register_message register)
unfolding register_message
register_len register handed =
    with_bytes 1 register.name 8 _ 20 (lit< tt) handed.name (lit< tt) (with_number 2 register.value [] 0 (lit< tt) handed.value no_field)

-- a number that may not be there
with_maybe_number : (field : ℕ) (o : Option ℕ) (fs : List Field) (n : ℕ) → field < 2 ^ 32 → IfSome o (λ value. value < 2 ^ 64) → AtMost n fs → AtMost (20 + n) (map (λ v. record { number = field; value = v }) (maybe (λ value. Number value ∷ []) o) ++ fs)
with_maybe_number field None fs n small fits others = let rest = others.short in record { short = omega arith }
with_maybe_number field (Some value) fs n small fits others = with_number field value fs n small fits others

-- a symbol
symbol_len : (symbol : Symbol) → IsHandedSymbol symbol → AtMost 1084 (symbol_message symbol)
unfolding symbol_message
symbol_len symbol handed =
    with_bytes 1 symbol.name SYMBOL_NAME_BYTES _ 40 (lit< tt) handed.name (lit< tt)
    (with_number 2 symbol.start_address _ 20 (lit< tt) handed.typed.start_address (with_maybe_number 3 symbol.end_address [] 0 (lit< tt) handed.typed.end_address no_field))

-- a frame
frame_len : (frame : Frame) → IsHandedFrame frame → AtMost 1124 (frame_message frame)
unfolding frame_message
frame_len frame handed =
    let symbol = some_weaker IsHandedSymbol (λ s. length (spelling (symbol_message s)) ≤ 1084) (λ s h. (symbol_len s h).short) frame.symbol handed.symbol in
    with_number 3 frame.pc _ 1104 (lit< tt) handed.pc (with_maybe 6 (λ s. spelling (symbol_message s)) frame.symbol 1084 [] 0 (lit< tt) (lit< tt) symbol no_field)

frame_typed : (frame : Frame) → IsHandedFrame frame → TypedFrame frame
frame_typed frame handed = record { pc = handed.pc; symbol = some_weaker IsHandedSymbol TypedSymbol (λ s h. h.typed) frame.symbol handed.symbol }

bool_small : (b : Bool) → (if b then 1 else 0) < 2 ^ 64
bool_small true = lit< tt
bool_small false = lit< tt

-- a thread, whatever its number and whether it crashed
thread_len : (thread : Thread) → IsHandedThread thread → AtMost 588080 (thread_message thread)
unfolding thread_message
thread_len thread handed =
    let each_register = all_weaker IsHandedRegister (λ r. AtMost 48 (register_message r)) register_len thread.registers handed.registers in
    let registers = with_rows 4 register_message thread.registers 48 [] 0 (lit< tt) (lit< tt) each_register no_field in
    let flag = with_number 3 (if thread.crashed then 1 else 0) _ (length thread.registers * (20 + 48) + 0) (lit< tt) (bool_small thread.crashed) registers in
    let each_frame = all_weaker IsHandedFrame (λ f. AtMost 1124 (frame_message f)) frame_len thread.frames handed.frames in
    let frames = with_rows 2 frame_message thread.frames 1124 _ _ (lit< tt) (lit< tt) each_frame flag in
    let all = (with_number 1 thread.thread_number _ _ (lit< tt) (let small = handed.thread_number in omega arith) frames).short in
    let few : length thread.registers ≤ 34 = handed.few_registers in
    let most : length thread.frames ≤ 512 = handed.few_frames in
    record { short = omega (arith, all, few, most) }

thread_typed : (thread : Thread) → IsHandedThread thread → TypedThread thread
thread_typed thread handed = record {
  thread_number = handed.thread_number;
  frames = all_weaker IsHandedFrame TypedFrame frame_typed thread.frames handed.frames;
  registers = all_weaker IsHandedRegister TypedRegister register_typed thread.registers handed.registers;
}

-- an image
processor_len : (p : Processor) → TypedProcessor p → AtMost 60 (processor_message p)
unfolding processor_message
processor_len p typed =
    with_number 1 p.encoding _ 40 (lit< tt) (let e = typed.encoding in omega arith) (with_number 2 p.cpu _ 20 (lit< tt) typed.cpu (with_number 3 p.subtype [] 0 (lit< tt) typed.subtype no_field))

image_len : (image : Image) → IsHandedImage image → AtMost 1200 (image_message image)
unfolding image_message
image_len image handed =
    let uuid = some_weaker (λ bytes. length bytes ≡ 16) (λ bytes. length bytes ≤ 16) (λ bytes same. omega (arith, same)) image.uuid handed.uuid in
    let code = some_weaker TypedProcessor (λ p. length (spelling (processor_message p)) ≤ 60) (λ p typed. (processor_len p typed).short) image.code_type handed.code_type in
    with_number 1 image.base_address _ 1180 (lit< tt) handed.base_address (with_number 2 image.size _ 1160 (lit< tt) handed.size
    (with_bytes 3 image.name IMAGE_NAME_BYTES _ 116 (lit< tt) handed.name (lit< tt)
    (with_maybe 4 (λ bytes. bytes) image.uuid 16 _ 80 (lit< tt) (lit< tt) uuid
    (with_maybe 5 (λ p. spelling (processor_message p)) image.code_type 60 [] 0 (lit< tt) (lit< tt) code no_field))))

image_typed : (image : Image) → IsHandedImage image → TypedImage image
image_typed image handed = record { base_address = handed.base_address; size = handed.size; code_type = handed.code_type }

-- the messages of a context; each of its texts has fewer than 2^32 bytes
architecture_small : (arch : Arch) → architecture_number arch < 2 ^ 32
architecture_small X86_64 = lit< tt
architecture_small Arm64 = lit< tt

system_len : (context : Context) → IsHandedContext context → AtMost 4294967376 (system_message (system_of context))
unfolding system_message
system_len context handed =
    let os : context.os < 2 ^ 32 = let few = handed.writable.os in omega arith in
    let time : context.timestamp < 2 ^ 64 = let few = handed.writable.timestamp in omega arith in
    let arch : architecture_number context.arch < 2 ^ 64 = let few = architecture_small context.arch in omega arith in
    let text : length context.os_version.now ≤ 4294967296 = let few = handed.writable.os_version in omega arith in
    with_number 1 context.os _ 4294967356 (lit< tt) (omega arith) (with_bytes 2 context.os_version.now 4294967296 _ 40 (lit< tt) text (lit< tt)
    (with_number 3 (architecture_number context.arch) _ 20 (lit< tt) arch (with_number 4 context.timestamp [] 0 (lit< tt) time no_field)))

application_len : (context : Context) → IsHandedContext context → AtMost 8589934632 (application_message (application_of context))
unfolding application_message
application_len context handed =
    let identifier : length context.identifier.now ≤ 4294967296 = let few = handed.writable.identifier in omega arith in
    let version : length context.version.now ≤ 4294967296 = let few = handed.writable.version in omega arith in
    with_bytes 1 context.identifier.now 4294967296 _ 4294967316 (lit< tt) identifier (lit< tt) (with_bytes 2 context.version.now 4294967296 [] 0 (lit< tt) version (lit< tt) no_field)

signal_len : (context : Context) → IsHandedContext context → AtMost 8589934652 (signal_message (signal_of context))
unfolding signal_message
signal_len context handed =
    let name : length context.signal.now ≤ 4294967296 = let few = handed.writable.signal in omega arith in
    let code : length context.code.now ≤ 4294967296 = let few = handed.writable.code in omega arith in
    with_bytes 1 context.signal.now 4294967296 _ 4294967336 (lit< tt) name (lit< tt) (with_bytes 2 context.code.now 4294967296 _ 20 (lit< tt) code (lit< tt)
    (with_number 3 context.address [] 0 (lit< tt) handed.address no_field))

process_len : (context : Context) → IsHandedContext context → AtMost 4294967376 (process_message (process_of context))
unfolding process_message
process_len context handed =
    let name : length context.process.now ≤ 4294967296 = let few = handed.writable.process in omega arith in
    let pid : context.pid < 2 ^ 64 = let few = handed.pid in omega arith in
    let ppid : context.ppid < 2 ^ 64 = let few = handed.ppid in omega arith in
    with_bytes 1 context.process.now 4294967296 _ 60 (lit< tt) name (lit< tt) (with_number 2 context.pid _ 40 (lit< tt) pid
    (with_number 5 context.ppid _ 20 (lit< tt) ppid (with_number 6 1 [] 0 (lit< tt) (lit< tt) no_field)))

info_len : (context : Context) → AtMost 20 (info_message (info_of context))
unfolding info_message
info_len context = with_number 1 (if context.user then 1 else 0) [] 0 (lit< tt) (bool_small context.user) no_field

-- what stands behind the images
tail_len : (context : Context) → IsHandedContext context → (fs : List Field) →
    fs ≡ record { number = 6; value = Bytes (spelling (signal_message (signal_of context))) } ∷ record { number = 7; value = Bytes (spelling (process_message (process_of context))) } ∷ record { number = 9; value = Bytes (spelling (info_message (info_of context))) } ∷ []
    → AtMost 12884902108 fs
tail_len context handed fs same =
    let all = with_bytes 6 (spelling (signal_message (signal_of context))) 8589934652 _ 4294967436 (lit< tt) (signal_len context handed).short (lit< tt)
    (with_bytes 7 (spelling (process_message (process_of context))) 4294967376 _ 40 (lit< tt) (process_len context handed).short (lit< tt)
    (with_bytes 9 (spelling (info_message (info_of context))) 20 [] 0 (lit< tt) (info_len context).short (lit< tt) no_field)) in
    rw same all

-- the root message
root_len : (context : Context) (threads : List Thread) (images : List Image) → IsHandedContext context → AreHandedThreads threads → AreHandedImages images → length (spelling (report_message (report_of context threads images))) < 2 ^ 63
unfolding report_message report_of
root_len context threads images about states walked =
    let short = all_weaker IsHandedThread (λ t. AtMost 588080 (thread_message t)) thread_len threads states.each in
    let each_image = all_weaker IsHandedImage (λ image. AtMost 1200 (image_message image)) image_len images walked.each in
    let tail = tail_len context about _ refl in
    let behind = with_rows 4 image_message images 1200 _ 12884902108 (lit< tt) (lit< tt) each_image tail in
    let middle = with_rows 3 thread_message threads 588080 _ (length images * (20 + 1200) + 12884902108) (lit< tt) (lit< tt) short behind in
    let second = with_bytes 2 (spelling (application_message (application_of context))) 8589934632 _ (length threads * (20 + 588080) + (length images * (20 + 1200) + 12884902108)) (lit< tt) (application_len context about).short (lit< tt) middle in
    let all = with_bytes 1 (spelling (system_message (system_of context))) 4294967376 _ (20 + 8589934632 + (length threads * (20 + 588080) + (length images * (20 + 1200) + 12884902108))) (lit< tt) (system_len context about).short (lit< tt) second in
    let short = all.short in
    let few = states.few in
    let less = walked.few in
    omega (arith, short, few, less)

report_typed : (context : Context) (threads : List Thread) (images : List Image) → IsHandedContext context → AreHandedThreads threads → AreHandedImages images → TypedReport (report_of context threads images)
unfolding report_of
report_typed context threads images about states walked = record {
  system_info = record {
    operating_system = let few = about.writable.os in omega arith;
    architecture = architecture_small context.arch;
    timestamp = fits_signed_from_abs w64 (pos context.timestamp) about.writable.timestamp;
  };
  threads = all_weaker IsHandedThread TypedThread thread_typed threads states.each;
  binary_images = all_weaker IsHandedImage TypedImage image_typed images walked.each;
  signal = record { address = about.address };
  process_info = record { id = about.pid; parent_id = about.ppid };
}

file_len : (r : Report) → length (spelling (report_message r)) < 2 ^ 63 → length (spelling_of r) < 2 ^ 64
unfolding spelling_of
file_len r few = let l = length-append file_head (spelling (report_message r)) in omega arith

-- each report that is written is read again
pub written_again : (context : Context) (threads : List Thread) (images : List Image) → IsHandedContext context → AreHandedThreads threads → AreHandedImages images → reads (spelling_of (report_of context threads images)) ≡ Ok (report_of context threads images)
written_again context threads images about states walked =
    file_again (report_of context threads images) (record {
      typed = report_typed context threads images about states walked;
      short = file_len (report_of context threads images) (root_len context threads images about states walked);
    })
