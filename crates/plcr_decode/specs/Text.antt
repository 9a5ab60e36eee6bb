-- A report as lines of text.
use Rattle.std.specs.Prelude.{ℕ, zero, suc, ◌+◌, ◌/◌, ◌%◌, ◌==◌, ◌&&◌, Bool, true, false, not, nat_lt, List, [], ◌∷◌, ◌++◌, codes, decimal, Option, Some, None, if◌then◌else◌}
use Rattle.std.specs.Fmt.{signed_decimal}
use Rattle.plcr_report.specs.Spelling.{version}
use Rattle.plcr_report.specs.declared.messages.Report.{Report}
use Rattle.plcr_report.specs.declared.messages.System.{System}
use Rattle.plcr_report.specs.declared.messages.Application.{Application}
use Rattle.plcr_report.specs.declared.messages.Thread.{Thread}
use Rattle.plcr_report.specs.declared.messages.Symbol.{Symbol}
use Rattle.plcr_report.specs.declared.messages.Register.{Register}
use Rattle.plcr_report.specs.declared.messages.Image.{Image}
use Rattle.plcr_report.specs.declared.messages.Processor.{Processor}
use Rattle.plcr_report.specs.declared.messages.Signal.{Signal}
use Rattle.plcr_report.specs.declared.messages.Process.{Process}
use Rattle.plcr_report.specs.declared.messages.Info.{Info}

-- the texts of several, one after the other; each is told its place
abbrev pub all_from : {A : Type 0} → (ℕ → A → List ℕ) → ℕ → List A → List ℕ
all_from text n [] = []
all_from text n (x ∷ xs) = text n x ++ all_from text (n + 1) xs

-- a lower-case hexadecimal digit
abbrev pub hex_digit : ℕ → ℕ
hex_digit d = if nat_lt d 10 then 48 + d else 87 + d

-- so many hexadecimal digits
unfoldable pub hex : ℕ → ℕ → List ℕ
hex zero n = []
hex (suc k) n = hex k (n / 16) ++ hex_digit (n % 16) ∷ []

-- an address: `0x` and 16 digits
unfoldable pub address : ℕ → List ℕ
address n = codes "0x" ++ hex 16 n

-- a byte of a text that can be seen and is no backslash
abbrev pub is_plain : ℕ → Bool
is_plain b = nat_lt 32 b && nat_lt b 127 && not (b == 92)

-- a byte of a text: itself where it is plain, else `\x` and two digits
unfoldable pub byte_text : ℕ → List ℕ
byte_text b = if is_plain b then b ∷ [] else 92 ∷ 120 ∷ hex 2 b

-- a text byte by byte; an empty one is `\-`
unfoldable pub shown : List ℕ → List ℕ
shown [] = 92 ∷ 45 ∷ []
shown (b ∷ bs) = all_from (λ n b. byte_text b) 0 (b ∷ bs)

-- bytes in hexadecimal; none are `\-`
unfoldable pub bytes_text : List ℕ → List ℕ
bytes_text [] = 92 ∷ 45 ∷ []
bytes_text (b ∷ bs) = all_from (λ n b. hex 2 b) 0 (b ∷ bs)

-- what isn't there is `-`
abbrev pub or_dash : {A : Type 0} → (A → List ℕ) → Option A → List ℕ
or_dash text None = codes "-"
or_dash text (Some x) = text x

-- a bool is 0 or 1
abbrev pub flag : Bool → List ℕ
flag b = decimal (if b then 1 else 0)

-- a line: its words with one space between them, and a newline
abbrev pub line : List ℕ → List (List ℕ) → List ℕ
line first words = first ++ (all_from (λ n word. codes " " ++ word) 0 words ++ codes "\n")

abbrev pub version_line : List ℕ
version_line = line (codes "report") (decimal version ∷ [])

abbrev pub system_line : System → List ℕ
system_line s = line (codes "system") (decimal s.operating_system ∷ shown s.os_version
    ∷ decimal s.architecture ∷ signed_decimal s.timestamp ∷ [])

abbrev pub application_line : Application → List ℕ
application_line a = line (codes "application") (shown a.identifier ∷ shown a.version ∷ [])

abbrev pub frame_line : ℕ → ℕ → Option Symbol → List ℕ
frame_line n pc None = line (codes "frame") (decimal n ∷ address pc ∷ [])
frame_line n pc (Some s) =
    line (codes "frame") (decimal n ∷ address pc ∷ shown s.name ∷ address s.start_address ∷ [])

abbrev pub register_line : Register → List ℕ
register_line r = line (codes "register") (shown r.name ∷ address r.value ∷ [])

-- a thread, its frames from 0 on, and its registers
abbrev pub thread_line : ℕ → Bool → List ℕ
thread_line n false = line (codes "thread") (decimal n ∷ [])
thread_line n true = line (codes "thread") (decimal n ∷ codes "crashed" ∷ [])

unfoldable pub thread_text : Thread → List ℕ
thread_text t = thread_line t.thread_number t.crashed
    ++ (all_from (λ n f. frame_line n f.pc f.symbol) 0 t.frames ++ all_from (λ n r. register_line r)
    0 t.registers)

-- the type and subtype of an image's processor
abbrev pub code_words : Option Processor → List (List ℕ)
code_words None = codes "-" ∷ codes "-" ∷ []
code_words (Some p) = decimal p.cpu ∷ decimal p.subtype ∷ []

abbrev pub image_line : Image → List ℕ
image_line i = line (codes "image") (address i.base_address ∷ decimal i.size ∷ shown i.name
    ∷ or_dash bytes_text i.uuid ∷ code_words i.code_type)

abbrev pub signal_line : Signal → List ℕ
signal_line s = line (codes "signal") (shown s.name ∷ shown s.code ∷ address s.address ∷ [])

abbrev pub process_line : Option Process → List ℕ
process_line None = []
process_line (Some p) =
    line (codes "process") (or_dash shown p.name ∷ decimal p.id ∷ decimal p.parent_id
    ∷ flag p.native ∷ [])

abbrev pub info_line : Option Info → List ℕ
info_line None = []
info_line (Some i) = line (codes "info") (flag i.user_requested ∷ [])

-- the text of a report: its version, and then each part that is there, in the order of its fields
unfoldable pub text_of : Report → List ℕ
text_of r =
    version_line ++ (system_line r.system_info
    ++ (application_line r.application_info ++ (all_from (λ n t. thread_text t) 0 r.threads
    ++ (all_from (λ n i. image_line i) 0 r.binary_images
    ++ (signal_line r.signal ++ (process_line r.process_info ++ info_line r.report_info))))))
