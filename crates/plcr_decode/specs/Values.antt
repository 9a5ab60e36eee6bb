-- The value of a message that has all that it has to have: what a field that lacks would be is
-- never asked.
use Rattle.std.specs.Prelude.{ℕ, ◌%◌, ◌^◌, ◌==◌, Bool, true, false, not, List, map, Option, Some, None}
use Rattle.std.specs.Int.{w64, cast_signed}
use Rattle.plcr_wire.specs.Message.{Field}
use Rattle.plcr_decode.specs.Fields.{has, messages_in, joined, number_in, text_in, or_zero, or_empty}
use Rattle.plcr_report.specs.declared.messages.Report.{Report}
use Rattle.plcr_report.specs.declared.messages.System.{System}
use Rattle.plcr_report.specs.declared.messages.Application.{Application}
use Rattle.plcr_report.specs.declared.messages.Thread.{Thread}
use Rattle.plcr_report.specs.declared.messages.Frame.{Frame}
use Rattle.plcr_report.specs.declared.messages.Symbol.{Symbol}
use Rattle.plcr_report.specs.declared.messages.Register.{Register}
use Rattle.plcr_report.specs.declared.messages.Image.{Image}
use Rattle.plcr_report.specs.declared.messages.Processor.{Processor}
use Rattle.plcr_report.specs.declared.messages.Signal.{Signal}
use Rattle.plcr_report.specs.declared.messages.Process.{Process}
use Rattle.plcr_report.specs.declared.messages.Info.{Info}

-- the number in a field
abbrev pub number : ℕ → List Field → ℕ
number n fs = or_zero (number_in n fs)

-- the low 32 bits of the number in a field
abbrev pub short : ℕ → List Field → ℕ
short n fs = number n fs % 2 ^ 32

-- the text or bytes in a field
abbrev pub text : ℕ → List Field → List ℕ
text n fs = or_empty (text_in n fs)

-- a bool is true where the number isn't 0
abbrev pub flag : ℕ → List Field → Bool
flag n fs = not (number n fs == 0)

abbrev pub where_there : {A : Type 0} → Bool → A → Option A
where_there false x = None
where_there true x = Some x

-- the one message in the fields of this number, where there is one
abbrev pub one_in : {A : Type 0} → (List Field → A) → ℕ → List Field → Option A
one_in value n fs = where_there (has n fs) (value (joined n fs))

unfoldable pub symbol_of : List Field → Symbol
symbol_of fs = record {
  name = text 1 fs;
  start_address = number 2 fs;
  end_address = number_in 3 fs;
}

unfoldable pub frame_of : List Field → Frame
frame_of fs = record { pc = number 3 fs; symbol = one_in symbol_of 6 fs }

unfoldable pub register_of : List Field → Register
register_of fs = record { name = text 1 fs; value = number 2 fs }

unfoldable pub thread_of : List Field → Thread
thread_of fs = record {
  thread_number = short 1 fs;
  frames = map frame_of (messages_in 2 fs);
  crashed = flag 3 fs;
  registers = map register_of (messages_in 4 fs);
}

unfoldable pub system_of : List Field → System
system_of fs = record {
  operating_system = short 1 fs;
  os_version = text 2 fs;
  architecture = short 3 fs;
  timestamp = cast_signed w64 (number 4 fs);
  os_build = text_in 5 fs;
}

unfoldable pub application_of : List Field → Application
application_of fs = record { identifier = text 1 fs; version = text 2 fs }

unfoldable pub processor_of : List Field → Processor
processor_of fs = record { encoding = short 1 fs; cpu = number 2 fs; subtype = number 3 fs }

unfoldable pub image_of : List Field → Image
image_of fs = record {
  base_address = number 1 fs;
  size = number 2 fs;
  name = text 3 fs;
  uuid = text_in 4 fs;
  code_type = one_in processor_of 5 fs;
}

unfoldable pub signal_of : List Field → Signal
signal_of fs = record { name = text 1 fs; code = text 2 fs; address = number 3 fs }

unfoldable pub process_of : List Field → Process
process_of fs = record {
  name = text_in 1 fs;
  id = short 2 fs;
  path = text_in 3 fs;
  parent_name = text_in 4 fs;
  parent_id = short 5 fs;
  native = flag 6 fs;
}

unfoldable pub info_of : List Field → Info
info_of fs = record { user_requested = flag 1 fs; uuid = text_in 2 fs }

unfoldable pub report_of : List Field → Report
report_of fs = record {
  system_info = system_of (joined 1 fs);
  application_info = application_of (joined 2 fs);
  threads = map thread_of (messages_in 3 fs);
  binary_images = map image_of (messages_in 4 fs);
  signal = signal_of (joined 6 fs);
  process_info = one_in process_of 7 fs;
  report_info = one_in info_of 9 fs;
}
