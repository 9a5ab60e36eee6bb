-- The value of the report of a stopped process: what is handed in, its threads and its images.
use Rattle.std.specs.Prelude.{ℕ, pos, true, ◌==◌, List, [], map, Some, None, unwrap_or, slice_index_or}
use Rattle.std.specs.List.{enumerate_from, range_with_len}
use Rattle.plcr_regs.specs.declared.arch.Arch.{Arch}
use Rattle.plcr_regs.specs.declared.arch.Arch.TheVariants.{X86_64, Arm64}
use Rattle.plcr_regs.specs.declared.registers.Registers.{Registers}
use Rattle.plcr_regs.specs.Names.{register_count, register_names}
use Rattle.plcr_report.specs.declared.messages.Report.{Report}
use Rattle.plcr_report.specs.declared.messages.System.{System}
use Rattle.plcr_report.specs.declared.messages.Application.{Application}
use Rattle.plcr_report.specs.declared.messages.Thread.{Thread}
use Rattle.plcr_report.specs.declared.messages.Frame.{Frame}
use Rattle.plcr_report.specs.declared.messages.Register.{Register}
use Rattle.plcr_report.specs.declared.messages.Image.{Image}
use Rattle.plcr_report.specs.declared.messages.Signal.{Signal}
use Rattle.plcr_report.specs.declared.messages.Process.{Process}
use Rattle.plcr_report.specs.declared.messages.Info.{Info}
use Rattle.plcr_memory.specs.Regions.{Contents}
use Rattle.plcr_macho.specs.Images.{Listed}
use Rattle.plcr_encode.specs.declared.context.Context.{Context}
use Rattle.plcr_encode.specs.Frames.{thread_frames}
use Rattle.plcr_encode.specs.Images.{images_of}

-- the number by which crash_report.proto names an architecture; it has none for arm64, which is
-- written as 6
abbrev pub architecture_number : Arch → ℕ
architecture_number X86_64 = 1
architecture_number Arm64 = 6

-- the value of register i of a state, in which it is known
abbrev pub value_at : Registers → ℕ → ℕ
value_at state i = unwrap_or (slice_index_or state.value i None) 0

-- register i of a state, with its name
abbrev pub register_at : Registers → ℕ → Register
register_at state i =
    record { name = slice_index_or (register_names state.arch) i []; value = value_at state i }

-- the registers of a state, in the order of the thread state
abbrev pub registers_of : Registers → List Register
registers_of state = map (register_at state) (range_with_len 0 (register_count state.arch))

-- a thread by its number, its frames and its state, where `crashed` is the number of the thread
-- that crashed
abbrev pub thread_with : ℕ → ℕ → List Frame → Registers → Thread
thread_with crashed number frames state = record {
  thread_number = number;
  frames = frames;
  crashed = number == crashed;
  registers = registers_of state;
}

-- a thread by its number and its state, in a process with this memory and these loaded images
abbrev pub thread_of : Contents → List Listed → Context → ℕ × Registers → Thread
thread_of memory listed context thread =
    thread_with context.crashed thread.0 (thread_frames memory listed context.bits thread.1)
    thread.1

-- the threads in these states, numbered from 0
abbrev pub threads_of : Contents → List Listed → Context → List Registers → List Thread
threads_of memory listed context states =
    map (thread_of memory listed context) (enumerate_from 0 states)

abbrev pub system_of : Context → System
system_of context = record {
  operating_system = context.os;
  os_version = context.os_version.now;
  architecture = architecture_number context.arch;
  timestamp = pos context.timestamp;
  os_build = None;
}

abbrev pub application_of : Context → Application
application_of context =
    record { identifier = context.identifier.now; version = context.version.now }

abbrev pub signal_of : Context → Signal
signal_of context = record {
  name = context.signal.now;
  code = context.code.now;
  address = context.address;
}

abbrev pub process_of : Context → Process
process_of context = record {
  name = Some context.process.now;
  id = context.pid;
  path = None;
  parent_name = None;
  parent_id = context.ppid;
  native = true;
}

abbrev pub info_of : Context → Info
info_of context = record { user_requested = context.user; uuid = None }

-- the report of a process with these threads and images
unfoldable pub report_of : Context → List Thread → List Image → Report
report_of context threads images = record {
  system_info = system_of context;
  application_info = application_of context;
  threads = threads;
  binary_images = images;
  signal = signal_of context;
  process_info = Some (process_of context);
  report_info = Some (info_of context);
}

-- the report of a process with threads in these states, this memory and these loaded images
abbrev pub process_report : Context → List Registers → Contents → List Listed → Report
process_report context states memory listed =
    report_of context (threads_of memory listed context states)
    (images_of memory context.arch listed)
