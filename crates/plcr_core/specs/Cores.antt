-- A core file: its header, its load commands, and the regions and thread states that these give
-- (loader.h).
use Rattle.std.specs.Prelude.{◌≤◌, ℕ, ◌==◌, nat_lt, if◌then◌else◌, List, All, length, filter_map, Option, None, Result, Ok, Err}
use Rattle.plcr_base.specs.Chains.{◌>>=◌}
use Rattle.plcr_memory.specs.declared.region.Region.{Region}
use Rattle.plcr_loader.specs.declared.trouble.Trouble.{Trouble}
use Rattle.plcr_loader.specs.declared.trouble.Trouble.TheVariants.{Bad, Absent}
use Rattle.plcr_loader.specs.Commands.{Command, commands_at, faulted, is_segment, is_thread}
use Rattle.plcr_loader.specs.Sources.{file_bytes}
use Rattle.plcr_loader.specs.declared.mach_header_64.TheConstants.{LENGTH}
use Rattle.plcr_regs.specs.declared.arch.Arch.{Arch}
use Rattle.plcr_regs.specs.declared.registers.Registers.{Registers}
use Rattle.plcr_regs.specs.States.{IsWhole}
use Rattle.plcr_core.specs.declared.header.Header.{Header}
use Rattle.plcr_core.specs.declared.limits.TheConstants.{MOST_THREADS}
use Rattle.plcr_core.specs.declared.fault.CoreFault.{CoreFault}
use Rattle.plcr_core.specs.declared.fault.CoreFault.TheVariants.{Truncated, BadCommand, NoThread, TooManyThreads}
use Rattle.plcr_core.specs.Heads.{header_in}
use Rattle.plcr_core.specs.Segments.{segment_trouble, region_in}
use Rattle.plcr_core.specs.Groups.{thread_trouble, thread_in}

-- what is wrong with a command beside its frame, in a file of this length
abbrev pub core_trouble : ℕ → ℕ → Command → Option Trouble
core_trouble file_length index c =
    if is_segment c then segment_trouble file_length index c.bytes else
    if is_thread c then thread_trouble index c.bytes else None

-- the region that a command gives
abbrev pub region_of : Command → Option Region
region_of c = if is_segment c then region_in c.bytes else None

-- the thread that a command gives
abbrev pub thread_of : Arch → Command → Option Registers
thread_of arch c = if is_thread c then thread_in arch c.bytes else None

-- what a trouble with the commands is in a core file of this length
abbrev pub fault_of : ℕ → Trouble → CoreFault
fault_of file_length (Bad index) = BadCommand index
fault_of file_length (Absent place) = Truncated file_length

-- the load commands of the file, or the first fault among them
unfoldable pub commands_in : List ℕ → Header → Result (List Command) CoreFault
commands_in file header =
    faulted (fault_of (length file)) (commands_at (file_bytes file) (core_trouble (length file))
    header.end header.commands 0 LENGTH)

-- what a core gives before its memory is laid out
pub record Parts : Type 0 where
  pub arch : Arch
  pub regions : List Region
  pub threads : List Registers

-- the parts that the commands give, with one thread or more but not too many
abbrev pub parts_of : Arch → List Command → Result Parts CoreFault
parts_of arch cs =
    let threads = filter_map (thread_of arch) cs in
    if length threads == 0 then Err NoThread else
    if nat_lt MOST_THREADS (length threads) then Err (TooManyThreads (length threads)) else
    Ok (record { arch = arch; regions = filter_map region_of cs; threads = threads })

-- the parts of a core file, or its first fault
unfoldable pub parts_in : List ℕ → Result Parts CoreFault
parts_in file = header_in file >>= λ header. commands_in file header >>= λ cs.
    parts_of header.arch cs

-- the threads of a core: one or more but not too many, each in a state in which all registers are
-- known
pub record AreThreads (arch : Arch) (threads : List Registers) : Type 0 where
  pub each : All (IsWhole arch) threads
  pub some : 1 ≤ length threads
  pub few : length threads ≤ MOST_THREADS
