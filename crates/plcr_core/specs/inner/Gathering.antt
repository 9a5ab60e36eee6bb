-- What the private functions behind read_core answer.
use Rattle.std.specs.Prelude.{◌≡◌, ℕ, ◌+◌, ◌==◌, nat_lt, if◌then◌else◌, List, ◌++◌, length, take, filter_map, Result, Ok, Err}
use Rattle.std.specs.Option.{option_to_list}
use Rattle.plcr_base.specs.Chains.{◌>>=◌, passed, result_map}
use Rattle.plcr_memory.specs.declared.region.Region.{Region}
use Rattle.plcr_loader.specs.declared.trouble.Trouble.{Trouble}
use Rattle.plcr_loader.specs.Commands.{Command}
use Rattle.plcr_regs.specs.declared.arch.Arch.{Arch}
use Rattle.plcr_regs.specs.declared.registers.Registers.{Registers}
use Rattle.plcr_core.specs.declared.command.WholeCommand.{WholeCommand}
use Rattle.plcr_core.specs.declared.fault.CoreFault.{CoreFault}
use Rattle.plcr_core.specs.declared.fault.CoreFault.TheVariants as faults
use Rattle.plcr_core.specs.declared.gain.Gain.{Gain}
use Rattle.plcr_core.specs.declared.gathered.Gathered.{Gathered}
use Rattle.plcr_core.specs.declared.header.Header.{Header}
use Rattle.plcr_core.specs.declared.limits.TheConstants.{MOST_THREADS}
use Rattle.plcr_core.specs.declared.read.Found.{Found}
use Rattle.plcr_core.specs.Cores.{Parts, commands_in, core_trouble, region_of, thread_of}

-- want of memory may come at any time; another fault is the one that reading meets
abbrev pub Fails : {Y : Type 0} → CoreFault → Result Y CoreFault → Type 0
Fails faults.Memory read = Unit {0}
Fails fault read = read ≡ Err fault

-- the answer, seen by a view, is what reading gives, unless memory ran out
abbrev pub Gives : {X Y : Type 0} → (X → Y) → Result X CoreFault → Result Y CoreFault → Type 0
Gives view (Ok x) read = read ≡ Ok (view x)
Gives view (Err fault) read = Fails fault read

-- a load command that was read
abbrev pub command_of : WholeCommand → Command
command_of f = record {
  cmd = f.cmd;
  cmdsize = length f.bytes.now;
  place = f.place;
  bytes = f.bytes.now;
}

-- what one command gives
abbrev pub gain_of : Arch → Command → Gain
gain_of arch c = record { region = region_of c; thread = thread_of arch c; size = c.cmdsize }

-- what the commands give, with at most so many threads kept
pub record Gains : Type 0 where
  pub regions : List Region
  pub threads : List Registers
  pub count : ℕ

abbrev pub gains_of : Arch → List Command → Gains
gains_of arch cs =
    let threads = filter_map (thread_of arch) cs in
    record {
      regions = filter_map region_of cs;
      threads = take MOST_THREADS threads;
      count = length threads;
    }

-- what a command gives, or its trouble
abbrev pub gain_in : Arch → ℕ → ℕ → Command → Result Gain Trouble
gain_in arch file_length index c =
    result_map (gain_of arch) (passed c (core_trouble file_length index c))

-- what all commands of the file give, or the first fault among them
abbrev pub gains_in : List ℕ → Header → Result Gains CoreFault
gains_in file header = commands_in file header >>= λ cs. Ok (gains_of header.arch cs)

-- what was gathered
abbrev pub gains : Gathered → Gains
gains g = record { regions = g.regions.items; threads = g.threads.items; count = g.count }

-- the parts that were found
abbrev pub parts : Found → Parts
parts f = record { arch = f.arch; regions = f.regions.items; threads = f.threads.items }

-- what is gathered with one more command
abbrev pub with_gain : Gains → Gain → Gains
with_gain g gain = record {
  regions = g.regions ++ option_to_list gain.region;
  threads = take MOST_THREADS (g.threads ++ option_to_list gain.thread);
  count = g.count + length (option_to_list gain.thread);
}

-- the parts that the gathered regions and threads make, with one thread or more but not too many
abbrev pub parts_from : Arch → Gains → Result Parts CoreFault
parts_from arch g =
    if g.count == 0 then Err faults.NoThread else
    if nat_lt MOST_THREADS g.count then Err (faults.TooManyThreads g.count) else
    Ok (record { arch = arch; regions = g.regions; threads = g.threads })
