-- What a core is, above the reading of its bytes: a header, the load commands that lie one after
-- the other behind it, and what these give.
use Rattle.std.specs.Prelude.{◌≡◌, ◌≤◌, ◌<◌, ◌+◌, ◌⊎◌, ℕ, List, [], length, filter_map, All, Some, None}
use Rattle.plcr_memory.specs.declared.region.Region.{Region}
use Rattle.plcr_memory.specs.Regions.{Ends, AreApart}
use Rattle.plcr_memory.specs.Faults.{IsFirstWrap, IsFirstOverlap}
use Rattle.plcr_loader.specs.declared.constants.TheConstants.{MH_CORE, MH_MAGIC_64}
use Rattle.plcr_loader.specs.declared.mach_header_64.TheConstants.{LENGTH, MAGIC, CPUTYPE, FILETYPE, NCMDS, SIZEOFCMDS}
use Rattle.plcr_loader.specs.declared.trouble.Trouble.{Trouble}
use Rattle.plcr_loader.specs.Fields.{number}
use Rattle.plcr_loader.specs.Commands.{Command, AreLaid, IsFirstTrouble}
use Rattle.plcr_loader.specs.Sources.{file_bytes}
use Rattle.plcr_regs.specs.declared.registers.Registers.{Registers}
use Rattle.plcr_core.specs.declared.fault.CoreFault.{CoreFault}
use Rattle.plcr_core.specs.declared.fault.CoreFault.TheVariants as faults
use Rattle.plcr_core.specs.declared.header.Header.{Header}
use Rattle.plcr_core.specs.declared.limits.TheConstants.{MOST_THREADS}
use Rattle.plcr_core.specs.declared.read.Core.{Core}
use Rattle.plcr_core.specs.Heads.{arch_of}
use Rattle.plcr_core.specs.Cores.{core_trouble, fault_of, region_of, thread_of}

-- this header of a core that is read stands at the front of the file
pub record IsHeader (file : List ℕ) (header : Header) : Type 0 where
  pub whole : LENGTH ≤ length file
  pub magic : number MAGIC file ≡ MH_MAGIC_64
  pub filetype : number FILETYPE file ≡ MH_CORE
  pub arch : arch_of (number CPUTYPE file) ≡ Some header.arch
  pub commands : header.commands ≡ number NCMDS file
  pub end : header.end ≡ LENGTH + number SIZEOFCMDS file

-- as many commands as the header says lie one after the other behind it
pub record AreCommands (file : List ℕ) (header : Header) (commands : List Command) : Type 0 where
  pub stands : IsHeader file header
  pub count : length commands ≡ header.commands
  pub laid : AreLaid (file_bytes file) (core_trouble (length file)) header.end 0 LENGTH commands

-- some threads, and not too many
pub record AreSome (threads : List Registers) : Type 0 where
  pub some : 1 ≤ length threads
  pub few : length threads ≤ MOST_THREADS

-- the core is what the commands of the file give: its threads are some and not too many, and its
-- regions end within the addresses and share none
pub record IsLaidOut (file : List ℕ) (core : Core) : Type 0 where
  pub header : Header
  pub commands : List Command
  pub lie : AreCommands file header commands
  pub arch : core.arch ≡ header.arch
  pub memory : core.memory ≡ record { file = file; regions = filter_map region_of commands }
  pub threads : core.threads ≡ filter_map (thread_of header.arch) commands
  pub some : AreSome core.threads
  pub ends : All Ends core.memory.regions
  pub apart : AreApart core.memory.regions

-- what is wrong with the header: the file is too short for it, then its magic or its filetype, then
-- its cputype
abbrev pub IsHeaderFault : List ℕ → CoreFault → Type 0
IsHeaderFault file (faults.Truncated at) = (at ≡ length file) × (length file < LENGTH)
IsHeaderFault file (faults.NotCore magic filetype) =
    (LENGTH ≤ length file) × (magic ≡ number MAGIC file) × (filetype ≡ number FILETYPE file)
    × ¬ ((magic ≡ MH_MAGIC_64) × (filetype ≡ MH_CORE))
IsHeaderFault file (faults.OtherCpu cpu) =
    (LENGTH ≤ length file) × (number MAGIC file ≡ MH_MAGIC_64) × (number FILETYPE file ≡ MH_CORE)
    × (cpu ≡ number CPUTYPE file) × (arch_of cpu ≡ None)
IsHeaderFault file fault = ⊥

-- the header stands, and the fault is that of the first load command behind it that doesn't lie
pub record IsCommandFault (file : List ℕ) (fault : CoreFault) : Type 0 where
  pub header : Header
  pub trouble : Trouble
  pub stands : IsHeader file header
  pub first : IsFirstTrouble (file_bytes file) (core_trouble (length file)) header.end
      header.commands 0 LENGTH trouble
  pub is : fault ≡ fault_of (length file) trouble

-- what is wrong with the threads and regions that commands give: the number of threads, then a
-- region that wraps, then two that overlap
abbrev pub IsPartFault : List Registers → List Region → CoreFault → Type 0
IsPartFault threads regions faults.NoThread = threads ≡ []
IsPartFault threads regions (faults.TooManyThreads count) = (count ≡ length threads)
    × (MOST_THREADS < count)
IsPartFault threads regions (faults.Wraps index) = AreSome threads × IsFirstWrap regions index
IsPartFault threads regions (faults.Overlap first second) = AreSome threads × All Ends regions
    × IsFirstOverlap regions first second
IsPartFault threads regions fault = ⊥

-- all commands lie behind the header, and the fault is that of what they give
pub record IsGivenFault (file : List ℕ) (fault : CoreFault) : Type 0 where
  pub header : Header
  pub commands : List Command
  pub lie : AreCommands file header commands
  pub is : IsPartFault (filter_map (thread_of header.arch) commands) (filter_map region_of commands)
      fault

-- the fault is the first one there: of the header, then of the first command that doesn't lie, then
-- of what the commands give
abbrev pub IsFirstFault : List ℕ → CoreFault → Type 0
IsFirstFault file fault = IsHeaderFault file fault ⊎ IsCommandFault file fault
    ⊎ IsGivenFault file fault
