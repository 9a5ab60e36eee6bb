-- What read_core may answer, by what reading the file gives.
use Rattle.std.specs.Prelude.{◌≡◌, ℕ, List, All, Result, Ok, Err}
use Rattle.plcr_memory.specs.Regions.{Ends, AreApart}
use Rattle.plcr_memory.specs.Faults.{IsFirstWrap, IsFirstOverlap}
use Rattle.plcr_core.specs.declared.fault.CoreFault.{CoreFault}
use Rattle.plcr_core.specs.declared.fault.CoreFault.TheVariants as faults
use Rattle.plcr_core.specs.declared.read.Core.{Core}
use Rattle.plcr_core.specs.Cores.{Parts}

-- the core of the parts, over the file's bytes
abbrev pub core_of : List ℕ → Parts → Core
core_of file p = record {
  arch = p.arch;
  memory = record { file = file; regions = p.regions };
  threads = p.threads;
}

-- The first fault of reading is the answer. Without one it is the core, unless a region wraps or,
-- where none does, two overlap. Want of memory may come at any time.
abbrev pub IsAnswer : List ℕ → Result Parts CoreFault → Result Core CoreFault → Type 0
IsAnswer file read (Err faults.Memory) = Unit {0}
IsAnswer file (Err fault) answer = answer ≡ Err fault
IsAnswer file (Ok p) (Ok core) = (core ≡ core_of file p) × All Ends p.regions × AreApart p.regions
IsAnswer file (Ok p) (Err (faults.Wraps index)) = IsFirstWrap p.regions index
IsAnswer file (Ok p) (Err (faults.Overlap first second)) = All Ends p.regions
    × IsFirstOverlap p.regions first second
IsAnswer file (Ok p) (Err fault) = ⊥
