-- Why a list of regions is no memory.
use Rattle.std.specs.Prelude.{◌<◌, ℕ, ◌+◌, ◌^◌, List, length, All}
use Rattle.plcr_memory.specs.declared.region.Region.{Region}
use Rattle.plcr_memory.specs.declared.fault.MemoryFault.{MemoryFault}
use Rattle.plcr_memory.specs.declared.fault.MemoryFault.TheVariants.{Overlap, Wraps, Memory}
use Rattle.plcr_memory.specs.Regions.{region_at, Ends, Share, AreApartBelow}

-- the region at index i wraps past the 64-bit addresses, and none before it does
pub record IsFirstWrap (rs : List Region) (i : ℕ) : Type 0 where
  pub inside : i < length rs
  pub wraps : 2 ^ 64 < (region_at rs i).start + (region_at rs i).size
  pub least : (k : ℕ) → k < i → Ends (region_at rs k)

-- the region at index second is the first that shares an address with an earlier one, and first is
-- the first such earlier one
pub record IsFirstOverlap (rs : List Region) (first second : ℕ) : Type 0 where
  pub before : first < second
  pub inside : second < length rs
  pub shared : Share (region_at rs first) (region_at rs second)
  pub least_second : AreApartBelow second rs
  pub least_first : (k : ℕ) → k < first → ¬ Share (region_at rs k) (region_at rs second)

-- what each fault says of the regions; a region that wraps is told before two that overlap
abbrev pub IsFault : List Region → MemoryFault → Type 0
IsFault rs (Overlap first second) = All Ends rs × IsFirstOverlap rs first second
IsFault rs (Wraps index) = IsFirstWrap rs index
IsFault rs Memory = Unit {0}
