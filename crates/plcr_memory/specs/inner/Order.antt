-- How a memory keeps its regions for a search by halves.
use Rattle.std.specs.Prelude.{◌≡◌, ◌≢◌, ◌≤◌, ◌<◌, ℕ, List, length, All, slice_index_or, Some, IsTrue}
use Rattle.plcr_memory.specs.declared.region.Region.{Region}
use Rattle.plcr_memory.specs.declared.order.Placed.{Placed}
use Rattle.plcr_memory.specs.Regions.{Contents, region_at, covers, region_over, byte_in, byte_at, IsBacked, Ends, AreApart}

-- the entry at a place of an order, and an empty one past the end
abbrev pub placed_at : List Placed → ℕ → Placed
placed_at os p = slice_index_or os p (record { start = 0; size = 0; index = 0 })

-- the entry stands for a region of the list
pub record IsPlaced (rs : List Region) (o : Placed) : Type 0 where
  pub inside : o.index < length rs
  pub starts : o.start ≡ (region_at rs o.index).start
  pub sizes : o.size ≡ (region_at rs o.index).size

-- the entries are the regions of the list, each once, by rising starts
pub record IsOrder (rs : List Region) (os : List Placed) : Type 0 where
  pub rises : (p q : ℕ) → p ≤ q → q < length os → (placed_at os p).start ≤ (placed_at os q).start
  pub each : (p : ℕ) → p < length os → IsPlaced rs (placed_at os p)
  pub distinct : (p q : ℕ) → p ≢ q → p < length os → q < length os →
      (placed_at os p).index ≢ (placed_at os q).index
  pub whole : (i : ℕ) → i < length rs → (p : ℕ) × (p < length os) × ((placed_at os p).index ≡ i)

-- what each memory keeps to
pub record IsHeld (file : List ℕ) (rs : List Region) (os : List Placed) : Type 0 where
  pub backed : All (IsBacked file) rs
  pub ends : All Ends rs
  pub apart : AreApart rs
  pub order : IsOrder rs os

-- the region is the first that covers the address, and has the byte of each address that it covers
pub record IsHolder (memory : Contents) (a : ℕ) (r : Region) : Type 0 where
  pub first : region_over memory.regions a ≡ Some r
  pub covered : IsTrue (covers r a)
  pub backed : IsBacked memory.file r
  pub ends : Ends r
  pub each : (b : ℕ) → IsTrue (covers r b) → byte_at memory b ≡ Some (byte_in memory.file r b)
