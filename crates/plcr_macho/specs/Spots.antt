-- The spots in which an index lies. They stand in the order of their starts, and `reach` is no less
-- than the end of any spot up to it, so a search that goes down from an address may stop where
-- `reach` is below it.
use Rattle.std.specs.Prelude.{◌≡◌, ℕ, ◌+◌, ◌-◌, ◌^◌, ◌≤◌, ◌<◌, min, List, length, map, take, slice_index_or, Option, Some, None}
use Rattle.std.specs.List.Sorted.{IsNonDecreasingBy, IsPermutation}
use Rattle.plcr_memory.specs.Regions.{Contents}
use Rattle.plcr_regs.specs.declared.arch.Arch.{Arch}
use Rattle.plcr_macho.specs.declared.spot.Spot.{Spot}
use Rattle.plcr_macho.specs.Images.{Listed}
use Rattle.plcr_macho.specs.Index.{Extent, index_of, ordered_from}

-- what a spot says
abbrev pub extent_of : Spot → Extent
extent_of spot = record { position = spot.position; header = spot.start; size = spot.size }

abbrev pub extents_of : List Spot → List Extent
extents_of spots = map extent_of spots

-- the address behind a spot's range, or the last one where there is none
abbrev pub end_of : Spot → ℕ
end_of spot = min (spot.start + spot.size) (2 ^ 64 - 1)

-- a spot's reach is no less than the end of any spot up to it
abbrev pub Reaches : List Spot → Type 0
Reaches spots = (k i : ℕ) (d e : Spot) → k ≤ i → i < length spots →
    end_of (slice_index_or spots k d) ≤ (slice_index_or spots i e).reach

-- spots that can be searched
pub record IsSearchable (spots : List Spot) : Type 0 where
  pub rises : IsNonDecreasingBy (λ spot. spot.start) spots
  pub reaches : Reaches spots

-- the index of a list of so many images that lies in the first spots of a room, or none
abbrev pub index_in : ℕ → List Spot → Option ℕ → Option (List Extent)
index_in n room None = None
index_in n room (Some filled) = Some (ordered_from 0 n (extents_of (take filled room)))

-- the first spots of a room can be searched, and each says a position of its own
pub record IsSettled (n : ℕ) (room : List Spot) (filled : ℕ) : Type 0 where
  pub within : filled ≤ length room
  pub searchable : IsSearchable (take filled room)
  pub whole : IsPermutation (extents_of (take filled room))
      (ordered_from 0 n (extents_of (take filled room)))

-- they are the index of a list of images for a memory and an architecture
pub record IsIndexOf (memory : Contents) (arch : Arch) (images : List Listed) (room : List Spot)
    (filled : ℕ) : Type 0 where
  pub settled : IsSettled (length images) room filled
  pub is : index_in (length images) room (Some filled) ≡ Some (index_of memory arch images)

-- what lay in the first spots, one image after the other, is an index there
abbrev pub Settles : List Spot → List Spot → ℕ → Type 0
Settles old new filled = (memory : Contents) (arch : Arch) (images : List Listed) →
    extents_of (take filled old) ≡ index_of memory arch images →
    IsIndexOf memory arch images new filled
