-- The memory of a stopped process as the segments of a Mach-O file lay it out (loader.h): regions
-- of addresses over the bytes of the file.
use Rattle.std.specs.Prelude.{◌≤◌, ◌<◌, ℕ, zero, suc, ◌+◌, ◌-◌, ◌^◌, Bool, false, IsTrue, nat_lt, nat_le, ◌&&◌, if◌then◌else◌, List, [], ◌∷◌, length, slice_index, slice_index_or, Option, Some, None, option_map, unwrap_or}
use Rattle.std.specs.List.{find}
use Rattle.std.specs.Option.{option_map_or}
use Rattle.byteorder.specs.Endian.{little_number}
use Rattle.plcr_memory.specs.declared.region.Region.{Region}

-- what a memory stands for: the file's bytes, and the regions as they were given
pub record Contents : Type 0 where
  pub file : List ℕ
  pub regions : List Region

-- whether the address is one of the region's
abbrev pub covers : Region → ℕ → Bool
covers r a = nat_le r.start a && nat_lt a (r.start + r.size)

-- the region's byte at an address that it covers: the file's, and zero past the bytes that stand in
-- the file
abbrev pub byte_in : List ℕ → Region → ℕ → ℕ
byte_in file r a = if nat_lt (a - r.start) r.len then slice_index file (r.from + (a - r.start))
    else 0

-- the first region that covers the address
abbrev pub region_over : List Region → ℕ → Option Region
region_over rs a = find (λ r. covers r a) rs

-- the byte of the first region that covers the address
abbrev pub byte_among : List ℕ → List Region → ℕ → Option ℕ
byte_among file [] a = None
byte_among file (r ∷ rs) a = if covers r a then Some (byte_in file r a) else byte_among file rs a

-- the byte at an address, where a region covers it
abbrev pub byte_at : Contents → ℕ → Option ℕ
byte_at memory a = byte_among memory.file memory.regions a

-- a byte before the bytes after it, where all are known
abbrev pub cons_known : Option ℕ → Option (List ℕ) → Option (List ℕ)
cons_known (Some b) (Some bs) = Some (b ∷ bs)
cons_known (Some b) None = None
cons_known None bs = None

-- the bytes from an address on, where all are mapped
abbrev pub bytes_at : Contents → ℕ → ℕ → Option (List ℕ)
bytes_at memory a zero = Some []
bytes_at memory a (suc n) = cons_known (byte_at memory a) (bytes_at memory (a + 1) n)

-- the little-endian number of so many bytes at an address
unfoldable pub number_at : ℕ → Contents → ℕ → Option ℕ
number_at n memory a = option_map (little_number n) (bytes_at memory a n)

-- how many bytes from an address on the region has without any of the file's from there on
abbrev pub zeros_in : Region → ℕ → ℕ
zeros_in r a = if nat_lt (a - r.start) r.len then 0 else r.size - (a - r.start)

-- the same of the first region that covers the address, and none where no region does
abbrev pub zeros_at : Contents → ℕ → ℕ
zeros_at memory a = unwrap_or (option_map (λ r. zeros_in r a) (region_over memory.regions a)) 0

-- whether the region has so many of the file's bytes from an address on
abbrev pub stores : Region → ℕ → ℕ → Bool
stores r a n = nat_le ((a - r.start) + n) r.len

-- the same of the first region that covers the address
abbrev pub is_stored : Contents → ℕ → ℕ → Bool
is_stored memory a n = option_map_or (λ r. stores r a n) (region_over memory.regions a) false

-- the region's bytes stand in the file and within the region, which isn't empty
pub record IsBacked (file : List ℕ) (r : Region) : Type 0 where
  pub in_file : r.from + r.len ≤ length file
  pub in_region : r.len ≤ r.size
  pub not_empty : 1 ≤ r.size

-- the region at an index, and an empty one past the end
abbrev pub region_at : List Region → ℕ → Region
region_at rs i = slice_index_or rs i (record { start = 0; size = 0; from = 0; len = 0 })

-- the region ends within the addresses of 64 bits
abbrev pub Ends : Region → Type 0
Ends r = r.start + r.size ≤ 2 ^ 64

-- an address that two regions share
pub record Share (r s : Region) : Type 0 where
  pub address : ℕ
  pub one : IsTrue (covers r address)
  pub other : IsTrue (covers s address)

-- of the first n regions no two share an address
abbrev pub AreApartBelow : ℕ → List Region → Type 0
AreApartBelow n rs = (i j : ℕ) → i < j → j < n → ¬ Share (region_at rs i) (region_at rs j)

-- no two regions share an address
abbrev pub AreApart : List Region → Type 0
AreApart rs = AreApartBelow (length rs) rs
