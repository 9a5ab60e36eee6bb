-- Bytes at places, where LEB128 numbers (DWARF 4, section 7.6) and little-endian numbers of a fixed
-- size stand.
use Rattle.std.specs.Prelude.{◌≡◌, ◌<◌, ℕ, ◌+◌, ◌%◌, ◌^◌, nat_le, if◌then◌else◌, List, length, take, drop, slice_index, Option, Some, None, option_map}
use Rattle.byteorder.specs.Endian.{little_number}
use Rattle.plcr_memory.specs.Regions.{Contents, bytes_at}

-- where numbers stand: so many bytes from a place on, where all of them are there
abbrev pub Source : Type 0
Source = ℕ → ℕ → Option (List ℕ)

-- the byte at each place, where there is one
abbrev pub Bytes : Type 0
Bytes = ℕ → Option ℕ

-- what stands at places is bytes
abbrev pub AreBytes : Bytes → Type 0
AreBytes cells = (place byte : ℕ) → cells place ≡ Some byte → byte < 256

-- each byte by itself
unfoldable pub bytes_of : Source → Bytes
bytes_of source place = option_map (λ bytes. slice_index bytes 0) (source place 1)

-- the little-endian number of so many bytes from a place on
unfoldable pub number_in : ℕ → Source → ℕ → Option ℕ
number_in n source place = option_map (little_number n) (source place n)

-- so many bytes of memory from an address on, as places from 0. Addresses are added modulo 2^64,
-- and bytes that pass 2^64 together are nowhere
unfoldable pub piece_bytes : Contents → ℕ → ℕ → Source
piece_bytes memory at size place n = if nat_le (place + n) size
    then bytes_at memory ((at + place) % 2 ^ 64) n else None

-- the bytes of a list, as places from 0
unfoldable pub list_bytes : List ℕ → Source
list_bytes bytes place n = if nat_le (place + n) (length bytes)
    then Some (take n (drop place bytes)) else None
