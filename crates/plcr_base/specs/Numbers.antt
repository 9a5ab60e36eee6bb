-- Unsigned numbers in a list of bytes, the lowest byte first, as Mach-O files of x86-64 and arm64
-- hold them (loader.h).
use Rattle.std.specs.Prelude.{ℕ, List, drop}
use Rattle.byteorder.specs.Endian.{little_number}

-- the number of 2 bytes at a place of the list
unfoldable pub u16_in : List ℕ → ℕ → ℕ
u16_in bytes at = little_number 2 (drop at bytes)

-- the number of 4 bytes at a place of the list
unfoldable pub u32_in : List ℕ → ℕ → ℕ
u32_in bytes at = little_number 4 (drop at bytes)

-- the number of 8 bytes at a place of the list
unfoldable pub u64_in : List ℕ → ℕ → ℕ
u64_in bytes at = little_number 8 (drop at bytes)
