-- Fields of words.
use Rattle.std.proofs.Common.{◌≤◌, ◌<◌, ℕ, ◌/◌, ◌^◌, arith}
use Rattle.std.specs.Int.{w32, trailing_zeros}
use Rattle.std.specs.Int.Bits.{bit_and}
use Rattle.std.proofs.lemmas.Nat.{and_le_r}
use Rattle.std.proofs.Math.Nat.{div-le_self}
use Rattle.std.proofs.lemmas.Nat.Bits.{bit_at-trailing_zeros}

-- the lowest bit of a mask is one of 32
pub lowest_within : (mask : ℕ) → 0 < mask → mask < 2 ^ 32 → trailing_zeros w32 mask < 32
lowest_within mask some fits = (bit_at-trailing_zeros w32 mask some fits).0

-- a field has no more than its mask
pub field_most : (word mask k : ℕ) → bit_and word mask / 2 ^ k ≤ mask
field_most word mask k = omega (arith, and_le_r word mask, div-le_self (bit_and word mask) (2 ^ k))
