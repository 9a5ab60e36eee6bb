-- Of a number of 64 bits all count.
use Rattle.std.proofs.Common.{◌≡◌, ℕ, ◌<◌, ◌≤◌, ◌%◌, ◌^◌, arith}
use Rattle.std.proofs.Math.Nat.{mod-eq_of_lt}
use Rattle.std.proofs.Math.Pow.{pow_mono}

pub wide : (a b : ℕ) → a < 2 ^ 64 → 64 ≤ b → a % 2 ^ b ≡ a
wide a b h k = mod-eq_of_lt (omega (arith, pow_mono k))
