-- Numbers as bytes, and lists joined in order.
use Rattle.std.specs.Prelude.{ℕ, zero, suc, List, [], ◌++◌, flat_map}
use Rattle.std.specs.Int.{w32, w64, to_le_bytes}

-- numbers of 4 and of 8 bytes, the lowest byte first
abbrev pub u32s : List ℕ → List ℕ
u32s numbers = flat_map (to_le_bytes w32) numbers

abbrev pub u64s : List ℕ → List ℕ
u64s numbers = flat_map (to_le_bytes w64) numbers

-- the lists of the numbers below n, one behind the other
unfoldable pub joined : (ℕ → List ℕ) → ℕ → List ℕ
joined list zero = []
joined list (suc k) = joined list k ++ list k
