-- Bytes of a memory that are at hand.
use Rattle.std.specs.Prelude.{◌≡◌, ℕ, ◌+◌, ◌≤◌, ◌^◌, List, length, Some}
use Rattle.plcr_memory.specs.Regions.{Contents, bytes_at}

-- the bytes from an address on; they end within the addresses of 64 bits
pub record IsAtHand (memory : Contents) (start : ℕ) (bytes : List ℕ) : Type 0 where
  pub there : bytes_at memory start (length bytes) ≡ Some bytes
  pub ends : start + length bytes ≤ 2 ^ 64
