-- Numbers of one byte.
use Rattle.std.proofs.Common.{◌≡◌, ℕ, Option, Some, None, [], option_map, refl, ap, arith}
use Rattle.byteorder.specs.Endian.{little_number}
use Rattle.plcr_memory.specs.Regions.{Contents, byte_at, cons_known, number_at}

-- the number of one byte is the byte
pub one_byte : (m : Contents) (a : ℕ) → number_at 1 m a ≡ byte_at m a
unfolding number_at
one_byte m a = alone (byte_at m a)
  where
    alone : (o : Option ℕ) → option_map (little_number 1) (cons_known o (Some [])) ≡ o
    alone None = refl
    alone (Some b) = ap Some (omega arith)
