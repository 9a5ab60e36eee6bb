-- What the bytes of a field are, long or short as its varints may be (Protocol Buffers
-- documentation, "Encoding").
use Rattle.std.specs.Prelude.{◌≡◌, ◌≤◌, ℕ, ◌+◌, ◌*◌, List, ◌++◌, length}
use Rattle.std.specs.Int.{w32, w64, to_le_bytes}
use Rattle.plcr_wire.specs.Varint.{IsVarint}
use Rattle.plcr_wire.specs.Message.{Value, Number, Fixed64, Bytes, Fixed32, Field, wire_type}
use Rattle.plcr_wire.specs.declared.varint.TheConstants.{VARINT_BYTES}

-- a varint of n, of so many bytes at most, and then this rest
pub record StartsWithNumber (bytes : List ℕ) (n : ℕ) (rest : List ℕ) (most : ℕ) : Type 0 where
  pub front : List ℕ
  pub parts : bytes ≡ front ++ rest
  pub spelled : IsVarint front n
  pub short : length front ≤ most

-- a value as it is spelled, and then this rest
abbrev pub StartsWithValue : List ℕ → Value → List ℕ → Type 0
StartsWithValue bytes (Number n) rest = StartsWithNumber bytes n rest VARINT_BYTES
StartsWithValue bytes (Fixed64 n) rest = bytes ≡ to_le_bytes w64 n ++ rest
StartsWithValue bytes (Bytes text) rest =
    StartsWithNumber bytes (length text) (text ++ rest) VARINT_BYTES
StartsWithValue bytes (Fixed32 n) rest = bytes ≡ to_le_bytes w32 n ++ rest

-- a varint of the field's number and wire type, its value, and then this rest
pub record StartsWithField (bytes : List ℕ) (f : Field) (rest : List ℕ) : Type 0 where
  pub behind : List ℕ
  pub tag : StartsWithNumber bytes (f.number * 8 + wire_type f.value) behind VARINT_BYTES
  pub value : StartsWithValue behind f.value rest
