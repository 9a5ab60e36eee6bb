-- LEB128 numbers: DWARF 4, section 7.6 "Variable Length Data" and appendix C.
use Rattle.std.specs.Prelude.{◌≡◌, ◌<◌, ◌≤◌, ℕ, zero, suc, ◌+◌, ◌*◌, ◌%◌, ◌^◌, ℤ, pos, ◌+ℤ◌, ◌-ℤ◌, ◌*ℤ◌, unsigned_abs, nat_lt, if◌then◌else◌, List, [], ◌∷◌, length, Some, None, ok_or, Result, Ok, Err}
use Rattle.std.specs.Int.{int_rem_euclid}
use Rattle.plcr_base.specs.Chains.{◌>>=◌, result_map}
use Rattle.plcr_leb128.specs.declared.constants.TheConstants.{MOST_BYTES, HIGH_BIT, SIGN_BIT}
use Rattle.plcr_leb128.specs.declared.fault.Leb128Fault.{Leb128Fault}
use Rattle.plcr_leb128.specs.declared.fault.Leb128Fault.TheVariants.{Absent, Long}
use Rattle.plcr_leb128.specs.declared.leb128.Number.{Number}
use Rattle.plcr_leb128.specs.Cells.{Bytes}

-- the bytes of the number at a place, at most so many: up to the first whose high bit is clear
abbrev pub bytes_within : ℕ → Bytes → ℕ → Result (List ℕ) Leb128Fault
bytes_within zero cells place = Err Long
bytes_within (suc left) cells place =
    ok_or (cells place) Absent >>= λ byte.
    if nat_lt byte HIGH_BIT then Ok (byte ∷ []) else
    (bytes_within left cells (place + 1) >>= λ bytes. Ok (byte ∷ bytes))

-- the bytes of the number at a place
unfoldable pub leb128_bytes : Bytes → ℕ → Result (List ℕ) Leb128Fault
leb128_bytes cells place = bytes_within MOST_BYTES cells place

-- the number of the groups of seven bits, the low one first
abbrev pub unsigned_value : List ℕ → ℕ
unsigned_value [] = 0
unsigned_value (byte ∷ bytes) = byte % HIGH_BIT + HIGH_BIT * unsigned_value bytes

-- a group of seven bits in two's complement
abbrev pub signed_group : ℕ → ℤ
signed_group group = if nat_lt group SIGN_BIT then pos group else pos group -ℤ pos HIGH_BIT

-- the same number in two's complement: its last group has the sign
abbrev pub signed_value : List ℕ → ℤ
signed_value [] = pos 0
signed_value (byte ∷ []) = signed_group (byte % HIGH_BIT)
signed_value (byte ∷ next ∷ bytes) =
    pos (byte % HIGH_BIT) +ℤ pos HIGH_BIT *ℤ signed_value (next ∷ bytes)

-- a number modulo 2^64
abbrev pub word_of : ℤ → ℕ
word_of z = unsigned_abs (int_rem_euclid z (pos (2 ^ 64)))

-- the unsigned number that bytes from a place on spell, modulo 2^64, and the place behind them
abbrev pub unsigned_number : ℕ → List ℕ → Number
unsigned_number place bytes =
    record { value = unsigned_value bytes % 2 ^ 64; next = place + length bytes }

-- the signed number that bytes from a place on spell, modulo 2^64, and the place behind them
abbrev pub signed_number : ℕ → List ℕ → Number
signed_number place bytes =
    record { value = word_of (signed_value bytes); next = place + length bytes }

-- the unsigned number at a place
abbrev pub unsigned_at : Bytes → ℕ → Result Number Leb128Fault
unsigned_at cells place = result_map (unsigned_number place) (leb128_bytes cells place)

-- the signed number at a place
abbrev pub signed_at : Bytes → ℕ → Result Number Leb128Fault
signed_at cells place = result_map (signed_number place) (leb128_bytes cells place)

-- the encoding of an unsigned number: groups of seven bits, the low one first, each in a byte with
-- its high bit set where another group follows
abbrev pub IsUnsigned : List ℕ → ℕ → Type 0
IsUnsigned [] n = ⊥
IsUnsigned (byte ∷ []) n = (byte < HIGH_BIT) × (n ≡ byte)
IsUnsigned (byte ∷ next ∷ bytes) n = (HIGH_BIT ≤ byte) × (byte < 256)
    × ((high : ℕ) × (n + HIGH_BIT ≡ byte + HIGH_BIT * high) × IsUnsigned (next ∷ bytes) high)

-- the encoding of a signed number: the same, with the last group in two's complement
abbrev pub IsSigned : List ℕ → ℤ → Type 0
IsSigned [] z = ⊥
IsSigned (byte ∷ []) z = (byte < HIGH_BIT) × (z ≡ signed_group byte)
IsSigned (byte ∷ next ∷ bytes) z = (HIGH_BIT ≤ byte) × (byte < 256)
    × ((high : ℤ) × (z +ℤ pos HIGH_BIT ≡ pos byte +ℤ pos HIGH_BIT *ℤ high)
    × IsSigned (next ∷ bytes) high)

-- these bytes stand from a place on
abbrev pub Stand : Bytes → ℕ → List ℕ → Type 0
Stand cells place [] = Unit {0}
Stand cells place (byte ∷ bytes) = (cells place ≡ Some byte) × Stand cells (place + 1) bytes

-- each of these bytes has its high bit set
abbrev pub GoOn : List ℕ → Type 0
GoOn [] = Unit {0}
GoOn (byte ∷ bytes) = (HIGH_BIT ≤ byte) × GoOn bytes

-- a number begins at a place and goes on through these bytes, behind which its next byte isn't
-- there
pub record IsCut (cells : Bytes) (place : ℕ) : Type 0 where
  pub bytes : List ℕ
  pub fewer : length bytes < MOST_BYTES
  pub stand : Stand cells place bytes
  pub go_on : GoOn bytes
  pub missing : cells (place + length bytes) ≡ None

-- a number begins at a place and goes on through as many bytes as a number has at most
pub record IsLong (cells : Bytes) (place : ℕ) : Type 0 where
  pub bytes : List ℕ
  pub all : length bytes ≡ MOST_BYTES
  pub stand : Stand cells place bytes
  pub go_on : GoOn bytes

-- an unsigned number of at most ten bytes stands at a place, and was read
pub record HasUnsigned (cells : Bytes) (place : ℕ) (number : Number) : Type 0 where
  pub bytes : List ℕ
  pub most : length bytes ≤ MOST_BYTES
  pub stand : Stand cells place bytes
  pub value : ℕ
  pub encoding : IsUnsigned bytes value
  pub is : number ≡ record { value = value % 2 ^ 64; next = place + length bytes }

-- a signed number of at most ten bytes stands at a place, and was read
pub record HasSigned (cells : Bytes) (place : ℕ) (number : Number) : Type 0 where
  pub bytes : List ℕ
  pub most : length bytes ≤ MOST_BYTES
  pub stand : Stand cells place bytes
  pub value : ℤ
  pub encoding : IsSigned bytes value
  pub is : number ≡ record { value = word_of value; next = place + length bytes }
