-- Both forms of LEB128 numbers, read group by group.
use Rattle.std.specs.Prelude.{ℕ, ◌+◌, ◌*◌, ◌-◌, ◌%◌, ◌^◌, nat_lt, if◌then◌else◌, List}
use Rattle.plcr_leb128.specs.declared.constants.TheConstants.{HIGH_BIT, SIGN_BIT}
use Rattle.plcr_leb128.specs.declared.leb128.Form.{Form}
use Rattle.plcr_leb128.specs.declared.leb128.Form.TheVariants.{Unsigned, Signed}
use Rattle.plcr_leb128.specs.declared.leb128.Number.{Number}
use Rattle.plcr_leb128.specs.Leb128.{unsigned_number, signed_number}

-- the number that bytes from a place on spell
abbrev pub number_of : Form → ℕ → List ℕ → Number
number_of Unsigned place bytes = unsigned_number place bytes
number_of Signed place bytes = signed_number place bytes

-- the last group, modulo 2^64
abbrev pub last_group : Form → ℕ → ℕ
last_group Unsigned byte = byte
last_group Signed byte = if nat_lt byte SIGN_BIT then byte else byte + (2 ^ 64 - HIGH_BIT)

-- a group before the number of those behind it, modulo 2^64
abbrev pub with_group : ℕ → ℕ → ℕ
with_group byte high = (byte % HIGH_BIT + HIGH_BIT * high) % 2 ^ 64
