-- Numbers as scripts write them: 1 to 20 decimal digits, or `0x` and 1 to 16 hexadecimal digits of
-- either case.
use Rattle.std.specs.Prelude.{ℕ, Bool, List, Option, Some, None, ◌&&◌, length, take, drop, nat_lt, nat_le, if◌then◌else◌, option_and_then, codes}
use Rattle.std.specs.List.{list_all}
use Rattle.std.specs.Str.{bytes_eq}
use Rattle.std.specs.Char.{is_digit}
use Rattle.std.specs.Str.Parse.{digits_value}
use Rattle.plcr_script.specs.declared.numerals.TheConstants.{DECIMAL_DIGITS, HEXADECIMAL_DIGITS}

-- whether a text is 1 to most digits of the base
abbrev pub is_numeral : ℕ → ℕ → List ℕ → Bool
is_numeral base most text =
    nat_le 1 (length text) && (nat_le (length text) most && list_all (λ b. is_digit b base) text)

-- the number that a text of 1 to most digits of the base writes, its first digit weighing most
abbrev pub numeral_in : ℕ → ℕ → List ℕ → Option ℕ
numeral_in base most text = if is_numeral base most text then Some (digits_value base text)
    else None

-- the number that a word writes
abbrev pub number_in : List ℕ → Option ℕ
number_in word = if bytes_eq (take 2 word) (codes "0x")
    then numeral_in 16 HEXADECIMAL_DIGITS (drop 2 word) else numeral_in 10 DECIMAL_DIGITS word

-- the number, where it is below a limit
abbrev pub below : ℕ → Option ℕ → Option ℕ
below limit number = option_and_then (λ n. if nat_lt n limit then Some n else None) number
