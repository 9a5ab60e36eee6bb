-- How many images a word of the command line asks for.
use Rattle.std.specs.Prelude.{ℕ, List, Option, Some, None, ◌&&◌, nat_le, if◌then◌else◌, option_and_then}
use Rattle.plcr_script.specs.Numerals.{numeral_in}
use Rattle.plcr_make.specs.declared.constants.TheConstants.{MOST_IMAGES}
use Rattle.plcr_maker.specs.declared.numerals.TheConstants.{COUNT_DIGITS}

-- so many images can be made
abbrev pub if_makable : ℕ → Option ℕ
if_makable n = if nat_le 1 n && nat_le n MOST_IMAGES then Some n else None

-- 1 to 4,000, in 1 to 4 decimal digits; leading zeros count as digits
abbrev pub images_in : List ℕ → Option ℕ
images_in word = option_and_then if_makable (numeral_in 10 COUNT_DIGITS word)
