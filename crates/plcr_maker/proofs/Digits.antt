-- Numbers of a few decimal digits.
use Rattle.std.proofs.Common.{◌≡◌, ℕ, ◌^◌, ◌<◌, ◌≤◌, List, length, take, Option, Some, ap, arith, length-take-le}
use Rattle.std.specs.Option.{SomeIff, option_and_then}
use Rattle.std.specs.Str.Parse.{AllDigits, digits_value}
use Rattle.std.proofs.Math.Nat.{pow-le-pow_right}
use Rattle.std.proofs.lemmas.Bool.{le-leb, and_from, cond-true}
use Rattle.std.proofs.lemmas.Int.Digits.{digits_value-lt}
use Rattle.plcr_script.proofs.Digits.{numeral_read}
use Rattle.plcr_make.specs.declared.constants.TheConstants.{MOST_IMAGES}
use Rattle.plcr_maker.specs.declared.numerals.TheConstants.{COUNT_DIGITS}
use Rattle.plcr_maker.specs.Numerals.{if_makable, images_in}

-- three digits write less than a thousand
pub few_digits : (text : List ℕ) (i : ℕ) → AllDigits 10 (take i text) → i < length text → length text ≤ COUNT_DIGITS → digits_value 10 (take i text) < 1000
few_digits text i digits within few =
    let count : length (take i text) ≡ i = length-take-le i text (omega arith) in
    let power : 10 ^ length (take i text) ≤ 10 ^ 3 = pow-le-pow_right {n = 10} (omega arith) {i = length (take i text)} {j = 3} (omega (arith, count)) in
    omega (arith, digits_value-lt 10 (take i text) digits, power)

-- what digits write, as a number of images
pub count_read : (text : List ℕ) (number : Option ℕ) → 0 < length text → length text ≤ COUNT_DIGITS → SomeIff number (AllDigits 10 text) (digits_value 10 text) → option_and_then if_makable number ≡ images_in text
count_read text number some few is = ap (option_and_then if_makable) (numeral_read 10 COUNT_DIGITS text number some few is)

pub makable : (number : ℕ) → 1 ≤ number → number ≤ MOST_IMAGES → if_makable number ≡ Some number
makable number some few = cond-true _ _ _ (and_from _ _ (le-leb 1 number some) (le-leb number MOST_IMAGES few))
