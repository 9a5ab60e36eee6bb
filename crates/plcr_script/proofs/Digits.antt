-- Digits of a base, and the numbers that they write.
use Rattle.std.proofs.Common.{◌≡◌, ℕ, zero, suc, ◌+◌, ◌*◌, ◌^◌, ◌<◌, ◌≤◌, true, false, List, [], ◌∷◌, length, get_or, Option, Some, None, refl, sym, ◌∙◌, ap, arith}
use Rattle.std.specs.Option.{SomeIff}
use Rattle.std.specs.Char.{digit_value, is_digit}
use Rattle.std.specs.List.{list_all}
use Rattle.std.specs.Str.Parse.{AllDigits, digits_value}
use Rattle.std.proofs.Math.Nat.{mul-le-mul, pow-le-pow_right}
use Rattle.std.proofs.lemmas.Bool.{lt-ltb, ltb-true, le-leb, lt-leb, and_parts, and_from, and_left, and_right, false_from_ne_true, cond-true, cond-false}
use Rattle.plcr_script.specs.Numerals.{is_numeral, numeral_in}

-- each of the digits is below the base
pub digit_below : (base : ℕ) (text : List ℕ) (i : ℕ) → AllDigits base text → i < length text → digit_value (get_or text i 0) < base
digit_below base [] i h lt = absurd (omega arith)
digit_below base (c ∷ cs) zero h lt = h.0
digit_below base (c ∷ cs) (suc i) h lt = digit_below base cs i h.1 (omega arith)

-- one more digit of a base up to 16
pub one_more : (base value digit power : ℕ) → base ≤ 16 → digit < base → value < power → value * base + digit < power * 16
one_more base value digit power small below under =
    let product : (value + 1) * base ≤ power * 16 = mul-le-mul {n₁ = value + 1} {m₁ = base} {n₂ = power} {m₂ = 16} (omega arith) small in
    omega arith

test_passes : (base : ℕ) (text : List ℕ) → AllDigits base text → list_all (λ b. is_digit b base) text ≡ true
test_passes base [] h = refl
test_passes base (c ∷ cs) h = and_from _ _ (lt-ltb _ _ h.0) (test_passes base cs h.1)

test_means : (base : ℕ) (text : List ℕ) → list_all (λ b. is_digit b base) text ≡ true → AllDigits base text
test_means base [] h = tt
test_means base (c ∷ cs) h = let both = and_parts _ _ h in (ltb-true _ _ both.0, test_means base cs both.1)

-- the test of a numeral fails with that of its digits
no_numeral : (base most : ℕ) (text : List ℕ) → list_all (λ b. is_digit b base) text ≡ false → is_numeral base most text ≡ false
no_numeral base most text h = and_right _ _ (and_right _ _ h)

-- a text of few enough bytes writes the number of its digits
pub numeral_read : (base most : ℕ) (text : List ℕ) (r : Option ℕ) → 0 < length text → length text ≤ most → SomeIff r (AllDigits base text) (digits_value base text) → r ≡ numeral_in base most text
numeral_read base most text None some few h =
    sym (cond-false _ _ _ (no_numeral base most text (false_from_ne_true _ (λ passes. h (test_means base text passes)))))
numeral_read base most text (Some value) some few h =
    ap Some h.1 ∙ sym (cond-true _ _ _ (and_from _ _ (le-leb 1 (length text) (omega arith)) (and_from _ _ (le-leb _ _ few) (test_passes base text h.0))))

-- a text of no byte or of too many writes none
pub numeral_none : (base most : ℕ) (text : List ℕ) → length text ≡ 0 → numeral_in base most text ≡ None
numeral_none base most text empty = cond-false _ _ _ (and_left _ _ (lt-leb 1 (length text) (omega arith)))

pub numeral_long : (base most : ℕ) (text : List ℕ) → most < length text → numeral_in base most text ≡ None
numeral_long base most text long = cond-false _ _ _ (and_right _ _ (and_left _ _ (lt-leb _ _ long)))

-- the value of up to 20 digits, and one more power
pub value_small : (base value digit i : ℕ) → base ≤ 16 → digit < base → value < 16 ^ i → i < 20 → value * base + digit < 2 ^ 100
value_small base value digit i small below under few =
    let more = one_more base value digit (16 ^ i) small below under in
    let power : 16 ^ i ≤ 16 ^ 19 = pow-le-pow_right {n = 16} (omega arith) {i = i} {j = 19} (omega arith) in
    omega arith
