-- Texts that are cut at a byte, and the numbers in them.
use Rattle.std.proofs.Common.{◌≡◌, ℕ, zero, suc, ◌+◌, ◌/◌, ◌%◌, ◌^◌, ◌<◌, ◌≤◌, Bool, true, false, eqb, List, [], ◌∷◌, ◌++◌, Some, length, drop, refl, sym, ap, ◌∙◌, arith, length-append, div-lt_iff_lt-mul, pow-suc}
use Rattle.std.specs.Prelude.{All, position, decimal}
use Rattle.std.specs.List.{list_any, position_or_len}
use Rattle.std.specs.Char.{digit_value}
use Rattle.std.specs.Fmt.{digits, digits_onto, digit_glyph}
use Rattle.std.specs.Str.Parse.{AllDigits, digits_value}
use Rattle.std.proofs.Math.Seq.{take-append_seam}
use Rattle.std.proofs.lemmas.Bool.{lt-ltb, eq-eqb, eqb-true, or_parts}
use Rattle.std.proofs.lemmas.Fmt.{digits_is_IsNumeral, decimal_is_IsNumeral}
use Rattle.std.proofs.lemmas.List.Elements.{All-nil, All-cons}
use Rattle.std.proofs.lemmas.List.Splits.{slice_split_at, slice_split_none}
use Rattle.plcr_script.proofs.Cutting.{lines_cut}
use Rattle.plcr_script.proofs.Digits.{numeral_read}
use Rattle.plcr_script.specs.Splits.{lines, words, cut_in, first_word}
use Rattle.plcr_script.specs.Numerals.{numeral_in}

by_cases : {P : Type 0} (b : Bool) → (b ≡ true → P) → (b ≡ false → P) → P
by_cases true t f = t refl
by_cases false t f = f refl

-- no byte of a text is this one
abbrev pub IsFree : ℕ → List ℕ → Type 0
IsFree byte [] = Unit {0}
IsFree byte (b ∷ bs) = (eqb b byte ≡ false) × IsFree byte bs

pub free-append : (byte : ℕ) (xs ys : List ℕ) → IsFree byte xs → IsFree byte ys → IsFree byte (xs ++ ys)
free-append byte [] ys f g = g
free-append byte (x ∷ xs) ys f g = (f.0, free-append byte xs ys f.1 g)

-- so it is where a test computes so
pub free_by : (byte : ℕ) (xs : List ℕ) → list_any (λ b. eqb b byte) xs ≡ false → IsFree byte xs
free_by byte [] h = tt
free_by byte (x ∷ xs) h = let both = or_parts (eqb x byte) (list_any (λ b. eqb b byte) xs) h in (both.0, free_by byte xs both.1)

free_all : (byte : ℕ) (xs : List ℕ) → IsFree byte xs → All (λ b. eqb b byte ≡ false) xs
free_all byte [] f = All-nil (λ b. eqb b byte ≡ false)
free_all byte (x ∷ xs) f = All-cons (λ b. eqb b byte ≡ false) x xs f.0 (free_all byte xs f.1)

-- the first line of a text
pub line_first : (line rest : List ℕ) → IsFree 10 line → lines (line ++ 10 ∷ rest) ≡ line ∷ lines rest
line_first line rest f = lines_cut (λ b. eqb b 10) (line ++ 10 ∷ rest) line rest (slice_split_at (λ b. eqb b 10) line 10 rest (free_all 10 line f) refl)

-- the first byte of a kind
place_of : (byte : ℕ) (xs ys : List ℕ) → IsFree byte xs → position_or_len (λ b. eqb b byte) (xs ++ byte ∷ ys) ≡ length xs
place_of byte [] ys f = rw (eq-eqb byte byte refl) refl
place_of byte (x ∷ xs) ys f = rw f.0 (omega (arith, place_of byte xs ys f.1))

-- what stands behind it
drop_past : (xs : List ℕ) (y : ℕ) (ys : List ℕ) → drop (length xs + 1) (xs ++ y ∷ ys) ≡ ys
drop_past [] y ys = refl
drop_past (x ∷ xs) y ys = rw (more (length xs)) (drop_past xs y ys)
  where
    more : (n : ℕ) → suc n + 1 ≡ suc (n + 1)
    more n = omega arith

-- a text cut at the first byte of a kind
pub cut_first : (byte : ℕ) (xs ys : List ℕ) → IsFree byte xs → cut_in byte (xs ++ byte ∷ ys) ≡ record { front = xs; rest = Some ys }
cut_first byte xs ys f =
    let at : position (λ b. eqb b byte) (xs ++ byte ∷ ys) ≡ Some (length xs) = rw (place_of byte xs ys f, lt-ltb (length xs) (length (xs ++ byte ∷ ys)) (within xs)) refl in
    rw (at, take-append_seam xs (byte ∷ ys), drop_past xs byte ys) refl
  where
    within : (zs : List ℕ) → length zs < length (zs ++ byte ∷ ys)
    within zs = omega (arith, length-append zs (byte ∷ ys))

pub first_of : (xs ys : List ℕ) → IsFree 32 xs → first_word (xs ++ 32 ∷ ys) ≡ record { front = xs; rest = Some ys }
unfolding first_word
first_of xs ys f = cut_first 32 xs ys f

-- a text of one word
pub one_part : (xs : List ℕ) → IsFree 32 xs → words (Some xs) ≡ xs ∷ []
one_part xs f = slice_split_none (λ b. eqb b 32) xs (free_all 32 xs f)

-- digits are no other byte
digits_free : (base byte : ℕ) (xs : List ℕ) → AllDigits base xs → base ≤ digit_value byte → IsFree byte xs
digits_free base byte [] d other = tt
digits_free base byte (x ∷ xs) d other = (by_cases (eqb x byte) (λ t. absurd (omega (arith, rw (eqb-true x byte t) at d.0, other))) (λ e. e), digits_free base byte xs d.1 other)

-- a number has few digits
few_digits : (k m n : ℕ) (acc : List ℕ) → n < 16 ^ suc m → length (digits_onto k 16 false n acc) ≤ suc m + length acc
few_digits zero m n acc small = omega arith
few_digits (suc k) zero n acc small = by_cases (eqb (n / 16) 0)
    (λ last. rw last (omega arith))
    (λ more. absurd (none more))
  where
    none : eqb (n / 16) 0 ≡ false → ⊥
    none more = let zero_left : n / 16 ≡ 0 = omega (arith, small) in let clash : true ≡ false = sym (eq-eqb (n / 16) 0 zero_left) ∙ more in cc
few_digits (suc k) (suc m) n acc small = by_cases (eqb (n / 16) 0)
    (λ last. rw last (omega arith))
    (λ more. rw more (omega (arith, few_digits k m (n / 16) (digit_glyph false (n % 16) ∷ acc) less)))
  where
    less : n / 16 < 16 ^ suc m
    less = (div-lt_iff_lt-mul {k = 16} {x = n} {y = 16 ^ suc m} (omega arith)).1 (rw (← pow-suc 16 (suc m)) small)

wide : (n : ℕ) → n < 2 ^ 64 → n < 16 ^ 64
wide n small = omega (arith, small)

-- hexadecimal digits are read as the number, and are neither spaces nor newlines
pub hex_read : (n : ℕ) → n < 2 ^ 64 → numeral_in 16 16 (digits 16 false n) ≡ Some n
unfolding digits
hex_read n small =
    let d = digits_is_IsNumeral 16 false (omega arith) (omega arith) n (wide n small) in
    sym (numeral_read 16 16 (digits 16 false n) (Some (digits_value 16 (digits 16 false n))) d.0.0 (few_digits 64 15 n [] small) (d.0.1, refl)) ∙ ap Some d.1

pub hex_free : (byte n : ℕ) → n < 2 ^ 64 → 16 ≤ digit_value byte → IsFree byte (digits 16 false n)
hex_free byte n small other = digits_free 16 byte (digits 16 false n) (digits_is_IsNumeral 16 false (omega arith) (omega arith) n (wide n small)).0.1 other

pub decimal_free : (byte n : ℕ) → n < 2 ^ 64 → 10 ≤ digit_value byte → IsFree byte (decimal n)
decimal_free byte n small other = digits_free 10 byte (decimal n) (decimal_is_IsNumeral n small).0.1 other
