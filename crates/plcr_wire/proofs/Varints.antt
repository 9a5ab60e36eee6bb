-- Laws of varints and tags.
use Rattle.std.proofs.Common.{◌≡◌, ℕ, zero, suc, ◌+◌, ◌/◌, ◌%◌, ◌^◌, ◌<◌, ◌≤◌, [], ◌∷◌, length, refl, ap, sym, ◌∙◌, arith, lit<, pow-suc, div-lt_iff_lt-mul, nat_lt, cond, true, false}
use Rattle.std.proofs.lemmas.Bool.Decides.{nat_tests}
use Rattle.plcr_wire.specs.Varint.{varint_within, varint}

-- a test of which number is less
pub below : (b n : ℕ) {A : Type 0} (x y : A) → b < n → cond (nat_lt b n) x y ≡ x
below b n x y h = grind (arith, nat_tests)

pub above : (b n : ℕ) {A : Type 0} (x y : A) → n ≤ b → cond (nat_lt b n) x y ≡ y
above b n x y h = grind (arith, nat_tests)

within_small : (k n : ℕ) → n < 128 → varint_within k n ≡ n ∷ []
within_small zero n h = refl
within_small (suc k) n h = grind (arith, nat_tests)

within_large : (k n : ℕ) → 128 ≤ n → varint_within (suc k) n ≡ (n % 128 + 128) ∷ varint_within k (n / 128)
within_large k n h = grind (arith, nat_tests)

-- any number of groups from n on is enough
varint_enough : (j k n : ℕ) → n ≤ j → n ≤ k → varint_within j n ≡ varint_within k n
varint_enough zero k n p q = sym (within_small k n (omega arith))
varint_enough (suc j) zero n p q = within_small (suc j) n (omega arith)
varint_enough (suc j) (suc k) n p q =
    ap (cond (nat_lt n 128) (n ∷ [])) (ap (λ v. (n % 128 + 128) ∷ v) (varint_enough j k (n / 128) (omega arith) (omega arith)))

pub varint_small : (n : ℕ) → n < 128 → varint n ≡ n ∷ []
unfolding varint
varint_small n h = within_small n n h

pub varint_large : (n : ℕ) → 128 ≤ n → varint n ≡ (n % 128 + 128) ∷ varint (n / 128)
unfolding varint
varint_large zero h = absurd (omega arith)
varint_large (suc n) h = within_large n (suc n) h ∙ ap (λ v. ((suc n) % 128 + 128) ∷ v) (varint_enough n ((suc n) / 128) ((suc n) / 128) (omega arith) (omega arith))

within_some : (k n : ℕ) → 0 < length (varint_within k n)
within_some zero n = omega arith
within_some (suc k) n = elim (nat_lt n 128) as (λ b. 0 < length (cond b (n ∷ []) ((n % 128 + 128) ∷ varint_within k (n / 128)))) [ true ↦ omega arith | false ↦ omega arith ]

-- a varint has a byte at least
pub varint_some : (n : ℕ) → 0 < length (varint n)
unfolding varint
varint_some n = within_some n n

-- and ten at most, where the number has 64 bits: k groups hold 7 k bits
within_short : (j k n : ℕ) → n < 128 ^ suc j → length (varint_within k n) ≤ suc j
within_short j zero n h = omega arith
within_short zero (suc k) n h = rw (within_small (suc k) n (omega arith)) (omega arith)
within_short (suc j) (suc k) n h = elim (nat_lt n 128) as (λ b. length (cond b (n ∷ []) ((n % 128 + 128) ∷ varint_within k (n / 128))) ≤ suc (suc j))
    [ true ↦ omega arith | false ↦ let less : length (varint_within k (n / 128)) ≤ suc j = within_short j k (n / 128) ((div-lt_iff_lt-mul (lit< tt)).1 (rw (← pow-suc 128 (suc j)) h)) in omega arith ]

pub varint_short : (n : ℕ) → n < 2 ^ 64 → length (varint n) ≤ 10
unfolding varint
varint_short n h = within_short 9 n n (omega arith)
