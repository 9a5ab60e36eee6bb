-- The varint that is written is the one shortest varint of its number.
use Rattle.std.proofs.Common.{◌≡◌, ℕ, zero, suc, ◌+◌, ◌*◌, ◌/◌, ◌%◌, ◌<◌, ◌≤◌, inl, inr, List, [], ◌∷◌, length, refl, sym, ap, ◌∙◌, arith}
use Rattle.std.proofs.lemmas.Bool.{cases_lt}
use Rattle.plcr_wire.specs.Varint.{varint, IsVarint}
use Rattle.plcr_wire.proofs.Varints.{varint_small, varint_large}

-- one more group in front
pub varint_front : (b n high : ℕ) (bs : List ℕ) → 128 ≤ b → b < 256 → n + 128 ≡ b + 128 * high → IsVarint bs high → IsVarint (b ∷ bs) n
varint_front b n high [] p q e h = absurd h
varint_front b n high (c ∷ bs) p q e h = (p, q, high, e, h)

is_within : (k n : ℕ) → n ≤ k → IsVarint (varint n) n
is_within zero n p = rw (varint_small n (omega arith)) (omega arith, refl)
is_within (suc k) n p = elim (cases_lt n 128) [
  | inl small ↦ rw (varint_small n small) (small, refl)
  | inr large ↦ rw (varint_large n large) (varint_front (n % 128 + 128) n (n / 128) (varint (n / 128)) (omega arith) (omega arith) (omega arith) (is_within k (n / 128) (omega arith)))
]

pub varint_is : (n : ℕ) → IsVarint (varint n) n
varint_is n = is_within n n (omega arith)

pub varint_least : (bytes : List ℕ) (n : ℕ) → IsVarint bytes n → length (varint n) ≤ length bytes
varint_least [] n h = absurd h
varint_least (b ∷ []) n h = let small : n < 128 = omega (arith, h.0, h.1) in rw (varint_small n small) (omega arith)
varint_least (b ∷ c ∷ bs) n h = elim (cases_lt n 128) [
  | inl small ↦ rw (varint_small n small) (omega arith)
  | inr large ↦
      let rest = varint_least (c ∷ bs) h.2 h.4 in
      let same : n / 128 ≡ h.2 = omega (arith, h.0, h.1, h.3) in
      rw (varint_large n large, same) (omega (arith, rest))
]

pub varint_only : (bytes : List ℕ) (n : ℕ) → IsVarint bytes n → length bytes ≤ length (varint n) → bytes ≡ varint n
varint_only [] n h short = absurd h
varint_only (b ∷ []) n h short = let small : n < 128 = omega (arith, h.0, h.1) in rw (varint_small n small) (ap (λ x. x ∷ []) (sym h.1))
varint_only (b ∷ c ∷ bs) n h short = elim (cases_lt n 128) [
  | inl small ↦ absurd (let one = ap length (varint_small n small) in omega (arith, short, one))
  | inr large ↦
      let same : n / 128 ≡ h.2 = omega (arith, h.0, h.1, h.3) in
      let first : b ≡ n % 128 + 128 = omega (arith, h.0, h.1, h.3) in
      let whole : varint n ≡ (n % 128 + 128) ∷ varint h.2 = varint_large n large ∙ ap (λ m. (n % 128 + 128) ∷ varint m) same in
      let rest = varint_only (c ∷ bs) h.2 h.4 (let len = ap length whole in omega (arith, short, len)) in
      rw (whole, ← first) (ap (λ l. b ∷ l) rest)
]
