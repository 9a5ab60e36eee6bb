-- How long a varint is, by the logarithm of its number.
use Rattle.std.proofs.Common.{◌≡◌, ℕ, zero, suc, ◌+◌, ◌*◌, ◌/◌, ◌%◌, ◌^◌, ◌<◌, ◌≤◌, length, refl, arith}
use Rattle.std.proofs.lemmas.Nat.{pow-add, pow_pos}
use Rattle.plcr_wire.specs.Varint.{varint}
use Rattle.plcr_wire.proofs.Varints.{varint_small, varint_large}

-- one group of seven bits fewer
less : (k n : ℕ) → 2 ^ (7 + k) ≤ n → n < 2 * 2 ^ (7 + k) → (2 ^ k ≤ n / 128) × (n / 128 < 2 * 2 ^ k)
less k n low high =
    let e : 2 ^ (7 + k) ≡ 128 * 2 ^ k = pow-add 2 7 k in
    (omega (arith, e, low), omega (arith, e, high))

-- at least one whole group stands before the last
large : (k n : ℕ) → 2 ^ (7 + k) ≤ n → 128 ≤ n
large k n low =
    let e : 2 ^ (7 + k) ≡ 128 * 2 ^ k = pow-add 2 7 k in
    let some : 0 < 2 ^ k = pow_pos k in
    omega (arith, e, some, low)

-- a power of fewer than seven bits
few : (r n : ℕ) → r < 7 → n < 2 * 2 ^ r → n < 128
few zero n h high = omega arith
few (suc zero) n h high = omega arith
few (suc (suc zero)) n h high = omega arith
few (suc (suc (suc zero))) n h high = omega arith
few (suc (suc (suc (suc zero)))) n h high = omega arith
few (suc (suc (suc (suc (suc zero))))) n h high = omega arith
few (suc (suc (suc (suc (suc (suc zero)))))) n h high = omega arith
few (suc (suc (suc (suc (suc (suc (suc r))))))) n h high = absurd (omega arith)

grouped : (j r n : ℕ) → r < 7 → 2 ^ (7 * j + r) ≤ n → n < 2 * 2 ^ (7 * j + r) → length (varint n) ≡ j + 1
grouped zero r n h low high = let e : 7 * 0 + r ≡ r = omega arith in rw (varint_small n (few r n h (rw e at high))) refl
grouped (suc j) r n h low high =
    let e : 7 * suc j + r ≡ 7 + (7 * j + r) = omega arith in
    let low_more = rw e at low in
    let high_more = rw e at high in
    let fewer = less (7 * j + r) n low_more high_more in
    let rest = grouped j r (n / 128) h fewer.0 fewer.1 in
    rw (varint_large n (large (7 * j + r) n low_more)) (omega (arith, rest))

-- as many groups as whole sevens of bits, and one
pub varint_log : (n k : ℕ) → 2 ^ k ≤ n → n < 2 * 2 ^ k → length (varint n) ≡ k / 7 + 1
varint_log n k low high =
    let e : k ≡ 7 * (k / 7) + k % 7 = omega arith in
    grouped (k / 7) (k % 7) n (omega arith) (rw e at low) (rw e at high)
