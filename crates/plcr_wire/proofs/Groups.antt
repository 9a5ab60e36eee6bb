-- How a varint is read group by group: what is read so far, and what is left.
use Rattle.std.proofs.Common.{◌≡◌, ℕ, zero, suc, ◌+◌, ◌-◌, ◌*◌, ◌^◌, ◌<◌, ◌≤◌, List, [], ◌∷◌, Result, Ok, Err, lit<, refl, sym, ap, ◌∙◌, pow-suc, add-one, arith}
use Rattle.std.proofs.Math.Nat.{pow-le-pow_right, mul-add, mul_assoc, mul_comm, mul-le-mul}
use Rattle.plcr_base.specs.Chains.{◌>>=◌}
use Rattle.plcr_wire.specs.Reading.{varint_at}
use Rattle.plcr_wire.specs.declared.fields.WireFault.{WireFault}
use Rattle.plcr_wire.specs.declared.fields.WireFault.TheVariants.{Truncated, BadVarint}
use Rattle.plcr_wire.proofs.Varints.{below, above}

-- a number that was read, as the groups above a value of this scale
abbrev pub plus : ℕ → ℕ → Result (ℕ × List ℕ) WireFault → Result (ℕ × List ℕ) WireFault
plus v s r = r >>= λ n. Ok (v + s * n.0, n.1)

-- nothing is read yet
pub plus_start : (r : Result (ℕ × List ℕ) WireFault) → plus 0 1 r ≡ r
plus_start (Ok n) = ap (λ m. Ok (m, n.1)) (omega arith)
plus_start (Err e) = refl

-- nothing is left to read
pub none_left : (v s end first k : ℕ) → plus v s (varint_at end first k []) ≡ Err (Truncated end)
none_left v s end first zero = refl
none_left v s end first (suc k) = refl

-- the last group
pub last_group : (v s end first k b : ℕ) (bs : List ℕ) → b < 128 → plus v s (varint_at end first (suc k) (b ∷ bs)) ≡ Ok (v + b * s, bs)
last_group v s end first k b bs h = ap (plus v s) (below b 128 _ _ h) ∙ ap (λ m. Ok (v + m, bs)) (mul_comm s b)

regroup : (v s b n : ℕ) → v + s * (b + 128 * n) ≡ v + b * s + s * 128 * n
regroup v s b n = rw (mul-add s b (128 * n), mul_comm b s, mul_assoc s 128 n) (omega arith)

joined : (v s b : ℕ) (r : Result (ℕ × List ℕ) WireFault) → plus v s (r >>= λ n. Ok (b + 128 * n.0, n.1)) ≡ plus (v + b * s) (s * 128) r
joined v s b (Ok n) = ap (λ m. Ok (m, n.1)) (regroup v s b n.0)
joined v s b (Err e) = refl

-- a group that others follow
pub next_group : (v s end first k b : ℕ) (bs : List ℕ) → 128 ≤ b → plus v s (varint_at end first (suc k) (b ∷ bs)) ≡ plus (v + (b - 128) * s) (s * 128) (varint_at end first k bs)
next_group v s end first k b bs h = ap (plus v s) (above b 128 _ _ h) ∙ joined v s (b - 128) (varint_at end first k bs)

-- the tenth group
pub tenth_group : (v s end first b : ℕ) (bs : List ℕ) → b < 2 → plus v s (varint_at end first zero (b ∷ bs)) ≡ Ok (v + b * s, bs)
tenth_group v s end first b bs h = ap (plus v s) (below b 2 _ _ h) ∙ ap (λ m. Ok (v + m, bs)) (mul_comm s b)

pub tenth_bad : (v s end first b : ℕ) (bs : List ℕ) → 2 ≤ b → plus v s (varint_at end first zero (b ∷ bs)) ≡ Err (BadVarint first)
tenth_bad v s end first b bs h = ap (plus v s) (above b 2 _ _ h)

-- one group more has 128 times the room
pub scale_more : (i : ℕ) → 128 ^ (i + 1) ≡ 128 ^ i * 128
scale_more i = rw (add-one, pow-suc 128 i) refl

-- nine groups have 63 bits
pub scale_fits : (s i : ℕ) → s ≡ 128 ^ i → i ≤ 9 → s ≤ 2 ^ 63
scale_fits s i e h = let most = pow-le-pow_right {n = 128} (lit< tt) {i = i} {j = 9} h in omega (arith, e, most)

-- a group beside those before it
pub group_room : (v s b : ℕ) → v < s → b < 128 → v + b * s < s * 128
group_room v s b small group =
    let most : b * s ≤ 127 * s = mul-le-mul {n₁ = b} {m₁ = s} {n₂ = 127} {m₂ = s} (omega arith) (omega arith) in omega (arith, most)

pub next_fits : (s i : ℕ) → s ≡ 128 ^ i → i < 9 → s * 128 ≤ 2 ^ 63
next_fits s i e h = scale_fits (s * 128) (i + 1) (ap (λ n. n * 128) e ∙ sym (scale_more i)) (omega arith)

pub group_fits : (v s b i : ℕ) → s ≡ 128 ^ i → i < 9 → v < s → b < 128 → v + b * s < 2 ^ 63
group_fits v s b i e h small group = let room = group_room v s b small group in let most = next_fits s i e h in omega (arith, room, most)

-- the tenth group has one bit
pub tenth_fits : (v s b i : ℕ) → s ≡ 128 ^ i → i ≤ 9 → v < s → b < 2 → v + b * s < 2 ^ 64
tenth_fits v s b i e h small group =
    let most : b * s ≤ 1 * s = mul-le-mul {n₁ = b} {m₁ = s} {n₂ = 1} {m₂ = s} (omega arith) (omega arith) in
    let room = scale_fits s i e h in omega (arith, most, room)
