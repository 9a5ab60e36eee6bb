-- A name that has been looked through up to a place.
use Rattle.std.proofs.Common.{◌≡◌, ◌≤◌, ℕ, ◌+◌, ◌-◌, true, Some, None, is_some, refl, sym, ap, subst, ◌∙◌, arith}
use Rattle.std.specs.Prelude.{option_map}
use Rattle.plcr_memory.specs.Regions.{Contents, bytes_at}
use Rattle.plcr_symbols.specs.Symbols.{zero_within}
use Rattle.plcr_symbols.proofs.Zeros.{mapped_more, zero_behind, zero_early, zero_unmapped}

-- so many bytes are mapped, and none of them is zero
pub record Looked (m : Contents) (at most done : ℕ) : Type 0 where
  pub mapped : is_some (bytes_at m at done) ≡ true
  pub none : zero_within m done at ≡ None
  pub within : done ≤ most

pub looked_start : (m : Contents) (at most : ℕ) → Looked m at most 0
looked_start m at most = record { mapped = refl; none = refl; within = omega arith }

-- what is left
left_is : (m : Contents) (at most done : ℕ) → Looked m at most done → zero_within m most at ≡ option_map (λ z. done + z) (zero_within m (most - done) (at + done))
left_is m at most done h =
    let all : done + (most - done) ≡ most = omega (arith, h.within) in
    sym (ap (λ (x : ℕ). zero_within m x at) all) ∙ zero_behind m done (most - done) at h.mapped h.none

pub looked_more : (m : Contents) (at most done size : ℕ) → Looked m at most done → done + size ≤ most → is_some (bytes_at m (at + done) size) ≡ true → zero_within m size (at + done) ≡ None → Looked m at most (done + size)
looked_more m at most done size h le mapped none = record {
  mapped = mapped_more m done at size h.mapped mapped;
  none = zero_behind m done size at h.mapped h.none ∙ ap (option_map (λ (z : ℕ). done + z)) none;
  within = le;
}

pub looked_zero : (m : Contents) (at most done size place : ℕ) → Looked m at most done → done + size ≤ most → zero_within m size (at + done) ≡ Some place → Some (done + place) ≡ zero_within m most at
looked_zero m at most done size place h le is =
    sym (left_is m at most done h ∙ ap (option_map (λ (z : ℕ). done + z)) (zero_early m size (most - done) (at + done) place is (omega (arith, le))))

pub looked_unmapped : (m : Contents) (at most done : ℕ) → Looked m at most done → bytes_at m (at + done) 1 ≡ None → None ≡ zero_within m most at
looked_unmapped m at most done h none = sym (left_is m at most done h ∙ ap (option_map (λ (z : ℕ). done + z)) (zero_unmapped m (most - done) (at + done) none))

pub looked_end : (m : Contents) (at most done : ℕ) → Looked m at most done → most ≤ done → None ≡ zero_within m most at
looked_end m at most done h le =
    let same : done ≡ most = omega (arith, h.within, le) in
    sym (subst (λ (x : ℕ). zero_within m x at ≡ None) same h.none)
