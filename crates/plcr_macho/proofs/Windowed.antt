-- The bytes at hand are those of the memory.
use Rattle.std.proofs.Common.{◌≡◌, ◌≤◌, ◌<◌, ℕ, ◌+◌, ◌-◌, ◌^◌, List, [], length, take, drop, Some, refl, ap, ◌∙◌, arith}
use Rattle.plcr_memory.specs.Regions.{Contents, bytes_at}
use Rattle.plcr_memory.proofs.Fronts.{bytes_count, bytes_within}
use Rattle.plcr_macho.specs.inner.Windows.{IsAtHand}

-- those that stand there, and none
pub stored_at_hand : (m : Contents) (start size : ℕ) (xs : List ℕ) → bytes_at m start size ≡ Some xs
    → start + size ≤ 2 ^ 64 → IsAtHand m start xs
stored_at_hand m start size xs is ends =
    let count : length xs ≡ size = bytes_count m start size xs is in
    record { there = ap (bytes_at m start) count ∙ is; ends = omega (arith, count, ends) }

pub none_at_hand : (m : Contents) (start : ℕ) → start < 2 ^ 64 → IsAtHand m start []
none_at_hand m start lt = record { there = refl; ends = omega (arith, lt) }

-- some of them
pub piece_at_hand : (m : Contents) (start : ℕ) (xs : List ℕ) (at place size : ℕ) → IsAtHand m start xs
    → at ≡ start + place → place + size ≤ length xs → bytes_at m at size ≡ Some (take (place + size - place) (drop place xs))
piece_at_hand m start xs at place size h is within =
    let count : size ≡ place + size - place = omega arith in
    ap (λ (a : ℕ). bytes_at m a size) is ∙ bytes_within m start size place (length xs) xs within h.there
    ∙ ap (λ (n : ℕ). Some (take n (drop place xs))) count
