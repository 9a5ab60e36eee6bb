-- The spots that were given their reach so far.
use Rattle.std.proofs.Common.{◌≡◌, ◌≤◌, ◌<◌, ⊎_elim, ℕ, ◌+◌, List, length, get_or, slice_set, sym, ap, ◌∙◌, subst, arith}
use Rattle.std.proofs.Math.ListN.{get_or-map}
use Rattle.std.proofs.Math.Seq.{map-set_same}
use Rattle.std.proofs.lemmas.Bool.{cases_eq}
use Rattle.std.proofs.lemmas.List.{get_or-set_same, get_or-set_other}
use Rattle.plcr_macho.specs.declared.spot.Spot.{Spot}
use Rattle.std.proofs.lemmas.List.{length-map}
use Rattle.std.specs.List.Sorted.{IsNonDecreasingBy}
use Rattle.plcr_macho.specs.Index.{Extent}
use Rattle.plcr_macho.specs.Spots.{end_of, extent_of, extents_of}

-- the first spots have their reach, and the last address that they reach is no less than the end of any of them
pub record ReachesUpTo (spots : List Spot) (i reach : ℕ) : Type 0 where
  pub each : (k j : ℕ) (d e : Spot) → k ≤ j → j < i → end_of (get_or spots k d) ≤ (get_or spots j e).reach
  pub all : (k : ℕ) (d : Spot) → k < i → end_of (get_or spots k d) ≤ reach

ends_same : (spots : List Spot) (i : ℕ) (y d : Spot) → end_of y ≡ end_of (get_or spots i d) → (k : ℕ) (e : Spot) → end_of (get_or (slice_set spots i y) k e) ≡ end_of (get_or spots k e)
ends_same spots i y d same k e =
    sym (get_or-map end_of (slice_set spots i y) k e) ∙ ap (λ (ns : List ℕ). get_or ns k (end_of e)) (map-set_same end_of spots i y d same) ∙ get_or-map end_of spots k e

-- one spot more, which has its reach now
pub reached_more : (spots : List Spot) (i reach : ℕ) (y d : Spot) → ReachesUpTo spots i reach → i < length spots → end_of y ≡ end_of (get_or spots i d) → end_of y ≤ y.reach → reach ≤ y.reach
    → ReachesUpTo (slice_set spots i y) (i + 1) y.reach
reached_more spots i reach y d r inside same own more =
    let new : List Spot = slice_set spots i y in
    let here : (e : Spot) → get_or new i e ≡ y = λ e. get_or-set_same spots i y e inside in
    let ends = ends_same spots i y d same in
    let all : (k : ℕ) (e : Spot) → k < i + 1 → end_of (get_or new k e) ≤ y.reach =
    λ k e below. ⊎_elim
    (λ (is : k ≡ i). subst (λ (s : Spot). end_of s ≤ y.reach) (sym (ap (λ (n : ℕ). get_or new n e) is ∙ here e)) own)
    (λ (not : k ≡ i → ⊥). let before = r.all k e (omega arith) in let moved = ends k e in omega arith)
    (cases_eq k i) in
    record {
      each = λ k j f e up below. ⊎_elim
          (λ (is : j ≡ i). let most = all k f (omega arith) in subst (λ (s : Spot). end_of (get_or new k f) ≤ s.reach) (sym (ap (λ (n : ℕ). get_or new n e) is ∙ here e)) most)
          (λ (not : j ≡ i → ⊥).
          let before = r.each k j f e up (omega arith) in
          let moved = ends k f in
          let kept = ap (λ (s : Spot). s.reach) (get_or-set_other spots i j y e not) in
          omega arith)
          (cases_eq j i);
      all = all;
    }

-- the order of the starts is that of the extents
pub rises_again : (old new : List Spot) → extents_of new ≡ extents_of old → IsNonDecreasingBy (λ (s : Spot). s.start) old → IsNonDecreasingBy (λ (s : Spot). s.start) new
rises_again old new same rises i j d up below =
    let size : length new ≡ length old = sym (length-map new extent_of) ∙ ap (λ (es : List Extent). length es) same ∙ length-map old extent_of in
    let at : (k : ℕ) → (get_or new k d).start ≡ (get_or old k d).start =
    λ k. ap (λ (e : Extent). e.header) (sym (get_or-map extent_of new k d) ∙ ap (λ (es : List Extent). get_or es k (extent_of d)) same ∙ get_or-map extent_of old k d) in
    let before = rises i j d up (omega (arith, below, size)) in
    let low = at i in
    let high = at j in
    omega arith
