-- The order of a list of regions, from a sort.
use Rattle.std.proofs.Common.{◌≡◌, ◌≢◌, ◌<◌, ℕ, ◌+◌, ◌==◌, cond, inl, inr, List, [], ◌∷◌, ◌++◌, length, refl, sym, ap, subst, ◌∙◌, arith}
use Rattle.std.specs.Prelude.{All, Contains}
use Rattle.std.specs.List.{swap}
use Rattle.std.specs.List.Sorted.{IsPermutation, IsNonDecreasingBy}
use Rattle.std.proofs.lemmas.Bool.{cases_eq, eq-eqb, ne_eqb}
use Rattle.std.proofs.lemmas.Bool.Decides.{nat_tests}
use Rattle.std.proofs.lemmas.List.{get_or_append_left, get_or_default, length-append}
use Rattle.std.proofs.Math.Seq.{get_or-append_seam}
use Rattle.std.proofs.lemmas.List.Edits.{Swapped, swapped_from_swap, length-swap}
use Rattle.std.proofs.lemmas.List.Elements.{All-from_get_or}
use Rattle.std.proofs.lemmas.List.Sorted.{IsPermutation-keeps, All-permutation, Contains-permutation}
use Rattle.plcr_memory.specs.declared.region.Region.{Region}
use Rattle.plcr_memory.specs.declared.order.Placed.{Placed}
use Rattle.plcr_memory.specs.Regions.{region_at}
use Rattle.plcr_memory.specs.inner.Order.{placed_at, IsPlaced, IsOrder}
use Rattle.plcr_memory.proofs.Passes.{below_next}

-- the entry of the region at an index
abbrev pub placed : List Region → ℕ → Placed
placed rs k = record { start = (region_at rs k).start; size = (region_at rs k).size; index = k }

-- the entries of the first n regions, in the order of the list
pub record Listed (rs : List Region) (os : List Placed) (n : ℕ) : Type 0 where
  pub count : length os ≡ n
  pub each : (k : ℕ) → k < n → placed_at os k ≡ placed rs k

pub listed_more : (rs : List Region) (os : List Placed) (n : ℕ) → Listed rs os n → Listed rs (os ++ placed rs n ∷ []) (n + 1)
listed_more rs os n h = record {
  count = simp length-append (omega (arith, h.count));
  each = λ k lt. elim (below_next k n lt) [
    | inl l ↦
        let inside : k < length os = omega (arith, h.count, l) in
        get_or_append_left os (placed rs n ∷ []) (record { start = 0; size = 0; index = 0 }) k inside ∙ h.each k l
    | inr e ↦
        let here : k ≡ length os = omega (arith, h.count, e) in
        let P : ℕ → Type 0 = λ x. placed_at (os ++ placed rs n ∷ []) x ≡ placed rs n in
        let last : P k = subst P (sym here) (get_or-append_seam os (placed rs n) [] (record { start = 0; size = 0; index = 0 })) in
        last ∙ ap (placed rs) (sym e)
  ];
}

-- where the entry at p comes from, when those at a and b change places
abbrev sent : ℕ → ℕ → ℕ → ℕ
sent a b p = cond (p == a) b (cond (p == b) a p)

sent_reads : {X : Type 0} (f g : ℕ → X) (a b p : ℕ) → Swapped f g a b → g p ≡ f (sent a b p)
sent_reads f g a b p h =
    elim (cases_eq p a) [
      | inl e ↦ rw (eq-eqb p a e) (ap g e ∙ h.0)
      | inr ne ↦ rw (ne_eqb p a ne) (elim (cases_eq p b) [
        | inl e ↦ rw (eq-eqb p b e) (ap g e ∙ h.1)
        | inr other ↦ rw (ne_eqb p b other) (h.2 p ne other)
      ])
    ]

sent_apart : (a b p q : ℕ) → sent a b p ≡ sent a b q → p ≡ q
sent_apart a b p q h = grind (arith, nat_tests)

sent_inside : (a b p n : ℕ) → a < n → b < n → p < n → sent a b p < n
sent_inside a b p n h k l = grind (arith, nat_tests)

-- no two entries are of one region
abbrev pub AreDistinct : List Placed → Type 0
AreDistinct os = (p q : ℕ) → p ≢ q → p < length os → q < length os → (placed_at os p).index ≢ (placed_at os q).index

distinct_swap : (os : List Placed) (a b : ℕ) → a < length os → b < length os → AreDistinct os → AreDistinct (swap os a b)
distinct_swap os a b al bl h p q ne pl ql same =
    let s = swapped_from_swap os (swap os a b) a b (record { start = 0; size = 0; index = 0 }) al bl refl in
    let rp : placed_at (swap os a b) p ≡ placed_at os (sent a b p) = sent_reads (placed_at os) (placed_at (swap os a b)) a b p s in
    let rq : placed_at (swap os a b) q ≡ placed_at os (sent a b q) = sent_reads (placed_at os) (placed_at (swap os a b)) a b q s in
    let len : length (swap os a b) ≡ length os = length-swap os a b in
    h (sent a b p) (sent a b q) (λ e. ne (sent_apart a b p q e))
    (sent_inside a b p (length os) al bl (omega (arith, pl, len))) (sent_inside a b q (length os) al bl (omega (arith, ql, len)))
    (ap (λ o. o.index) (sym rp) ∙ same ∙ ap (λ o. o.index) rq)

-- what a sort by the starts makes of the entries of all regions
pub order_from_sort : (rs : List Region) (xs ys : List Placed) → Listed rs xs (length rs) → IsPermutation xs ys → IsNonDecreasingBy (λ o. o.start) ys → IsOrder rs ys
order_from_sort rs xs ys h perm rises = record {
  rises = λ p q le inside. rises p q (record { start = 0; size = 0; index = 0 }) le inside;
  each = λ p inside. All-permutation (IsPlaced rs) xs ys perm all p (record { start = 0; size = 0; index = 0 }) inside;
  distinct = IsPermutation-keeps xs AreDistinct start (λ l i j il jl d. distinct_swap l i j il jl d) ys perm;
  whole = λ i inside.
      let there : Contains xs (placed rs i) = (i, rw h.count inside, get_or_default xs i (placed rs i) (record { start = 0; size = 0; index = 0 }) (rw h.count inside) ∙ h.each i inside) in
      let found = Contains-permutation xs ys (placed rs i) perm there in
      (found.0, found.1, ap (λ o. o.index) (get_or_default ys found.0 (record { start = 0; size = 0; index = 0 }) (placed rs i) found.1 ∙ found.2));
}
  where
    is_placed : (k : ℕ) → k < length xs → IsPlaced rs (placed_at xs k)
    is_placed k lt =
        let inside : k < length rs = omega (arith, h.count, lt) in
        let made : IsPlaced rs (placed rs k) = record { inside = inside; starts = refl; sizes = refl } in
        subst (IsPlaced rs) (sym (h.each k inside)) made

    all : All (IsPlaced rs) xs
    all = All-from_get_or (IsPlaced rs) xs (record { start = 0; size = 0; index = 0 }) is_placed

    start : AreDistinct xs
    start p q ne pl ql same =
        ne (sym (ap (λ o. o.index) (h.each p (omega (arith, h.count, pl)))) ∙ same ∙ ap (λ o. o.index) (h.each q (omega (arith, h.count, ql))))
