-- One pass over the regions by rising starts.
use Rattle.std.proofs.Common.{◌≡◌, ◌≢◌, ◌≤◌, ◌<◌, ℕ, ◌+◌, ◌⊎◌, inl, inr, List, length, All, refl, sym, ap, subst, arith}
use Rattle.std.proofs.lemmas.Bool.{cases_lt, cases_order}
use Rattle.plcr_memory.specs.declared.region.Region.{Region}
use Rattle.plcr_memory.specs.declared.order.Placed.{Placed}
use Rattle.plcr_memory.specs.Regions.{region_at, Share, AreApartBelow}
use Rattle.plcr_memory.specs.inner.Order.{placed_at, IsOrder}
use Rattle.plcr_memory.proofs.Shares.{share_sym, share_at_start, starts_within}

-- the region at a place of the order
abbrev pub region_of : List Region → List Placed → ℕ → Region
region_of rs os p = region_at rs (placed_at os p).index

-- of the first i entries, those of the first n regions are apart and end by `free`, where one of them ends
pub record Passed (rs : List Region) (os : List Placed) (n i free : ℕ) : Type 0 where
  pub ends : (p : ℕ) → p < i → (placed_at os p).index < n → (region_of rs os p).start + (region_of rs os p).size ≤ free
  pub «from» : (free ≡ 0) ⊎ ((p : ℕ) × (p < i) × ((placed_at os p).index < n) × ((region_of rs os p).start + (region_of rs os p).size ≡ free))
  pub pairs : (p q : ℕ) → p < q → q < i → (placed_at os p).index < n → (placed_at os q).index < n → ¬ Share (region_of rs os p) (region_of rs os q)

pub passed_start : (rs : List Region) (os : List Placed) (n : ℕ) → Passed rs os n 0 0
passed_start rs os n = record { ends = λ p h. absurd (omega arith); «from» = inl refl; pairs = λ p q h k. absurd (omega arith) }

pub below_next : (p i : ℕ) → p < i + 1 → (p < i) ⊎ (p ≡ i)
below_next p i h = elim (cases_lt p i) [ inl k ↦ inl k | inr k ↦ inr (omega arith) ]

-- an entry of a later region is passed over
pub passed_over : (rs : List Region) (os : List Placed) (n i free : ℕ) → n ≤ (placed_at os i).index → Passed rs os n i free → Passed rs os n (i + 1) free
passed_over rs os n i free over h = record {
  ends = λ p k l. elim (below_next p i k) [ inl m ↦ h.ends p m l | inr m ↦ absurd (not_here p l m) ];
  «from» = elim h.«from» [ inl z ↦ inl z | inr w ↦ inr (w.0, omega (arith, w.1), w.2, w.3) ];
  pairs = λ p q k l m n'. elim (below_next q i l) [ inl b ↦ h.pairs p q k b m n' | inr b ↦ absurd (not_here q n' b) ];
}
  where
    not_here : (p : ℕ) → (placed_at os p).index < n → p ≡ i → ⊥
    not_here p l m = let P : ℕ → Type 0 = λ x. (placed_at os x).index < n in let at : P i = subst P m l in omega (arith, at)

-- the start of an entry is that of its region
pub start_is : (rs : List Region) (os : List Placed) → IsOrder rs os → (p : ℕ) → p < length os → (placed_at os p).start ≡ (region_of rs os p).start
start_is rs os o p h = (o.each p h).starts

-- an entry of one of the first n regions that begins past the others
pub passed_more : (rs : List Region) (os : List Placed) (n i free size : ℕ) → IsOrder rs os → i < length os → (placed_at os i).index < n → free ≤ (placed_at os i).start
    → size ≡ (region_of rs os i).size → Passed rs os n i free → Passed rs os n (i + 1) ((placed_at os i).start + size)
passed_more rs os n i free size o inside one above is_size h = record {
  ends = λ p k l. elim (below_next p i k) [
    | inl m ↦ let e = h.ends p m l in omega (arith, e, above)
    | inr m ↦
        let P : ℕ → Type 0 = λ x. (region_of rs os x).start + (region_of rs os x).size ≤ (placed_at os i).start + size in
        subst P (sym m) (omega (arith, start_is rs os o i inside, is_size))
  ];
  «from» = inr (i, omega arith, one, omega (arith, start_is rs os o i inside, is_size));
  pairs = λ p q k l m n'. elim (below_next q i l) [
    | inl b ↦ h.pairs p q k b m n'
    | inr b ↦
        let P : ℕ → Type 0 = λ x. Share (region_of rs os p) (region_of rs os x) → ⊥ in
        subst P (sym b) (λ shared.
        let e = h.ends p (omega (arith, k, b)) m in
        let w = starts_within (region_of rs os p) (region_of rs os i) shared in
        omega (arith, e, w, above, start_is rs os o i inside))
  ];
}

-- regions of two entries below n that share an address: the first n aren't apart
pub two_share : (rs : List Region) (n i j : ℕ) → i ≢ j → i < n → j < n → Share (region_at rs i) (region_at rs j) → AreApartBelow n rs → ⊥
two_share rs n i j ne il jl shared apart =
    elim (cases_order i j) [
      | inl e ↦ ne e
      | inr o ↦ elim o [
        | inl l ↦ apart i j l jl shared
        | inr l ↦ apart j i l il (share_sym (region_at rs i) (region_at rs j) shared)
      ]
    ]

-- an entry that begins before another one ends
pub clash : (rs : List Region) (os : List Placed) (n i free : ℕ) → All (λ r. 1 ≤ r.size) rs → IsOrder rs os → i < length os → (placed_at os i).index < n
    → (placed_at os i).start < free → Passed rs os n i free → ¬ AreApartBelow n rs
clash rs os n i free sized o inside one below h apart =
    elim h.«from» [
      | inl z ↦ absurd (omega (arith, z, below))
      | inr w ↦
          let p = w.0 in
          let before : p < i = w.1 in
          let end : (region_of rs os p).start + (region_of rs os p).size ≡ free = w.3 in
          let rise = o.rises p i (omega (arith, before)) inside in
          let sp = start_is rs os o p (omega (arith, before, inside)) in
          let si = start_is rs os o i inside in
          let big : 1 ≤ (region_of rs os i).size = sized (placed_at os i).index (record { start = 0; size = 0; «from» = 0; len = 0 }) (o.each i inside).inside in
          let shared = share_at_start (region_of rs os p) (region_of rs os i) (omega (arith, rise, sp, si)) (omega (arith, end, below, si)) big in
          two_share rs n (placed_at os p).index (placed_at os i).index (o.distinct p i (omega (arith, before)) (omega (arith, before, inside)) inside) w.2 one shared apart
    ]

-- all entries are passed
pub passed_end : (rs : List Region) (os : List Placed) (n i free : ℕ) → IsOrder rs os → n ≤ length rs → length os ≤ i → Passed rs os n i free → AreApartBelow n rs
passed_end rs os n past free o inside whole h i j lt jn shared =
    let a = o.whole i (omega (arith, lt, jn, inside)) in
    let b = o.whole j (omega (arith, jn, inside)) in
    let P : ℕ → ℕ → Type 0 = λ x y. Share (region_at rs x) (region_at rs y) in
    let there : Share (region_of rs os a.0) (region_of rs os b.0) = subst (λ (x : ℕ). P x (placed_at os b.0).index) (sym a.2) (subst (λ (y : ℕ). P i y) (sym b.2) shared) in
    let ai : (placed_at os a.0).index < n = omega (arith, a.2, lt, jn) in
    let bi : (placed_at os b.0).index < n = omega (arith, b.2, jn) in
    elim (cases_order a.0 b.0) [
      | inl e ↦ absurd (omega (arith, ap (λ p. (placed_at os p).index) e, a.2, b.2, lt))
      | inr o' ↦ elim o' [
        | inl l ↦ h.pairs a.0 b.0 l (omega (arith, b.1, whole)) ai bi there
        | inr l ↦ h.pairs b.0 a.0 l (omega (arith, a.1, whole)) bi ai (share_sym (region_of rs os a.0) (region_of rs os b.0) there)
      ]
    ]
