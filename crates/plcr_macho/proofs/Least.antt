-- The least position of those that have an address doesn't depend on their order.
use Rattle.std.proofs.Common.{◌≡◌, ◌≤◌, ◌<◌, ⊎_elim, ◌⊎◌, ℕ, suc, min, Bool, true, false, if◌then◌else◌, List, [], ◌∷◌, Option, Some, None, refl, ap, subst, arith}
use Rattle.std.specs.List.{All, Contains}
use Rattle.std.specs.List.Sorted.{IsPermutation}
use Rattle.std.proofs.lemmas.Bool.{cases_order}
use Rattle.std.proofs.lemmas.List.Sorted.{All-permutation, Contains-permutation}
use Rattle.std.proofs.lemmas.List.Elements.{All-contains, All-cons}
use Rattle.plcr_macho.specs.Index.{Extent, has_address, lesser, least_over}

-- an extent of the list at the position has the address
record IsOver (address : ℕ) (es : List Extent) (position : ℕ) : Type 0 where
  pub extent : Extent
  pub listed : Contains es extent
  pub has : has_address address extent ≡ true
  pub there : extent.position ≡ position

-- none of the list has the address, or one at the position has, and those that have it are at no less
abbrev IsLeast : ℕ → List Extent → Option ℕ → Type 0
IsLeast address es None = All (λ e. has_address address e ≡ false) es
IsLeast address es (Some position) = IsOver address es position × All (λ e. has_address address e ≡ true → position ≤ e.position) es

over_more : (address : ℕ) (e : Extent) (es : List Extent) (p : ℕ) → IsOver address es p → IsOver address (e ∷ es) p
over_more address e es p o = record { extent = o.extent; listed = (suc o.listed.0, omega (arith, o.listed.1), o.listed.2); has = o.has; there = o.there }

least_more : (address : ℕ) (e : Extent) (es : List Extent) (r : Option ℕ) → IsLeast address es r → (b : Bool) → has_address address e ≡ b → IsLeast address (e ∷ es) (if b then Some (lesser e.position r) else r)
least_more address e es None h false is = All-cons (λ x. has_address address x ≡ false) e es is h
least_more address e es (Some p) h false is = (over_more address e es p h.0, All-cons (λ x. has_address address x ≡ true → p ≤ x.position) e es (λ has. cc) h.1)
least_more address e es None h true is = (
  record { extent = e; listed = (0, omega arith, refl); has = is; there = refl },
  All-cons (λ x. has_address address x ≡ true → e.position ≤ x.position) e es (λ has. omega arith) (λ k d below has. let none = h k d below in cc),
)
least_more address e es (Some p) h true is =
    let all : All (λ x. has_address address x ≡ true → min e.position p ≤ x.position) (e ∷ es) =
    All-cons (λ x. has_address address x ≡ true → min e.position p ≤ x.position) e es (λ has. omega arith) (λ k d below has. let l = h.1 k d below has in omega arith) in
    let here : e.position ≤ p → IsOver address (e ∷ es) (min e.position p) = λ up. record { extent = e; listed = (0, omega arith, refl); has = is; there = omega (arith, up) } in (
      ⊎_elim
          (λ (same : e.position ≡ p). here (omega (arith, same)))
          (λ (apart : (e.position < p) ⊎ (p < e.position)). ⊎_elim
          (λ (up : e.position < p). here (omega (arith, up)))
          (λ (down : p < e.position). subst (IsOver address (e ∷ es)) (let same : p ≡ min e.position p = omega (arith, down) in same) (over_more address e es p h.0))
          apart)
          (cases_order e.position p),
      all,
    )

is_least : (address : ℕ) (es : List Extent) → IsLeast address es (least_over es address)
is_least address [] = λ k d below. absurd (omega arith)
is_least address (e ∷ es) = least_more address e es (least_over es address) (is_least address es) (has_address address e) refl

least_permuted : (address : ℕ) (xs ys : List Extent) (r : Option ℕ) → IsPermutation xs ys → IsLeast address xs r → IsLeast address ys r
least_permuted address xs ys None p h = All-permutation (λ e. has_address address e ≡ false) xs ys p h
least_permuted address xs ys (Some n) p h = (
  record { extent = h.0.extent; listed = Contains-permutation xs ys h.0.extent p h.0.listed; has = h.0.has; there = h.0.there },
  All-permutation (λ e. has_address address e ≡ true → n ≤ e.position) xs ys p h.1,
)

no_more : (address : ℕ) (es : List Extent) (p q : ℕ) → IsLeast address es (Some p) → IsLeast address es (Some q) → q ≤ p
no_more address es p q h k =
    let o = h.0 in
    let most = All-contains (λ (e : Extent). has_address address e ≡ true → q ≤ e.position) es o.extent k.1 o.listed o.has in
    omega (arith, most, o.there)

not_none : (address : ℕ) (es : List Extent) (p : ℕ) → IsLeast address es (Some p) → IsLeast address es None → ⊥
not_none address es p h k =
    let o = h.0 in
    let none = All-contains (λ (e : Extent). has_address address e ≡ false) es o.extent k o.listed in
    let has = o.has in cc

least_unique : (address : ℕ) (es : List Extent) (r s : Option ℕ) → IsLeast address es r → IsLeast address es s → r ≡ s
least_unique address es None None h k = refl
least_unique address es (Some p) None h k = absurd (not_none address es p h k)
least_unique address es None (Some q) h k = absurd (not_none address es q k h)
least_unique address es (Some p) (Some q) h k =
    let down = no_more address es p q h k in
    let up = no_more address es q p k h in
    let same : p ≡ q = omega arith in
    ap (λ (n : ℕ). let o : Option ℕ = Some n in o) same

pub least_again : (address : ℕ) (xs ys : List Extent) → IsPermutation xs ys → least_over xs address ≡ least_over ys address
least_again address xs ys p = least_unique address ys (least_over xs address) (least_over ys address) (least_permuted address xs ys (least_over xs address) p (is_least address xs)) (is_least address ys)
