-- A search by halves finds the region that covers an address.
use Rattle.std.proofs.Common.{◌≡◌, ◌≤◌, ◌<◌, ℕ, zero, suc, ◌+◌, ◌-◌, ◌^◌, ◌&&◌, inl, inr, Bool, true, false, IsTrue, nat_lt, nat_le, Option, Some, None, List, [], ◌∷◌, length, refl, sym, ap, subst, ◌∙◌, arith}
use Rattle.std.specs.Prelude.{All, IfSome, IfNone, option_map}
use Rattle.std.specs.List.Sorted.{IsNonDecreasingBy}
use Rattle.std.proofs.lemmas.Bool.{cases_lt, cases_eq, cases_Bool}
use Rattle.std.proofs.lemmas.Bool.Decides.{nat_tests}
use Rattle.std.proofs.lemmas.List.Sorted.{IsNonDecreasingBy-from_default}
use Rattle.plcr_memory.specs.declared.region.Region.{Region}
use Rattle.plcr_memory.specs.declared.order.Placed.{Placed}
use Rattle.plcr_memory.specs.Regions.{Contents, region_at, region_over, covers, byte_in, byte_among, byte_at, IsBacked, Ends, AreApart}
use Rattle.plcr_memory.specs.inner.Order.{placed_at, IsOrder, IsHolder}
use Rattle.plcr_memory.proofs.Shares.{covers_is, is_covered, share_at_start}
use Rattle.plcr_memory.proofs.Passes.{region_of, start_is, two_share}

-- regions apart stay so without the first
apart_tail : (r : Region) (rs : List Region) → AreApart (r ∷ rs) → AreApart rs
apart_tail r rs h i j lt jn = h (suc i) (suc j) (omega arith) (omega arith)

-- of regions apart, one that covers the address is the first that does
pub one_covers : (rs : List Region) (i a : ℕ) → AreApart rs → i < length rs → IsTrue (covers (region_at rs i) a) → region_over rs a ≡ Some (region_at rs i)
one_covers [] i a h inside there = absurd (omega (arith, inside))
one_covers (r ∷ rs) zero a h inside there = rw there refl
one_covers (r ∷ rs) (suc i) a h inside there =
    elim (cases_Bool (covers r a)) [
      | inl also ↦ absurd (h 0 (suc i) (omega arith) inside (record { address = a; one = also; other = there }))
      | inr only ↦ rw only (one_covers rs i a (apart_tail r rs h) (omega (arith, inside)) there)
    ]

-- where none covers the address, none is found
pub none_covers : (rs : List Region) (a : ℕ) → ((i : ℕ) → i < length rs → covers (region_at rs i) a ≡ false) → region_over rs a ≡ None
none_covers [] a h = refl
none_covers (r ∷ rs) a h = rw (h 0 (omega arith)) (none_covers rs a (λ i inside. h (suc i) (omega (arith, inside))))

-- the byte is that of the region that is found
pub byte_of_region : (file : List ℕ) (rs : List Region) (a : ℕ) → byte_among file rs a ≡ option_map (λ r. byte_in file r a) (region_over rs a)
byte_of_region file [] a = refl
byte_of_region file (r ∷ rs) a =
    elim (cases_Bool (covers r a)) [
      | inl here ↦ rw here refl
      | inr other ↦ rw other (byte_of_region file rs a)
    ]

not_covered : (r : Region) (a : ℕ) → a < r.start → covers r a ≡ false
not_covered r a h = apart_tests r.start r.size a h
  where
    apart_tests : (start size a : ℕ) → a < start → (nat_le start a && nat_lt a (start + size)) ≡ false
    apart_tests start size a h = grind (arith, nat_tests)

false_from_not : (b : Bool) → (b ≡ true → ⊥) → b ≡ false
false_from_not true h = absurd (h refl)
false_from_not false h = refl

-- the last region that starts by the address, where it covers the address
pub one_holds : (rs : List Region) (os : List Placed) (p a : ℕ) → AreApart rs → IsOrder rs os → p < length os → (region_of rs os p).start ≤ a → a - (region_of rs os p).start < (region_of rs os p).size
    → region_over rs a ≡ Some (region_of rs os p)
one_holds rs os p a apart o inside from near =
    one_covers rs (placed_at os p).index a apart (o.each p inside).inside (covers_is (region_of rs os p) a from (omega arith))

-- where the last region that starts by the address ends before it, no region covers it
pub none_holds : (rs : List Region) (os : List Placed) (n a : ℕ) → All (λ r. 1 ≤ r.size) rs → AreApart rs → IsOrder rs os → n ≤ length os
    → ((k : ℕ) → k < n → (placed_at os k).start ≤ a) → ((k : ℕ) → n ≤ k → k < length os → a < (placed_at os k).start)
    → (0 < n → (region_of rs os (n - 1)).size ≤ a - (region_of rs os (n - 1)).start)
    → region_over rs a ≡ None
none_holds rs os n a sized apart o inside before past ended = none_covers rs a none
  where
    at_place : (p : ℕ) → p < length os → covers (region_of rs os p) a ≡ false
    at_place p lt =
        elim (cases_lt p n) [
          | inr ge ↦ not_covered (region_of rs os p) a (omega (arith, past p ge lt, start_is rs os o p lt))
          | inl l ↦
              let m : ℕ = n - 1 in
              let ml : m < n = omega (arith, l) in
              let mi : m < length os = omega (arith, ml, inside) in
              let far = ended (omega (arith, l)) in
              let by = before m ml in
              let sm = start_is rs os o m mi in
              elim (cases_eq p m) [
                | inl e ↦ false_from_not (covers (region_of rs os p) a) (λ t.
                    let c = is_covered (region_of rs os p) a t in
                    let P : ℕ → Type 0 = λ x. (region_of rs os x).size ≤ a - (region_of rs os x).start in
                    let farp = subst P (sym e) far in
                    absurd (omega (arith, c, farp)))
                | inr ne ↦ false_from_not (covers (region_of rs os p) a) (λ t.
                    let c = is_covered (region_of rs os p) a t in
                    let rise = o.rises p m (omega (arith, l, ne)) mi in
                    let sp = start_is rs os o p lt in
                    let big : 1 ≤ (region_of rs os m).size = sized (placed_at os m).index (record { start = 0; size = 0; «from» = 0; len = 0 }) (o.each m mi).inside in
                    let shared = share_at_start (region_of rs os p) (region_of rs os m) (omega (arith, rise, sp, sm)) (omega (arith, c, by, sm)) big in
                    two_share rs (length rs) (placed_at os p).index (placed_at os m).index (o.distinct p m ne lt mi) (o.each p lt).inside (o.each m mi).inside shared apart)
              ]
        ]

    none : (i : ℕ) → i < length rs → covers (region_at rs i) a ≡ false
    none i lt =
        let w = o.whole i lt in
        let P : ℕ → Type 0 = λ x. covers (region_at rs x) a ≡ false in
        subst P w.2 (at_place w.0 w.1)

-- an order rises by its starts
pub order_rises : (rs : List Region) (os : List Placed) → IsOrder rs os → IsNonDecreasingBy (λ o. o.start) os
order_rises rs os o = IsNonDecreasingBy-from_default (λ o. o.start) os (record { start = 0; size = 0; index = 0 }) o.rises

-- what is found is one of the regions, and covers the address
pub found_index : (rs : List Region) (a : ℕ) (r : Region) → region_over rs a ≡ Some r → (i : ℕ) × (i < length rs) × (region_at rs i ≡ r) × IsTrue (covers r a)
found_index [] a r h = cc
found_index (s ∷ rs) a r h =
    elim (cases_Bool (covers s a)) [
      | inl here ↦
          let found : Some s ≡ Some r = rw here at h in
          let same : s ≡ r = cc in
          (0, omega arith, same, subst (λ (x : Region). IsTrue (covers x a)) same here)
      | inr other ↦
          let rest = found_index rs a r (rw other at h) in
          (suc rest.0, omega (arith, rest.1), rest.2, rest.3)
    ]

-- a region that is found has the byte of each address that it covers
pub found_holds : (m : Contents) (a : ℕ) (r : Region) → All (IsBacked m.file) m.regions → All Ends m.regions → AreApart m.regions → region_over m.regions a ≡ Some r → IsHolder m a r
found_holds m a r backed ends apart h =
    let f = found_index m.regions a r h in
    let none : Region = record { start = 0; size = 0; «from» = 0; len = 0 } in
    record {
      first = h;
      covered = f.3;
      backed = subst (IsBacked m.file) f.2 (backed f.0 none f.1);
      ends = subst Ends f.2 (ends f.0 none f.1);
      each = λ b covered.
          let there : IsTrue (covers (region_at m.regions f.0) b) = subst (λ (x : Region). IsTrue (covers x b)) (sym f.2) covered in
          byte_of_region m.file m.regions b ∙ ap (option_map (λ x. byte_in m.file x b)) (one_covers m.regions f.0 b apart f.1 there) ∙ ap (λ x. Some (byte_in m.file x b)) f.2;
    }

-- where no region is found there is no byte
pub none_found : (m : Contents) (a : ℕ) → region_over m.regions a ≡ None → byte_at m a ≡ None
none_found m a h = byte_of_region m.file m.regions a ∙ ap (option_map (λ x. byte_in m.file x a)) h

-- where there is no byte no region is found
pub no_byte : (m : Contents) (a : ℕ) → byte_at m a ≡ None → region_over m.regions a ≡ None
no_byte m a h = no_value (λ r. byte_in m.file r a) (region_over m.regions a) (sym (byte_of_region m.file m.regions a) ∙ h)
  where
    no_value : (f : Region → ℕ) (o : Option Region) → option_map f o ≡ None → o ≡ None
    no_value f None e = refl
    no_value f (Some r) e = cc

-- there is none past the last address
pub none_past : (m : Contents) (a : ℕ) → All Ends m.regions → 2 ^ 64 ≤ a → byte_at m a ≡ None
none_past m a ends past = none_found m a (none_covers m.regions a (λ i inside.
    false_from_not (covers (region_at m.regions i) a) (λ t.
    let c = is_covered (region_at m.regions i) a t in
    let e : Ends (region_at m.regions i) = ends i (record { start = 0; size = 0; «from» = 0; len = 0 }) inside in
    absurd (omega (arith, c, e, past)))))

-- what a search answers, where it found a region and where it found none
pub answer_found : (m : Contents) (a : ℕ) (o : Option Region) → All (IsBacked m.file) m.regions → All Ends m.regions → AreApart m.regions → o ≡ region_over m.regions a → IfSome o (IsHolder m a)
answer_found m a None backed ends apart h = tt
answer_found m a (Some r) backed ends apart h = found_holds m a r backed ends apart (sym h)

pub answer_none : (m : Contents) (a : ℕ) (o : Option Region) → o ≡ region_over m.regions a → IfNone o (byte_at m a ≡ None)
answer_none m a None h = none_found m a (sym h)
answer_none m a (Some r) h = tt
