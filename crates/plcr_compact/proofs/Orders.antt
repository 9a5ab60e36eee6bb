-- The numbers of permutations are those of the orders of so many of the six registers.
use Rattle.std.proofs.Common.{◌≡◌, ◌≤◌, ◌<◌, ℕ, zero, suc, ◌+◌, ◌-◌, ◌*◌, ◌/◌, ◌%◌, false, List, [], ◌∷◌, length, Option, Some, None, option_map, ◌⊎◌, inl, inr, refl, sym, ap, subst, ◌∙◌, arith}
use Rattle.std.specs.Prelude.{◌==◌, slice_get, remove}
use Rattle.std.specs.Option.{option_and_then}
use Rattle.std.proofs.lemmas.Bool.{cases_lt}
use Rattle.std.proofs.lemmas.List.Edits.{length-remove}
use Rattle.std.proofs.lemmas.Option.{slice_get_within}
use Rattle.std.proofs.lemmas.Bool.Decides.{nat_tests}
use Rattle.std.proofs.lemmas.Nat.{div-mul-add, mod-mul-add}
use Rattle.std.proofs.Math.Nat.{add-mul, div-add-mod, lt-div-mul-add, mod-lt, mul-le-mul_right, mul-pos, one-mul}
use Rattle.plcr_compact.specs.declared.encoding.SavedRegister.{SavedRegister}
use Rattle.plcr_compact.specs.declared.encoding.SavedRegister.TheVariants.{Rbx, R12, R13, R14, R15, Rbp}
use Rattle.plcr_compact.specs.Laws.{IsOrder, arrangements, order_by, orders_of}
use Rattle.plcr_compact.specs.Permutations.{all_registers, digits, followers, named, saved_registers}

-- no two members of a list are the same
Apart : List SavedRegister → Type 0
Apart rs = (i j : ℕ) (r : SavedRegister) → slice_get rs i ≡ Some r → slice_get rs j ≡ Some r → i ≡ j

-- each member of a list is one of another
Among : List SavedRegister → List SavedRegister → Type 0
Among left rs = (i : ℕ) (r : SavedRegister) → slice_get rs i ≡ Some r → (j : ℕ) × (slice_get left j ≡ Some r)

-- how many orders follow each member of an order of so many of a number of things
weights : ℕ → ℕ → List ℕ
weights all zero = []
weights all (suc count) = arrangements (all - 1) count ∷ weights (all - 1) count

-- a list without a member
removed_below : (xs : List SavedRegister) (d k : ℕ) → k < d → slice_get (remove xs d) k ≡ slice_get xs k
removed_below [] zero k h = absurd (omega arith)
removed_below [] (suc d) k h = refl
removed_below (x ∷ xs) zero k h = absurd (omega arith)
removed_below (x ∷ xs) (suc d) zero h = refl
removed_below (x ∷ xs) (suc d) (suc k) h = removed_below xs d k (omega arith)

removed_above : (xs : List SavedRegister) (d k : ℕ) → d ≤ k → slice_get (remove xs d) k ≡ slice_get xs (suc k)
removed_above [] zero k h = refl
removed_above [] (suc d) k h = refl
removed_above (x ∷ xs) zero k h = refl
removed_above (x ∷ xs) (suc d) zero h = absurd (omega arith)
removed_above (x ∷ xs) (suc d) (suc k) h = removed_above xs d k (omega arith)

-- where a member of the list without another stands in the list
was : (xs : List SavedRegister) (d k : ℕ) (r : SavedRegister) → slice_get (remove xs d) k ≡ Some r → (j : ℕ) × (slice_get xs j ≡ Some r) × ((k < d) × (j ≡ k) ⊎ (d ≤ k) × (j ≡ suc k))
was xs d k r h =
    elim (cases_lt k d) [
      | inl lt ↦ (k, sym (removed_below xs d k lt) ∙ h, inl (lt, refl))
      | inr le ↦ (suc k, sym (removed_above xs d k le) ∙ h, inr (le, refl))
    ]

-- and where a member of the list stands once another is removed
is_now : (xs : List SavedRegister) (d j : ℕ) (r : SavedRegister) → slice_get xs j ≡ Some r → (j ≡ d → ⊥) → (k : ℕ) × (slice_get (remove xs d) k ≡ Some r)
is_now xs d j r h other =
    elim (cases_lt j d) [
      | inl lt ↦ (j, removed_below xs d j lt ∙ h)
      | inr le ↦
          let next : suc (j - 1) ≡ j = omega (arith, le, other) in
          (j - 1, removed_above xs d (j - 1) (omega (arith, le, other)) ∙ ap (slice_get xs) next ∙ h)
    ]

apart_less : (xs : List SavedRegister) (d : ℕ) → Apart xs → Apart (remove xs d)
unfolding Apart
apart_less xs d apart i j r a b =
    let p = was xs d i r a in
    let q = was xs d j r b in
    let same = apart p.0 q.0 r p.1 q.1 in
    elim p.2 [
      | inl l ↦ elim q.2 [ inl m ↦ omega (arith, l, m, same) | inr m ↦ absurd (omega (arith, l, m, same)) ]
      | inr l ↦ elim q.2 [ inl m ↦ absurd (omega (arith, l, m, same)) | inr m ↦ omega (arith, l, m, same) ]
    ]

-- the first that is named, and those behind it
named_parts : (left : List SavedRegister) (d : ℕ) (ds : List ℕ) (rs : List SavedRegister) → named left (d ∷ ds) ≡ Some rs
    → (r : SavedRegister) × (rest : List SavedRegister) × (slice_get left d ≡ Some r) × (named (remove left d) ds ≡ Some rest) × (rs ≡ r ∷ rest)
named_parts left d ds rs h = by_first (slice_get left d) refl h
  where
    by_rest : (r : SavedRegister) (o : Option (List SavedRegister)) → slice_get left d ≡ Some r → named (remove left d) ds ≡ o → option_map (λ registers. r ∷ registers) o ≡ Some rs
        → (r : SavedRegister) × (rest : List SavedRegister) × (slice_get left d ≡ Some r) × (named (remove left d) ds ≡ Some rest) × (rs ≡ r ∷ rest)
    by_rest r None first is h = let e = h in cc
    by_rest r (Some rest) first is h = (r, rest, first, is, cc)

    by_first : (o : Option SavedRegister) → slice_get left d ≡ o → option_and_then (λ register. option_map (λ registers. register ∷ registers) (named (remove left d) ds)) o ≡ Some rs
        → (r : SavedRegister) × (rest : List SavedRegister) × (slice_get left d ≡ Some r) × (named (remove left d) ds ≡ Some rest) × (rs ≡ r ∷ rest)
    by_first None is h = let e = h in cc
    by_first (Some r) is h = by_rest r (named (remove left d) ds) is refl h

-- as many as there are digits
as_many : (left : List SavedRegister) (ds : List ℕ) (rs : List SavedRegister) → named left ds ≡ Some rs → length rs ≡ length ds
as_many left [] rs h =
    let none : [] ≡ rs = cc in
    sym (ap length none)
as_many left (d ∷ ds) rs h =
    let p = named_parts left d ds rs h in
    ap length p.4 ∙ ap (λ (n : ℕ). suc n) (as_many (remove left d) ds p.1 p.3)

-- those that are named are among those that were left, and no two are the same
named_among : (left : List SavedRegister) (ds : List ℕ) (rs : List SavedRegister) → named left ds ≡ Some rs → Among left rs
unfolding Among
named_among left [] rs h i r at =
    let none : [] ≡ rs = cc in
    let e : slice_get [] i ≡ Some r = subst (λ (xs : List SavedRegister). slice_get xs i ≡ Some r) (sym none) at in
    cc
named_among left (d ∷ ds) rs h i r at =
    let p = named_parts left d ds rs h in
    member p.0 p.1 p.2 (λ k. named_among (remove left d) ds p.1 p.3 k r) i (subst (λ (xs : List SavedRegister). slice_get xs i ≡ Some r) p.4 at)
  where
    member : (first : SavedRegister) (rest : List SavedRegister) → slice_get left d ≡ Some first
        → ((k : ℕ) → slice_get rest k ≡ Some r → (j : ℕ) × (slice_get (remove left d) j ≡ Some r))
        → (i : ℕ) → slice_get (first ∷ rest) i ≡ Some r → (j : ℕ) × (slice_get left j ≡ Some r)
    member first rest here others zero at = (d, here ∙ at)
    member first rest here others (suc i) at =
        let k = others i at in
        let j = was left d k.0 r k.1 in
        (j.0, j.1)

-- the removed one isn't among the others
not_first : (left : List SavedRegister) (d : ℕ) (ds : List ℕ) (r : SavedRegister) (rest : List SavedRegister) (i : ℕ) → Apart left → slice_get left d ≡ Some r → named (remove left d) ds ≡ Some rest → slice_get rest i ≡ Some r → ⊥
unfolding Apart Among
not_first left d ds r rest i apart first h at =
    let k = named_among (remove left d) ds rest h i r at in
    let j = was left d k.0 r k.1 in
    let same = apart j.0 d r j.1 first in
    elim j.2 [ inl l ↦ omega (arith, l, same) | inr l ↦ omega (arith, l, same) ]

named_apart : (left : List SavedRegister) (ds : List ℕ) (rs : List SavedRegister) → Apart left → named left ds ≡ Some rs → Apart rs
unfolding Apart
named_apart left [] rs apart h i j r a b =
    let none : [] ≡ rs = cc in
    let e : slice_get [] i ≡ Some r = subst (λ (xs : List SavedRegister). slice_get xs i ≡ Some r) (sym none) a in
    cc
named_apart left (d ∷ ds) rs apart h i j r a b =
    let p = named_parts left d ds rs h in
    members p.0 p.1 p.2 p.3 (λ k l. named_apart (remove left d) ds p.1 (apart_less left d apart) p.3 k l r) i j
    (subst (λ (xs : List SavedRegister). slice_get xs i ≡ Some r) p.4 a) (subst (λ (xs : List SavedRegister). slice_get xs j ≡ Some r) p.4 b)
  where
    members : (first : SavedRegister) (rest : List SavedRegister) → slice_get left d ≡ Some first → named (remove left d) ds ≡ Some rest
        → ((k l : ℕ) → slice_get rest k ≡ Some r → slice_get rest l ≡ Some r → k ≡ l)
        → (i j : ℕ) → slice_get (first ∷ rest) i ≡ Some r → slice_get (first ∷ rest) j ≡ Some r → i ≡ j
    members first rest here others same zero zero a b = refl
    members first rest here others same zero (suc j) a b = absurd (not_first left d ds r rest j apart (here ∙ a) others b)
    members first rest here others same (suc i) zero a b = absurd (not_first left d ds r rest i apart (here ∙ b) others a)
    members first rest here others same (suc i) (suc j) a b = ap (λ (n : ℕ). suc n) (same i j a b)

-- there is an order
some_order : (all count : ℕ) → count ≤ all → 0 < arrangements all count
some_order all zero h = omega arith
some_order all (suc count) h = mul-pos (omega arith) (some_order (all - 1) count (omega arith))

-- a number below a product, by its quotient
below_product : (n w all : ℕ) → n / w < all → 0 < w → n < all * w
below_product n w all lt some =
    let q = lt-div-mul-add {a = n} {b = w} some in
    let one : (n / w + 1) * w ≡ n / w * w + w = add-mul (n / w) 1 w ∙ ap (λ (x : ℕ). n / w * w + x) (one-mul w) in
    omega (arith, q, one, mul-le-mul_right {m = n / w + 1} {n = all} w (omega arith))

again : (n m w : ℕ) → n / w ≡ m / w → n % w ≡ m % w → n ≡ m
again n m w q r = sym (div-add-mod n w) ∙ ap (λ (x : ℕ). w * x + n % w) q ∙ ap (λ (x : ℕ). w * (m / w) + x) r ∙ div-add-mod m w

-- numbers that name the same registers are the same
same_number : (left : List SavedRegister) (all count one other : ℕ) (rs : List SavedRegister) → length left ≡ all → Apart left → count ≤ all
    → one < arrangements all count → other < arrangements all count
    → named left (digits (weights all count) one) ≡ Some rs → named left (digits (weights all count) other) ≡ Some rs → one ≡ other
unfolding weights Apart
same_number left all zero one other rs long apart few lt gt a b = omega arith
same_number left all (suc count) one other rs long apart few lt gt a b =
    let w = arrangements (all - 1) count in
    let some : 0 < w = some_order (all - 1) count (omega arith) in
    let p = named_parts left (one / w) (digits (weights (all - 1) count) (one % w)) rs a in
    let q = named_parts left (other / w) (digits (weights (all - 1) count) (other % w)) rs b in
    let lists : p.0 ∷ p.1 ≡ q.0 ∷ q.1 = sym p.4 ∙ q.4 in
    let first : p.0 ≡ q.0 = cc in
    let rest : p.1 ≡ q.1 = cc in
    let digit : one / w ≡ other / w = apart (one / w) (other / w) p.0 p.2 (q.2 ∙ ap Some (sym first)) in
    let within = slice_get_within left (one / w) p.0 p.2 in
    let shorter : length (remove left (one / w)) ≡ all - 1 = omega (arith, length-remove left (one / w) within) in
    let there : named (remove left (one / w)) (digits (weights (all - 1) count) (other % w)) ≡ Some p.1 =
    ap (λ (d : ℕ). named (remove left d) (digits (weights (all - 1) count) (other % w))) digit ∙ q.3 ∙ ap Some (sym rest) in
    let rests = same_number (remove left (one / w)) (all - 1) count (one % w) (other % w) p.1 shorter (apart_less left (one / w) apart) (omega arith) (mod-lt one some) (mod-lt other some) p.3 there in
    again one other w digit rests

-- the number whose first digit names a register, and whose rest names those behind it
named_by : (left : List SavedRegister) (d w n : ℕ) (ws : List ℕ) (r : SavedRegister) (rest : List SavedRegister) → slice_get left d ≡ Some r → named (remove left d) (digits ws n) ≡ Some rest → n < w
    → named left (digits (w ∷ ws) (d * w + n)) ≡ Some (r ∷ rest)
named_by left d w n ws r rest first others lt =
    ap (λ (q : ℕ). named left (q ∷ digits ws ((d * w + n) % w))) (div-mul-add d w n lt)
    ∙ ap (λ (m : ℕ). named left (d ∷ digits ws m)) (mod-mul-add d w n lt)
    ∙ ap (λ (o : Option SavedRegister). option_and_then (λ register. option_map (λ registers. register ∷ registers) (named (remove left d) (digits ws n))) o) first
    ∙ ap (option_map (λ registers. r ∷ registers)) others

-- each order has a number
each_number : (left : List SavedRegister) (all count : ℕ) (rs : List SavedRegister) → length left ≡ all → count ≤ all → length rs ≡ count → Apart rs → Among left rs
    → (n : ℕ) × (n < arrangements all count) × (named left (digits (weights all count) n) ≡ Some rs)
unfolding weights Apart Among
each_number left all zero [] long few size apart among = (0, omega arith, refl)
each_number left all zero (r ∷ rs) long few size apart among = absurd (omega arith)
each_number left all (suc count) [] long few size apart among = absurd (omega arith)
each_number left all (suc count) (r ∷ rs) long few size apart among =
    let w = arrangements (all - 1) count in
    let j = among 0 r refl in
    let d = j.0 in
    let within = slice_get_within left d r j.1 in
    let shorter : length (remove left d) ≡ all - 1 = omega (arith, length-remove left d within) in
    let n = each_number (remove left d) (all - 1) count rs shorter (omega arith) (omega arith) (λ i k q a b. omega (arith, apart (suc i) (suc k) q a b)) (λ i q at. later i q at) in
    let less : d * w + n.0 < all * w =
    let one : (d + 1) * w ≡ d * w + w = add-mul d 1 w ∙ ap (λ (x : ℕ). d * w + x) (one-mul w) in
    omega (arith, one, n.1, mul-le-mul_right {m = d + 1} {n = all} w (omega (arith, within))) in
    (d * w + n.0, less, named_by left d w n.0 (weights (all - 1) count) r rs j.1 n.2 n.1)
  where
    later : (i : ℕ) (q : SavedRegister) → slice_get rs i ≡ Some q → (k : ℕ) × (slice_get (remove left (among 0 r refl).0) k ≡ Some q)
    later i q at =
        let k = among (suc i) q at in
        is_now left (among 0 r refl).0 k.0 q k.1 (λ e.
        let same : slice_get left (among 0 r refl).0 ≡ Some q = ap (slice_get left) (sym e) ∙ k.1 in
        let clash : r ≡ q = cc (sym (among 0 r refl).1 ∙ same) in
        let twice : suc i ≡ 0 = apart (suc i) 0 q at (ap Some clash) in
        absurd (omega (arith, twice)))

-- the table has what follows each register
table_is : (count : ℕ) → count ≤ 6 → followers count ≡ Some (weights 6 count)
unfolding weights
table_is zero h = refl
table_is (suc zero) h = refl
table_is (suc (suc zero)) h = refl
table_is (suc (suc (suc zero))) h = refl
table_is (suc (suc (suc (suc zero)))) h = refl
table_is (suc (suc (suc (suc (suc zero))))) h = refl
table_is (suc (suc (suc (suc (suc (suc zero)))))) h = refl
table_is (suc (suc (suc (suc (suc (suc (suc count))))))) h = absurd (omega arith)

other_number : (a b : ℕ) → b < a → (a == b) ≡ false
other_number a b h = grind (arith, nat_tests)

table_ends : (count : ℕ) → 6 < count → followers count ≡ None
table_ends count h =
    rw (
      other_number count 0 (omega arith),
      other_number count 1 (omega arith),
      other_number count 2 (omega arith),
      other_number count 3 (omega arith),
      other_number count 4 (omega arith),
      other_number count 5 (omega arith),
      other_number count 6 (omega arith),
    ) refl

weights_many : (all count n : ℕ) → length (digits (weights all count) n) ≡ count
unfolding weights
weights_many all zero n = refl
weights_many all (suc count) n = ap (λ (k : ℕ). suc k) (weights_many (all - 1) count (n % arrangements (all - 1) count))

place_in : SavedRegister → ℕ
place_in Rbx = 0
place_in R12 = 1
place_in R13 = 2
place_in R14 = 3
place_in R15 = 4
place_in Rbp = 5

stands_at : (i : ℕ) (r : SavedRegister) → slice_get all_registers i ≡ Some r → i ≡ place_in r
unfolding place_in
stands_at zero r h = let same : Rbx ≡ r = cc in ap place_in same
stands_at (suc zero) r h = let same : R12 ≡ r = cc in ap place_in same
stands_at (suc (suc zero)) r h = let same : R13 ≡ r = cc in ap place_in same
stands_at (suc (suc (suc zero))) r h = let same : R14 ≡ r = cc in ap place_in same
stands_at (suc (suc (suc (suc zero)))) r h = let same : R15 ≡ r = cc in ap place_in same
stands_at (suc (suc (suc (suc (suc zero))))) r h = let same : Rbp ≡ r = cc in ap place_in same
stands_at (suc (suc (suc (suc (suc (suc i)))))) r h = let e = h in cc

all_apart : Apart all_registers
unfolding Apart
all_apart i j r a b = stands_at i r a ∙ sym (stands_at j r b)

all_among : (r : SavedRegister) → (j : ℕ) × (slice_get all_registers j ≡ Some r)
all_among Rbx = (0, refl)
all_among R12 = (1, refl)
all_among R13 = (2, refl)
all_among R14 = (3, refl)
all_among R15 = (4, refl)
all_among Rbp = (5, refl)

-- an order by its number
by_count : (count number : ℕ) (rs : List SavedRegister) → order_by count number ≡ Some rs → (count ≤ 6) × (named all_registers (digits (weights 6 count) number) ≡ Some rs)
unfolding saved_registers
by_count count number rs h =
    elim (cases_lt 6 count) [
      | inl gt ↦
          let e = sym (ap (option_and_then (λ orders. named all_registers (digits orders number))) (table_ends count gt)) ∙ h in
          cc
      | inr le ↦ (le, sym (ap (option_and_then (λ orders. named all_registers (digits orders number))) (table_is count le)) ∙ h)
    ]

from_count : (count number : ℕ) (rs : List SavedRegister) → count ≤ 6 → named all_registers (digits (weights 6 count) number) ≡ Some rs → order_by count number ≡ Some rs
unfolding saved_registers
from_count count number rs le h = ap (option_and_then (λ orders. named all_registers (digits orders number))) (table_is count le) ∙ h

pub order_found : (count number : ℕ) (rs : List SavedRegister) → order_by count number ≡ Some rs → IsOrder count rs
unfolding Apart
order_found count number rs h =
    let c = by_count count number rs h in
    record {
      size = as_many all_registers (digits (weights 6 count) number) rs c.1 ∙ weights_many 6 count number;
      apart = named_apart all_registers (digits (weights 6 count) number) rs all_apart c.1;
    }

below_first : (count number : ℕ) (rs : List SavedRegister) → suc count ≤ 6 → named all_registers (digits (weights 6 (suc count)) number) ≡ Some rs → number < orders_of (suc count)
unfolding weights
below_first count number rs few h =
    let w = arrangements 5 count in
    let p = named_parts all_registers (number / w) (digits (weights 5 count) (number % w)) rs h in
    below_product number w 6 (slice_get_within all_registers (number / w) p.0 p.2) (some_order 5 count (omega (arith, few)))

pub order_below : (count number : ℕ) (rs : List SavedRegister) → 0 < count → order_by count number ≡ Some rs → number < orders_of count
order_below zero number rs some h = absurd (omega arith)
order_below (suc count) number rs some h = let c = by_count (suc count) number rs h in below_first count number rs c.0 c.1

pub order_same : (count one other : ℕ) (rs : List SavedRegister) → one < orders_of count → other < orders_of count → order_by count one ≡ Some rs → order_by count other ≡ Some rs → one ≡ other
order_same count one other rs lt gt a b =
    let p = by_count count one rs a in
    let q = by_count count other rs b in
    same_number all_registers 6 count one other rs refl all_apart p.0 lt gt p.1 q.1

pub order_each : (count : ℕ) (rs : List SavedRegister) → count ≤ 6 → IsOrder count rs → (number : ℕ) × (number < orders_of count) × (order_by count number ≡ Some rs)
unfolding Apart Among
order_each count rs few o =
    let n = each_number all_registers 6 count rs refl few o.size o.apart (λ i r at. all_among r) in
    (n.0, n.1, from_count count n.0 rs few n.2)
