-- The first zero of a name, piece by piece.
use Rattle.std.proofs.Common.{◌≡◌, ◌≢◌, ◌≤◌, ◌<◌, ℕ, zero, suc, ◌+◌, ◌^◌, Bool, true, false, nat_eq, Option, Some, None, is_some, List, [], slice_index, refl, sym, ap, subst, ◌∙◌, arith}
use Rattle.std.specs.Prelude.{◌==◌, if◌then◌else◌, option_map}
use Rattle.std.specs.Bool.{OnTrue}
use Rattle.std.specs.Option.{option_and_then}
use Rattle.std.proofs.lemmas.Bool.{false≢true}
use Rattle.std.proofs.lemmas.Bool.Decides.{nat_tests}
use Rattle.plcr_memory.specs.Regions.{Contents, byte_at, bytes_at, cons_known}
use Rattle.plcr_memory.proofs.Fronts.{cons_known_some}
use Rattle.plcr_symbols.specs.Symbols.{zero_within}

pub eq_is : (x y : ℕ) → x ≡ y → nat_eq x y ≡ true
eq_is x y h = grind (arith, nat_tests)

pub eq_from : (x y : ℕ) → nat_eq x y ≡ true → x ≡ y
eq_from x y h = grind (arith, nat_tests)

pub eq_not : (x y : ℕ) → x ≢ y → nat_eq x y ≡ false
eq_not x y h = grind (arith, nat_tests)

-- the first byte isn't zero
pub passed_by : (m : Contents) (n a b : ℕ) → byte_at m a ≡ Some b → b ≢ 0 → zero_within m (suc n) a ≡ option_map suc (zero_within m n (a + 1))
passed_by m n a b here ne =
    let no : nat_eq b 0 ≡ false = eq_not b 0 ne in
    rw (here, no) refl

-- the first zero among bytes that are mapped
pub zero_place : (m : Contents) (n a i : ℕ) (xs : List ℕ) → bytes_at m a n ≡ Some xs → i < n → slice_index xs i ≡ 0 → ((k : ℕ) → k < i → slice_index xs k ≢ 0) → zero_within m n a ≡ Some i
zero_place m zero a i xs h lt is before = absurd (omega (arith, lt))
zero_place m (suc n) a zero xs h lt is before =
    let p = cons_known_some (byte_at m a) (bytes_at m (a + 1) n) xs h in
    let null : p.0 ≡ 0 = ap (λ (ys : List ℕ). slice_index ys 0) (sym p.4) ∙ is in
    let here : byte_at m a ≡ Some 0 = p.2 ∙ ap (λ (x : ℕ). Some x) null in
    rw here refl
zero_place m (suc n) a (suc i) xs h lt is before =
    let p = cons_known_some (byte_at m a) (bytes_at m (a + 1) n) xs h in
    let ne : p.0 ≢ 0 = λ e. before 0 (omega arith) (ap (λ (ys : List ℕ). slice_index ys 0) p.4 ∙ e) in
    passed_by m n a p.0 p.2 ne
    ∙ ap (option_map suc) (zero_place m n (a + 1) i p.1 p.3 (omega (arith, lt)) (ap (λ (ys : List ℕ). slice_index ys (suc i)) (sym p.4) ∙ is)
    (λ k low e. before (suc k) (omega (arith, low)) (ap (λ (ys : List ℕ). slice_index ys (suc k)) p.4 ∙ e)))

-- no zero among bytes that are mapped
pub zero_nowhere : (m : Contents) (n a : ℕ) (xs : List ℕ) → bytes_at m a n ≡ Some xs → ((k : ℕ) → k < n → slice_index xs k ≢ 0) → zero_within m n a ≡ None
zero_nowhere m zero a xs h none = refl
zero_nowhere m (suc n) a xs h none =
    let p = cons_known_some (byte_at m a) (bytes_at m (a + 1) n) xs h in
    let ne : p.0 ≢ 0 = λ e. none 0 (omega arith) (ap (λ (ys : List ℕ). slice_index ys 0) p.4 ∙ e) in
    passed_by m n a p.0 p.2 ne
    ∙ ap (option_map suc) (zero_nowhere m n (a + 1) p.1 p.3 (λ k low e. none (suc k) (omega (arith, low)) (ap (λ (ys : List ℕ). slice_index ys (suc k)) p.4 ∙ e)))

none_is : {A : Type 0} → (o : Option A) → (is_some o ≡ true → ⊥) → o ≡ None
none_is None h = refl
none_is (Some x) h = absurd (h refl)

is_mapped : {A : Type 0} → (o : Option A) → is_some o ≡ true → (x : A) × (o ≡ Some x)
is_mapped None h = absurd (false≢true h)
is_mapped (Some x) h = (x, refl)

both_known : (o : Option ℕ) (r : Option (List ℕ)) → is_some o ≡ true → is_some r ≡ true → is_some (cons_known o r) ≡ true
both_known None r h k = h
both_known (Some b) None h k = k
both_known (Some b) (Some bs) h k = refl

first_known : (o : Option ℕ) (r : Option (List ℕ)) → is_some (cons_known o r) ≡ true → (is_some o ≡ true) × (is_some r ≡ true)
first_known None r h = absurd (false≢true h)
first_known (Some b) None h = absurd (false≢true h)
first_known (Some b) (Some bs) h = (refl, refl)

-- mapped bytes behind others
pub mapped_more : (m : Contents) (d a n : ℕ) → is_some (bytes_at m a d) ≡ true → is_some (bytes_at m (a + d) n) ≡ true → is_some (bytes_at m a (d + n)) ≡ true
mapped_more m zero a n h k =
    let here : a + 0 ≡ a = omega arith in
    let all : 0 + n ≡ n = omega arith in
    subst (λ (x : ℕ). is_some (bytes_at m a x) ≡ true) (sym all) (subst (λ (x : ℕ). is_some (bytes_at m x n) ≡ true) here k)
mapped_more m (suc d) a n h k =
    let p = first_known (byte_at m a) (bytes_at m (a + 1) d) h in
    let place : a + suc d ≡ (a + 1) + d = omega arith in
    let more : suc (d + n) ≡ suc d + n = omega arith in
    subst (λ (x : ℕ). is_some (bytes_at m a x) ≡ true) more
    (both_known (byte_at m a) (bytes_at m (a + 1) (d + n)) p.0 (mapped_more m d (a + 1) n p.1 (subst (λ (x : ℕ). is_some (bytes_at m x n) ≡ true) place k)))

-- a range isn't mapped whose first byte is the first that isn't
pub unmapped_behind : (m : Contents) (d a n : ℕ) → is_some (bytes_at m a d) ≡ true → is_some (bytes_at m a (d + 1)) ≡ false → 1 ≤ n → bytes_at m (a + d) n ≡ None
unmapped_behind m d a zero h beyond le = absurd (omega (arith, le))
unmapped_behind m d a (suc n) h beyond le =
    none_is (bytes_at m (a + d) (suc n))
    (λ k. let one : is_some (bytes_at m (a + d) 1) ≡ true = both_known (byte_at m (a + d)) (Some []) (first_known (byte_at m (a + d)) (bytes_at m ((a + d) + 1) n) k).0 refl in
    false≢true (sym beyond ∙ mapped_more m d a 1 h one))

-- no address of 64 bits is left
pub unmapped_past : (m : Contents) (a d e n : ℕ) (b : Bool) → b ≡ is_some (bytes_at m a (e + 1)) → OnTrue b (a + (e + 1) ≤ 2 ^ 64) → e ≡ d → (a + d < 2 ^ 64 → ⊥) → is_some (bytes_at m a d) ≡ true → 1 ≤ n → bytes_at m (a + d) n ≡ None
unmapped_past m a d e n true test within same past h le = absurd (past (omega (arith, within, same)))
unmapped_past m a d e n false test within same past h le =
    unmapped_behind m d a n h (ap (λ (x : ℕ). is_some (bytes_at m a (x + 1))) (sym same) ∙ sym test) le

-- a first byte that isn't mapped
no_byte : (o : Option ℕ) → cons_known o (Some []) ≡ None → o ≡ None
no_byte None h = refl
no_byte (Some b) h = cc

pub zero_unmapped : (m : Contents) (n a : ℕ) → bytes_at m a 1 ≡ None → zero_within m n a ≡ None
zero_unmapped m zero a h = refl
zero_unmapped m (suc n) a h =
    let none : byte_at m a ≡ None = no_byte (byte_at m a) h in
    rw none refl

-- a zero that is found among fewer bytes
pub zero_early : (m : Contents) (n t a p : ℕ) → zero_within m n a ≡ Some p → n ≤ t → zero_within m t a ≡ Some p
zero_early m zero t a p h le = cc
zero_early m (suc n) zero a p h le = absurd (omega (arith, le))
zero_early m (suc n) (suc t) a p h le = later (byte_at m a) (zero_within m n (a + 1)) (zero_within m t (a + 1)) p h (λ q e. zero_early m n t (a + 1) q e (omega (arith, le)))
  where
    test : (b : ℕ) (r s : Option ℕ) (p : ℕ) → ((q : ℕ) → r ≡ Some q → s ≡ Some q) → (if b == 0 then Some 0 else option_map suc r) ≡ Some p → (if b == 0 then Some 0 else option_map suc s) ≡ Some p
    test zero r s p more h = h
    test (suc b) None s p more h =
        let no : nat_eq (suc b) 0 ≡ false = eq_not (suc b) 0 (λ e. cc) in
        let none : ◌≡◌ {A = Option ℕ} None (Some p) = rw no at h in
        cc
    test (suc b) (Some q) s p more h =
        let no : nat_eq (suc b) 0 ≡ false = eq_not (suc b) 0 (λ e. cc) in
        let found : ◌≡◌ {A = Option ℕ} (Some (suc q)) (Some p) = rw no at h in
        rw no (ap (option_map suc) (more q refl) ∙ found)

    later : (o r s : Option ℕ) (p : ℕ) → option_and_then (λ b. if b == 0 then Some 0 else option_map suc r) o ≡ Some p → ((q : ℕ) → r ≡ Some q → s ≡ Some q) → option_and_then (λ b. if b == 0 then Some 0 else option_map suc s) o ≡ Some p
    later None r s p h more = cc
    later (Some b) r s p h more = test b r s p more h

-- the zero of what stands behind bytes without one
pub zero_behind : (m : Contents) (n more a : ℕ) → is_some (bytes_at m a n) ≡ true → zero_within m n a ≡ None → zero_within m (n + more) a ≡ option_map (λ z. n + z) (zero_within m more (a + n))
zero_behind m zero more a h none =
    let all : 0 + more ≡ more = omega arith in
    let here : a + 0 ≡ a = omega arith in
    ap (λ (x : ℕ). zero_within m x a) all ∙ sym (ap (λ (x : ℕ). option_map (λ z. 0 + z) (zero_within m more x)) here ∙ counted (zero_within m more a))
  where
    counted : (o : Option ℕ) → option_map (λ z. 0 + z) o ≡ o
    counted None = refl
    counted (Some z) = let e : 0 + z ≡ z = omega arith in ap (λ (x : ℕ). Some x) e
zero_behind m (suc n) more a h none =
    let p = first_known (byte_at m a) (bytes_at m (a + 1) n) h in
    let b = is_mapped (byte_at m a) p.0 in
    let test : (if b.0 == 0 then Some 0 else option_map suc (zero_within m n (a + 1))) ≡ None =
    sym (ap (option_and_then (λ (x : ℕ). if x == 0 then Some 0 else option_map suc (zero_within m n (a + 1)))) b.1) ∙ none in
    let q = no_zero b.0 (zero_within m n (a + 1)) test in
    let total : suc n + more ≡ suc (n + more) = omega arith in
    let place : (a + 1) + n ≡ a + suc n = omega arith in
    ap (λ (x : ℕ). zero_within m x a) total ∙ passed_by m (n + more) a b.0 b.1 q.0
    ∙ ap (option_map suc) (zero_behind m n more (a + 1) p.1 q.1)
    ∙ counted n (zero_within m more ((a + 1) + n))
    ∙ ap (λ (x : ℕ). option_map (λ z. suc n + z) (zero_within m more x)) place
  where
    no_zero : (b : ℕ) (r : Option ℕ) → (if b == 0 then Some 0 else option_map suc r) ≡ None → (b ≢ 0) × (r ≡ None)
    no_zero zero r h = cc
    no_zero (suc b) None h = (λ e. cc, refl)
    no_zero (suc b) (Some q) h =
        let no : nat_eq (suc b) 0 ≡ false = eq_not (suc b) 0 (λ e. cc) in
        let found : ◌≡◌ {A = Option ℕ} (Some (suc q)) None = rw no at h in
        absurd cc

    counted : (n : ℕ) (o : Option ℕ) → option_map suc (option_map (λ z. n + z) o) ≡ option_map (λ z. suc n + z) o
    counted n None = refl
    counted n (Some z) = let e : suc (n + z) ≡ suc n + z = omega arith in ap (λ (x : ℕ). Some x) e
