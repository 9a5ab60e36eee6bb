-- How often a number stands in a list.
use Rattle.std.proofs.Common.{◌≡◌, ◌≢◌, ℕ, zero, suc, ◌+◌, ◌-◌, ◌<◌, ◌≤◌, List, [], ◌∷◌, ◌++◌, length, get_or, Bool, true, false, eqb, refl, ap, ◌∙◌, subst, arith, Option, Some, ne_eqb, ltb, option_to_list}
use Rattle.std.proofs.lemmas.Bool.{ltb-true, ltb-false, lt-ltb, le-ltb, eqb-true, eqb-false}
use Rattle.plcr_machine.proofs.Cases.{by_cases, eqb_same, not_both}
use Rattle.plcr_imagelist.specs.inner.Keeping.{times, is_node, once_where, last_of}

pub times-append : (n : ℕ) (xs ys : List ℕ) → times n (xs ++ ys) ≡ times n xs + times n ys
times-append n [] ys = omega arith
times-append n (x ∷ xs) ys = omega (arith, times-append n xs ys)

pub times-snoc : (n x : ℕ) (xs : List ℕ) → times n (xs ++ x ∷ []) ≡ times n xs + once_where (eqb x n)
times-snoc n x xs = omega (arith, times-append n xs (x ∷ []))

pub times_at : (xs : List ℕ) (i : ℕ) → i < length xs → 0 < times (get_or xs i 0) xs
times_at [] i below = absurd (omega arith)
times_at (x ∷ xs) zero below = rw (eqb_same x) (omega arith)
times_at (x ∷ xs) (suc i) below = omega (arith, times_at xs i (omega arith))

pub times_empty : (n : ℕ) (xs : List ℕ) → length xs ≡ 0 → times n xs ≡ 0
times_empty n [] none = refl
times_empty n (x ∷ xs) none = absurd (omega arith)

pub once_true : (b : Bool) → 0 < once_where b → b ≡ true
once_true true h = refl
once_true false h = absurd (omega arith)

pub once_false : (b : Bool) → once_where b ≡ 0 → b ≡ false
once_false true h = absurd (omega arith)
once_false false h = refl

pub is_node_bound : (nodes n : ℕ) → is_node nodes n ≡ true → (0 < n) × (n ≤ nodes)
is_node_bound nodes zero h = not_both false h refl
is_node_bound nodes (suc n) h = let below = ltb-true n nodes h in (omega arith, omega arith)

pub is_node_at : (nodes n : ℕ) → 0 < n → n ≤ nodes → is_node nodes n ≡ true
is_node_at nodes zero some most = absurd (omega arith)
is_node_at nodes (suc n) some most = lt-ltb n nodes (omega arith)

-- where the last number of a list is 0, and 0 doesn't stand in it, it is empty
pub last_none : (xs : List ℕ) → times 0 xs ≡ 0 → last_of xs ≡ 0 → length xs ≡ 0
last_none [] t l = refl
last_none (x ∷ xs) t l =
    let some = times_at (x ∷ xs) (length (x ∷ xs) - 1) (omega arith) in
    let none = subst (λ n. 0 < times n (x ∷ xs)) l some in absurd (omega (arith, t, none))

pub last_some : (xs : List ℕ) → last_of xs ≢ 0 → 0 < times (last_of xs) xs
last_some [] l = absurd (l refl)
last_some (x ∷ xs) l = times_at (x ∷ xs) (length (x ∷ xs) - 1) (omega arith)

-- one node more
pub times_more : (n k : ℕ) (xs : List ℕ) → times n xs ≡ once_where (is_node k n) → times n (xs ++ (k + 1) ∷ []) ≡ once_where (is_node (k + 1) n)
times_more zero k xs h = times-snoc 0 (k + 1) xs ∙ (let other : eqb (k + 1) 0 ≡ false = ne_eqb (k + 1) 0 (λ e. omega (arith, e)) in rw other (omega arith))
times_more (suc n) k xs h =
    let more = times-snoc (suc n) (k + 1) xs in
    by_cases (ltb n k)
    (λ t. let below = ltb-true n k t in let t' : ltb n (k + 1) ≡ true = lt-ltb n (k + 1) (omega arith) in
    let other : eqb (k + 1) (suc n) ≡ false = ne_eqb (k + 1) (suc n) (λ e. omega (arith, e)) in
    let one : times (suc n) xs ≡ 1 = rw t at h in
    more ∙ rw (t', other) (omega arith))
    (λ t. let above = ltb-false n k t in
    let none : times (suc n) xs ≡ 0 = rw t at h in
    more ∙ by_cases (eqb (k + 1) (suc n))
    (λ e. let same = eqb-true (k + 1) (suc n) e in let t' : ltb n (k + 1) ≡ true = lt-ltb n (k + 1) (omega arith) in rw (t', e) (omega arith))
    (λ e. let apart = eqb-false (k + 1) (suc n) e in let t' : ltb n (k + 1) ≡ false = le-ltb n (k + 1) (omega arith) in rw (t', e) (omega arith)))

-- the last of a list that was taken off
pub popped : (xs front : List ℕ) (r : Option ℕ) (len : ℕ) → len ≡ length xs → xs ≡ front ++ option_to_list r → ((d : ℕ) → 0 < len → r ≡ Some (get_or xs (len - 1) d)) → last_of xs ≢ 0
    → xs ≡ front ++ last_of xs ∷ []
popped [] front r len l items value some = absurd (some refl)
popped (x ∷ xs) front r len l items value some =
    let is = value 0 (omega arith) in
    items ∙ ap (λ o. front ++ option_to_list o) is ∙ ap (λ k. front ++ get_or (x ∷ xs) (k - 1) 0 ∷ []) l
