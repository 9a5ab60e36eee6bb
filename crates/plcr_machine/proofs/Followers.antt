-- Which place follows which in a list, and how a load and an unload change it. The places of a list are one that
-- stands before it and the nodes of its images.
use Rattle.std.proofs.Common.{◌≡◌, ◌≢◌, ℕ, List, [], ◌∷◌, ◌++◌, true, false, cond, eqb, refl, sym, ◌∙◌, subst, eqb-true}
use Rattle.std.proofs.lemmas.Bool.{or_parts, or_right, false_from_ne_true}
use Rattle.plcr_machine.specs.declared.image.Image.{Image}
use Rattle.plcr_machine.specs.Lists.{has, without}
use Rattle.plcr_machine.specs.Links.{after, last_place}
use Rattle.plcr_machine.proofs.Cases.{by_cases, eqb_same, not_both}
use Rattle.plcr_machine.proofs.OnNodes.{IsApart, turned, without_absent}

-- nothing follows what is no place of the list
pub after_absent : (p n : ℕ) (xs : List Image) → eqb p n ≡ false → has n xs ≡ false → after p n xs ≡ 0
after_absent p n [] e h = refl
after_absent p n (x ∷ xs) e h = let parts = or_parts (eqb x.node n) (has n xs) h in rw e (after_absent x.node n xs parts.0 parts.1)

-- what follows is in the list
pub after_listed : (p n : ℕ) (xs : List Image) → after p n xs ≢ 0 → has (after p n xs) xs ≡ true
after_listed p n [] some = absurd (some refl)
after_listed p n (x ∷ xs) some =
    by_cases (eqb p n) (λ e. rw (e, eqb_same) refl)
    (λ e. let is : after p n (x ∷ xs) ≡ after x.node n xs = rw e refl in
    let there = after_listed x.node n xs (λ z. some (is ∙ z)) in
    subst (λ k. has k (x ∷ xs) ≡ true) (sym is) (or_right (eqb x.node (after x.node n xs)) (has (after x.node n xs) xs) there))

-- the place before the list does not matter to other places
after-start : (p q n : ℕ) (xs : List Image) → eqb p n ≡ false → eqb q n ≡ false → after p n xs ≡ after q n xs
after-start p q n [] e f = refl
after-start p q n (x ∷ xs) e f = rw (e, f) refl

after-first : (p q : ℕ) (xs : List Image) → after p p xs ≡ after q q xs
after-first p q [] = refl
after-first p q (x ∷ xs) = rw (eqb_same p, eqb_same q) refl

-- the last place is none that is no place
pub last_place-other : (p n : ℕ) (xs : List Image) → eqb p n ≡ false → has n xs ≡ false → eqb (last_place p xs) n ≡ false
last_place-other p n [] e h = e
last_place-other p n (x ∷ xs) e h = let parts = or_parts (eqb x.node n) (has n xs) h in last_place-other x.node n xs parts.0 parts.1

-- a new last image follows what was the last place
pub after-snoc : (p n : ℕ) (xs : List Image) (x : Image) → has p xs ≡ false → IsApart xs
    → after p n (xs ++ x ∷ []) ≡ cond (eqb (last_place p xs) n) x.node (after p n xs)
after-snoc p n [] x h a = refl
after-snoc p n (y ∷ ys) x h a =
    by_cases (eqb p n)
    (λ e. let parts = or_parts (eqb y.node p) (has p ys) h in
    let other = subst (λ k. eqb (last_place y.node ys) k ≡ false) (eqb-true p n e) (last_place-other y.node p ys parts.0 parts.1) in
    rw (e, other) refl)
    (λ e. rw e (after-snoc y.node n ys x a.0 a.1))

-- nothing leads to an image that is not in the list
beyond : (n k : ℕ) (xs : List Image) → k ≢ 0 → has k xs ≡ false → eqb (after k n xs) k ≡ false
beyond n k xs positive absent =
    false_from_ne_true (eqb (after k n xs) k)
    (λ t. let here = eqb-true (after k n xs) k t in
    not_both (has k xs) (subst (λ m. has m xs ≡ true) here (after_listed k n xs (λ z. positive (sym here ∙ z)))) absent)

-- without an image, what stood before it leads to what stood after it
pub after-without : (p n k : ℕ) (xs : List Image) → IsApart xs → eqb p k ≡ false → eqb n k ≡ false → k ≢ 0
    → after p n (without k xs) ≡ cond (eqb (after p n xs) k) (after p k xs) (after p n xs)
after-without p n k [] a e f positive = by_cases (eqb 0 k) (λ z. rw z refl) (λ z. rw z refl)
after-without p n k (y ∷ ys) a e f positive =
    by_cases (eqb y.node k)
    (λ d. let at_k = eqb-true y.node k d in
    let absent : has k ys ≡ false = subst (λ m. has m ys ≡ false) at_k a.0 in
    let l : without k ys ≡ ys = without_absent k ys absent in
    by_cases (eqb p n)
    (λ t. let at_n = eqb-true p n t in
    rw (d, l, e, t, d) (subst (λ m. after p m ys ≡ after y.node k ys) at_n (subst (λ m. after p p ys ≡ after m k ys) (sym at_k) (after-first p k ys))))
    (λ t. rw (d, l, e, t) (subst (λ m. after p n ys ≡ cond (eqb (after m n ys) k) (after m k ys) (after m n ys)) (sym at_k)
    (rw (beyond n k ys positive absent) (after-start p k n ys t (turned n k f))))))
    (λ d. by_cases (eqb p n) (λ t. rw (d, e, t, d) refl) (λ t. rw (d, e, t) (after-without y.node n k ys a.1 d f positive)))

-- two places that lead to one image are one
pub after_once : (p n m : ℕ) (xs : List Image) → has p xs ≡ false → IsApart xs → after p n xs ≢ 0 → after p n xs ≡ after p m xs → n ≡ m
after_once p n m [] h a some same = absurd (some refl)
after_once p n m (x ∷ xs) h a some same =
    by_cases (eqb p n)
    (λ e. by_cases (eqb p m) (λ f. sym (eqb-true p n e) ∙ eqb-true p m f)
    (λ f. let to = rw (e, f) at same in let from = rw e at some in
    not_both (has x.node xs) (subst (λ k. has k xs ≡ true) (sym to) (after_listed x.node m xs (λ z. from (to ∙ z)))) a.0))
    (λ e. by_cases (eqb p m)
    (λ f. let to = rw (e, f) at same in let from = rw e at some in
    not_both (has x.node xs) (subst (λ k. has k xs ≡ true) to (after_listed x.node n xs from)) a.0)
    (λ f. after_once x.node n m xs a.0 a.1 (rw e at some) (rw (e, f) at same)))

-- no place leads to itself
pub after_else : (p n : ℕ) (xs : List Image) → has p xs ≡ false → IsApart xs → after p n xs ≢ 0 → eqb (after p n xs) n ≡ false
after_else p n [] h a some = absurd (some refl)
after_else p n (x ∷ xs) h a some =
    by_cases (eqb p n)
    (λ e. let first : after p n (x ∷ xs) ≡ x.node = rw e refl in
    let other : eqb x.node n ≡ false = subst (λ k. eqb x.node k ≡ false) (eqb-true p n e) (or_parts (eqb x.node p) (has p xs) h).0 in
    subst (λ k. eqb k n ≡ false) (sym first) other)
    (λ e. let is : after p n (x ∷ xs) ≡ after x.node n xs = rw e refl in
    subst (λ k. eqb k n ≡ false) (sym is) (after_else x.node n xs a.0 a.1 (λ z. some (is ∙ z))))
