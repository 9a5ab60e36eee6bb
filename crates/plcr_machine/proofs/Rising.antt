-- Lists whose numbers rise, and what stands right after an element.
use Rattle.std.proofs.Common.{◌≡◌, ◌⊎◌, inl, inr, ⊎_elim, ℕ, zero, suc, ◌<◌, List, [], ◌∷◌, length, Option, Some, Contains, true, false, eqb, refl, sym, ap, subst, arith, eq-eqb, slice_index_or}
use Rattle.std.proofs.lemmas.Bool.{or_right}
use Rattle.plcr_machine.specs.Walks.{RisesAbove, is_listed, first_of_list, next_in}
use Rattle.plcr_machine.proofs.Cases.{by_cases, at_or_else, not_both}

module _ {A : Type 0} where
  pub contains_later : (x y : A) (xs : List A) → Contains xs y → Contains (x ∷ xs) y
  contains_later x y xs c = (suc c.0, omega (arith, c.1), c.2)

  pub contains_here : (x : A) (xs : List A) → Contains (x ∷ xs) x
  contains_here x xs = (0, omega arith, refl)

  cases_at : (x y : A) (xs : List A) (k : ℕ) → k < length (x ∷ xs) → slice_index_or (x ∷ xs) k y ≡ y → (x ≡ y) ⊎ Contains xs y
  cases_at x y xs zero h e = inl e
  cases_at x y xs (suc k) h e = inr (k, omega arith, e)

  pub contains_cases : (x y : A) (xs : List A) → Contains (x ∷ xs) y → (x ≡ y) ⊎ Contains xs y
  contains_cases x y xs c = cases_at x y xs c.0 c.1 c.2

  pub contains_none : {P : Type 0} (x : A) → Contains [] x → P
  contains_none x c = absurd (omega (arith, c.1))

  pub some_same : (x y : A) → Some x ≡ Some y → x ≡ y
  some_same x y e = cc

module _ {A : Type 0} (number : A → ℕ) where
  pub rises_past : (b : ℕ) (xs : List A) (y : A) → RisesAbove number b xs → Contains xs y → b < number y
  rises_past b [] y r c = contains_none y c
  rises_past b (x ∷ xs) y r c =
      ⊎_elim (λ (e : x ≡ y). subst (λ z. b < number z) e r.0)
      (λ (d : Contains xs y). let later = rises_past (number x) xs y r.1 d in let first = r.0 in omega arith)
      (contains_cases x y xs c)

  pub contains-listed : (xs : List A) (y : A) → Contains xs y → is_listed number (number y) xs ≡ true
  contains-listed [] y c = contains_none y c
  contains-listed (x ∷ xs) y c =
      ⊎_elim (λ (e : x ≡ y). rw (eq-eqb (number x) (number y) (ap number e)) refl)
      (λ (d : Contains xs y). or_right (eqb (number x) (number y)) (is_listed number (number y) xs) (contains-listed xs y d))
      (contains_cases x y xs c)

  -- who is listed above a bound has a number above it
  listed_past : (b i : ℕ) (xs : List A) → RisesAbove number b xs → is_listed number i xs ≡ true → b < i
  listed_past b i [] r l = not_both false l refl
  listed_past b i (x ∷ xs) r l =
      at_or_else (number x) i (λ e. subst (λ n. b < n) e r.0)
      (λ e. let later = listed_past (number x) i xs r.1 (rw e at l) in let first = r.0 in omega arith)

  pub first_listed : (x : A) (xs : List A) → first_of_list number xs ≡ Some x → Contains xs x
  first_listed x [] e = cc
  first_listed x (y ∷ ys) e = subst (λ z. Contains (y ∷ ys) z) (some_same y x e) (contains_here y ys)

  pub next_listed : (i : ℕ) (x : A) (xs : List A) → next_in number i xs ≡ Some x → Contains xs x
  next_listed i x [] e = cc
  next_listed i x (y ∷ ys) e =
      by_cases (eqb (number y) i) (λ d. contains_later y x ys (first_listed x ys (rw d at e))) (λ d. contains_later y x ys (next_listed i x ys (rw d at e)))

  pub first_rises : (b : ℕ) (x : A) (xs : List A) → RisesAbove number b xs → first_of_list number xs ≡ Some x → b < number x
  first_rises b x xs r e = rises_past b xs x r (first_listed x xs e)

  pub next_rises : (b i : ℕ) (x : A) (xs : List A) → RisesAbove number b xs → next_in number i xs ≡ Some x → i < number x
  next_rises b i x [] r e = cc
  next_rises b i x (y ∷ ys) r e =
      at_or_else (number y) i
      (λ d. subst (λ n. n < number x) d (first_rises (number y) x ys r.1 (rw (eq-eqb (number y) i d) at e)))
      (λ d. next_rises (number y) i x ys r.1 (rw d at e))

  -- what stands at an element, or before it
  abbrev pub AtOrBefore : A → Option A → Type 0
  AtOrBefore y found = (x : A) × (found ≡ Some x) × ((x ≡ y) ⊎ (number x < number y))

  pub first_before : (b : ℕ) (xs : List A) (y : A) → RisesAbove number b xs → Contains xs y → AtOrBefore y (first_of_list number xs)
  first_before b [] y r c = contains_none y c
  first_before b (x ∷ xs) y r c =
      (x, refl, ⊎_elim (λ (e : x ≡ y). inl e) (λ (d : Contains xs y). inr (rises_past (number x) xs y r.1 d)) (contains_cases x y xs c))

  pub next_before : (b i : ℕ) (xs : List A) (y : A) → RisesAbove number b xs → is_listed number i xs ≡ true → Contains xs y → i < number y → AtOrBefore y (next_in number i xs)
  next_before b i [] y r l c lt = contains_none y c
  next_before b i (x ∷ xs) y r l c lt =
      at_or_else (number x) i
      (λ d. ⊎_elim (λ (e : x ≡ y). let same : number x ≡ number y = ap number e in absurd (omega arith))
      (λ (later : Contains xs y). rw (eq-eqb (number x) i d) (first_before (number x) xs y r.1 later)) (contains_cases x y xs c))
      (λ d. let l' : is_listed number i xs ≡ true = rw d at l in
      ⊎_elim (λ (e : x ≡ y). let same : number x ≡ number y = ap number e in let past = listed_past (number x) i xs r.1 l' in absurd (omega arith))
      (λ (later : Contains xs y). rw d (next_before (number x) i xs y r.1 l' later lt)) (contains_cases x y xs c))

  -- lists that rise and have the same elements are one list
  pub rises_same : (b : ℕ) (xs ys : List A) → RisesAbove number b xs → RisesAbove number b ys
      → ((z : A) → Contains xs z → Contains ys z) → ((z : A) → Contains ys z → Contains xs z) → xs ≡ ys
  rises_same b [] [] r s f g = refl
  rises_same b [] (y ∷ ys) r s f g = contains_none y (g y (contains_here y ys))
  rises_same b (x ∷ xs) [] r s f g = contains_none x (f x (contains_here x xs))
  rises_same b (x ∷ xs) (y ∷ ys) r s f g =
      let same : x ≡ y = ⊎_elim (λ (e : y ≡ x). sym e)
      (λ (later : Contains ys x). ⊎_elim (λ (e : x ≡ y). e)
      (λ (later' : Contains xs y). let p = rises_past (number y) ys x s.1 later in let q = rises_past (number x) xs y r.1 later' in absurd (omega arith)) (contains_cases x y xs (g y (contains_here y ys))))
      (contains_cases y x ys (f x (contains_here x xs))) in
      let numbers : number x ≡ number y = ap number same in
      let rest : xs ≡ ys = rises_same (number x) xs ys r.1 (subst (λ n. RisesAbove number n ys) (sym numbers) s.1)
      (λ z c. ⊎_elim (λ (e : y ≡ z). let p = rises_past (number x) xs z r.1 c in let q : number y ≡ number z = ap number e in absurd (omega arith)) (λ (d : Contains ys z). d) (contains_cases y z ys (f z (contains_later x z xs c))))
      (λ z c. ⊎_elim (λ (e : x ≡ z). let p = rises_past (number y) ys z s.1 c in let q : number x ≡ number z = ap number e in absurd (omega arith)) (λ (d : Contains xs z). d) (contains_cases x z xs (g z (contains_later y z ys c)))) in
      cc
