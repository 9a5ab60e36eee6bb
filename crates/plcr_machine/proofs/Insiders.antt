-- Counting the numbers that pass a test; and which passes may be announced and inside.
use Rattle.std.proofs.Common.{◌≡◌, ℕ, zero, suc, ◌<◌, ◌≤◌, List, [], ◌∷◌, Bool, true, false, eqb, refl, sym, subst, arith, ne_eqb}
use Rattle.plcr_machine.specs.declared.entry.Entry.{Entry}
use Rattle.plcr_machine.specs.declared.entry.Entry.TheVariants.{Announce, Enter, Leave, Retire, Load, Unload, Count, Look}
use Rattle.plcr_machine.specs.Passes.{is_inside, is_announced, seen_by, stamp_of, announced_count, count_below, counts}
use Rattle.plcr_machine.specs.declared.limits.TheConstants.{MOST_CHANGES}
use Rattle.plcr_machine.specs.Histories.{IsLegal}
use Rattle.std.proofs.lemmas.Bool.{eqb-false}
use Rattle.plcr_machine.proofs.Cases.{by_cases, at_or_else, not_both}

pub count_below-same : (f g : ℕ → Bool) (n : ℕ) → ((k : ℕ) → k < n → f k ≡ g k) → count_below f n ≡ count_below g n
count_below-same f g zero same = refl
count_below-same f g (suc n) same =
    let here : f n ≡ g n = same n (omega arith) in
    let below : count_below f n ≡ count_below g n = count_below-same f g n (λ k h. same k (omega arith)) in
    rw (here, below) refl

-- one more, where a test differs at one number alone
pub count_below-more : (f g : ℕ → Bool) (p n : ℕ) → p < n → f p ≡ false → g p ≡ true → ((k : ℕ) → eqb p k ≡ false → f k ≡ g k) → count_below g n ≡ suc (count_below f n)
count_below-more f g p zero h off on same = absurd (omega arith)
count_below-more f g p (suc n) h off on same =
    at_or_else p n
    (λ e. let below : count_below g n ≡ count_below f n = count_below-same g f n (λ k lt. sym (same k (ne_eqb p k (λ s. omega arith)))) in
    let here : g n ≡ true = subst (λ k. g k ≡ true) e on in
    let away : f n ≡ false = subst (λ k. f k ≡ false) e off in
    rw (here, away, below) (omega arith))
    (λ e. let lt : p < n = omega (arith, eqb-false p n e) in
    let below = count_below-more f g p n lt off on same in
    rw (same n e, below) (omega arith))

pub count_below-none : (f : ℕ → Bool) (n : ℕ) → ((k : ℕ) → k < n → f k ≡ false) → count_below f n ≡ 0
count_below-none f zero none = refl
count_below-none f (suc n) none = let below = count_below-none f n (λ k lt. none k (omega arith)) in rw (none n (omega arith)) (omega (arith, below))

pub count_below-positive : (f : ℕ → Bool) (p n : ℕ) → p < n → f p ≡ true → 0 < count_below f n
count_below-positive f p zero h on = absurd (omega arith)
count_below-positive f p (suc n) h on =
    at_or_else p n (λ e. let here : f n ≡ true = subst (λ k. f k ≡ true) e on in rw here (omega arith))
    (λ e. let lt : p < n = omega (arith, eqb-false p n e) in omega (arith, count_below-positive f p n lt on))

pub count_below-most : (f : ℕ → Bool) (n : ℕ) → count_below f n ≤ n
count_below-most f zero = omega arith
count_below-most f (suc n) = let below = count_below-most f n in by_cases (f n) (λ e. rw e (omega arith)) (λ e. rw e (omega arith))

pub announced_most : (passes : ℕ) (h : List Entry) → announced_count passes h ≤ passes
announced_most passes h = count_below-most (λ q. is_announced q h) passes

module _ (nodes passes : ℕ) where
  -- a pass that is inside is announced
  pub inside_announced : (p : ℕ) (h : List Entry) → IsLegal nodes passes h → is_inside p h ≡ true → is_announced p h ≡ true
  inside_announced p [] l e = not_both false e refl
  inside_announced p (Announce q seen ∷ past) l e = by_cases (eqb q p) (λ d. rw d refl) (λ d. rw d (inside_announced p past l.1 e))
  inside_announced p (Enter q ∷ past) l e =
      at_or_else q p (λ d. subst (λ k. is_announced k past ≡ true) d l.0.0) (λ d. inside_announced p past l.1 (rw d at e))
  inside_announced p (Leave q ∷ past) l e =
      by_cases (eqb q p) (λ d. not_both false (rw d at e) refl) (λ d. inside_announced p past l.1 (rw d at e))
  inside_announced p (Retire q ∷ past) l e =
      at_or_else q p (λ d. not_both (is_inside p past) e (subst (λ k. is_inside k past ≡ false) d l.0.1)) (λ d. rw d (inside_announced p past l.1 e))
  inside_announced p (Load m i a ∷ past) l e = inside_announced p past l.1 e
  inside_announced p (Unload m ∷ past) l e = inside_announced p past l.1 e
  inside_announced p (Count ∷ past) l e = inside_announced p past l.1 e
  inside_announced p (Look q stamp ∷ past) l e = inside_announced p past l.1 e

  -- only passes announce themselves
  pub announced_below : (p : ℕ) (h : List Entry) → IsLegal nodes passes h → is_announced p h ≡ true → p < passes
  announced_below p [] l e = not_both false e refl
  announced_below p (Announce q seen ∷ past) l e =
      at_or_else q p (λ d. subst (λ k. k < passes) d l.0.0) (λ d. announced_below p past l.1 (rw d at e))
  announced_below p (Retire q ∷ past) l e =
      by_cases (eqb q p) (λ d. not_both false (rw d at e) refl) (λ d. announced_below p past l.1 (rw d at e))
  announced_below p (Enter q ∷ past) l e = announced_below p past l.1 e
  announced_below p (Leave q ∷ past) l e = announced_below p past l.1 e
  announced_below p (Load m i a ∷ past) l e = announced_below p past l.1 e
  announced_below p (Unload m ∷ past) l e = announced_below p past l.1 e
  announced_below p (Count ∷ past) l e = announced_below p past l.1 e
  announced_below p (Look q stamp ∷ past) l e = announced_below p past l.1 e

  -- and only passes go in
  pub inside_below : (p : ℕ) (h : List Entry) → IsLegal nodes passes h → is_inside p h ≡ true → p < passes
  inside_below p h l e = announced_below p h l (inside_announced p h l e)

  -- no pass announces more counts than there are
  pub seen_few : (p : ℕ) (h : List Entry) → IsLegal nodes passes h → seen_by p h ≤ counts h
  seen_few p [] l = omega arith
  seen_few p (Announce q seen ∷ past) l = by_cases (eqb q p) (λ d. rw d (l.0.2)) (λ d. rw d (seen_few p past l.1))
  seen_few p (Enter q ∷ past) l = seen_few p past l.1
  seen_few p (Leave q ∷ past) l = seen_few p past l.1
  seen_few p (Retire q ∷ past) l = seen_few p past l.1
  seen_few p (Load m i a ∷ past) l = seen_few p past l.1
  seen_few p (Unload m ∷ past) l = seen_few p past l.1
  seen_few p (Count ∷ past) l = omega (arith, seen_few p past l.1)
  seen_few p (Look q stamp ∷ past) l = seen_few p past l.1

  pub stamp_few : (p : ℕ) (h : List Entry) → IsLegal nodes passes h → stamp_of p h ≤ suc (counts h)
  stamp_few p h l =
      let seen = seen_few p h l in
      by_cases (is_announced p h) (λ e. rw e (omega (arith, seen))) (λ e. rw e (omega arith))

  -- no more changes are counted than may be
  pub counts_few : (h : List Entry) → IsLegal nodes passes h → counts h ≤ MOST_CHANGES
  counts_few [] l = omega arith
  counts_few (Announce q seen ∷ past) l = counts_few past l.1
  counts_few (Enter q ∷ past) l = counts_few past l.1
  counts_few (Leave q ∷ past) l = counts_few past l.1
  counts_few (Retire q ∷ past) l = counts_few past l.1
  counts_few (Load m i a ∷ past) l = counts_few past l.1
  counts_few (Unload m ∷ past) l = counts_few past l.1
  counts_few (Count ∷ past) l = let more = l.0 in omega (arith, more)
  counts_few (Look q stamp ∷ past) l = counts_few past l.1
