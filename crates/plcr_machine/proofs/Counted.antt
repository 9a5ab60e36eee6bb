-- How many nodes are in the list, free and waiting.
use Rattle.std.proofs.Common.{◌≡◌, ℕ, zero, suc, ◌+◌, ◌-◌, ◌<◌, ◌≤◌, List, [], ◌∷◌, length, Bool, true, false, cond, not, ◌||◌, ◌&&◌, eqb, refl, sym, ap, subst, arith, ne_eqb, eqb-true}
use Rattle.std.proofs.lemmas.Bool.{and_parts, eqb-false, false_from_ne_true}
use Rattle.std.proofs.lemmas.List.{length-append}
use Rattle.plcr_machine.specs.declared.image.Image.{Image}
use Rattle.plcr_machine.specs.declared.entry.Entry.{Entry}
use Rattle.plcr_machine.specs.declared.entry.Entry.TheVariants.{Announce, Enter, Leave, Retire, Load, Unload, Count, Look}
use Rattle.plcr_machine.specs.Lists.{has, without, live, loads, unloads, changes}
use Rattle.plcr_machine.specs.Passes.{count_below}
use Rattle.plcr_machine.specs.Nodes.{is_new, is_removed, is_cleared, is_free, is_waiting, free_count, waiting_count}
use Rattle.plcr_machine.specs.Histories.{IsLegal}
use Rattle.plcr_machine.proofs.Cases.{by_cases, at_or_else, not_both}
use Rattle.plcr_machine.proofs.OnNodes.{IsApart, without_absent}
use Rattle.plcr_machine.proofs.Freedom.{has-live, removed_old, live_apart}
use Rattle.plcr_machine.proofs.Insiders.{count_below-same, count_below-none, count_below-positive}
use Rattle.plcr_machine.proofs.Full.{live-length}

-- a list without one of its images is shorter by one
length-without : (n : ℕ) (xs : List Image) → IsApart xs → has n xs ≡ true → length xs ≡ suc (length (without n xs))
length-without n [] a h = not_both false h refl
length-without n (x ∷ xs) a h =
    by_cases (eqb x.node n)
    (λ e. let absent : has n xs ≡ false = subst (λ k. has k xs ≡ false) (eqb-true x.node n e) a.0 in rw (e, without_absent n xs absent) refl)
    (λ e. rw e (ap suc (length-without n xs a.1 (rw e at h))))

module _ (nodes passes : ℕ) where
  pub unloads-loads : (h : List Entry) → IsLegal nodes passes h → length (live h) + unloads h ≡ loads h
  unloads-loads [] l = refl
  unloads-loads (Announce p seen ∷ past) l = unloads-loads past l.1
  unloads-loads (Enter p ∷ past) l = unloads-loads past l.1
  unloads-loads (Leave p ∷ past) l = unloads-loads past l.1
  unloads-loads (Retire p ∷ past) l = unloads-loads past l.1
  unloads-loads (Count ∷ past) l = unloads-loads past l.1
  unloads-loads (Look p stamp ∷ past) l = unloads-loads past l.1
  unloads-loads (Load n i a ∷ past) l =
      let more = length-append (live past) (record { node = n; load = i; header = a } ∷ []) in omega (arith, more, unloads-loads past l.1)
  unloads-loads (Unload n ∷ past) l =
      let less = length-without n (live past) (live_apart nodes passes past l.1) l.0 in omega (arith, less, unloads-loads past l.1)

pub loads-unloads : (h : List Entry) → loads h + unloads h ≡ changes h
loads-unloads [] = refl
loads-unloads (Announce p seen ∷ past) = loads-unloads past
loads-unloads (Enter p ∷ past) = loads-unloads past
loads-unloads (Leave p ∷ past) = loads-unloads past
loads-unloads (Retire p ∷ past) = loads-unloads past
loads-unloads (Count ∷ past) = loads-unloads past
loads-unloads (Look p stamp ∷ past) = loads-unloads past
loads-unloads (Load n i a ∷ past) = omega (arith, loads-unloads past)
loads-unloads (Unload n ∷ past) = omega (arith, loads-unloads past)

-- three tests of which each number passes one
three_below : (f g h : ℕ → Bool) (n : ℕ) → ((k : ℕ) → cond (f k) 1 0 + cond (g k) 1 0 + cond (h k) 1 0 ≡ 1) → count_below f n + count_below g n + count_below h n ≡ n
three_below f g h zero one = refl
three_below f g h (suc n) one = let here = one n in let below = three_below f g h n one in omega (arith, here, below)

pub count_below-less : (f g : ℕ → Bool) (n : ℕ) → ((k : ℕ) → f k ≡ true → g k ≡ true) → count_below f n ≤ count_below g n
count_below-less f g zero more = omega arith
count_below-less f g (suc n) more =
    let below = count_below-less f g n more in
    by_cases (f n) (λ e. rw (e, more n e) (omega (arith, below))) (λ e. rw e (omega (arith, below)))

-- one more at most, where a test differs at one number alone
count_below-one : (f g : ℕ → Bool) (p n : ℕ) → ((k : ℕ) → eqb p k ≡ false → f k ≡ g k) → count_below f n ≤ suc (count_below g n)
count_below-one f g p zero same = omega arith
count_below-one f g p (suc n) same =
    at_or_else p n
    (λ e. let below : count_below f n ≡ count_below g n = count_below-same f g n (λ k lt. same k (ne_eqb p k (λ s. omega arith))) in
    by_cases (f n) (λ t. rw t (omega (arith, below))) (λ t. rw t (omega (arith, below))))
    (λ e. let below = count_below-one f g p n same in rw (same n e) (omega (arith, below)))

-- how many nodes are removed
removed_count : ℕ → List Entry → ℕ
removed_count nodes h = count_below (λ k. is_removed (suc k) h) nodes

removed_most : (nodes : ℕ) (h : List Entry) → count_below (λ k. is_removed (suc k) h) nodes ≤ unloads h
removed_most nodes [] = omega (arith, count_below-none (λ k. false) nodes (λ k lt. refl))
removed_most nodes (Announce p seen ∷ past) = removed_most nodes past
removed_most nodes (Enter p ∷ past) = removed_most nodes past
removed_most nodes (Leave p ∷ past) = removed_most nodes past
removed_most nodes (Retire p ∷ past) = removed_most nodes past
removed_most nodes (Count ∷ past) = removed_most nodes past
removed_most nodes (Look p stamp ∷ past) = removed_most nodes past
removed_most nodes (Load m i a ∷ past) =
    let less = count_below-less (λ k. is_removed (suc k) (Load m i a ∷ past)) (λ k. is_removed (suc k) past) nodes
    (λ k r. by_cases (eqb m (suc k)) (λ d. not_both false (rw d at r) refl) (λ d. rw d at r)) in
    omega (arith, less, removed_most nodes past)
removed_most nodes (Unload m ∷ past) =
    let one = count_below-one (λ k. is_removed (suc k) (Unload m ∷ past)) (λ k. is_removed (suc k) past) (m - 1) nodes
    (λ k d. let other : eqb m (suc k) ≡ false = ne_eqb m (suc k) (λ s. eqb-false (m - 1) k d (omega (arith, s))) in rw other refl) in
    omega (arith, one, removed_most nodes past)

pub waiting_most : (nodes passes : ℕ) (h : List Entry) → waiting_count nodes passes h ≤ unloads h
waiting_most nodes passes h =
    let less = count_below-less (λ k. is_waiting passes (suc k) h) (λ k. is_removed (suc k) h) nodes (λ k w. (and_parts (is_removed (suc k) h) (not (is_cleared passes (suc k) h)) w).0) in
    omega (arith, less, removed_most nodes h)

-- a node is in the list, free or waiting
one_of : (new removed cleared : Bool) → (removed ≡ true → new ≡ false)
    → cond (not (new || removed)) 1 0 + cond (new || (removed && cleared)) 1 0 + cond (removed && not cleared) 1 0 ≡ 1
one_of true true cleared old = not_both true refl (old refl)
one_of true false cleared old = refl
one_of false true true old = refl
one_of false true false old = refl
one_of false false cleared old = refl

module _ (nodes passes : ℕ) (h : List Entry) (l : IsLegal nodes passes h) where
  pub nodes_counted : length (live h) + free_count nodes passes h + waiting_count nodes passes h ≡ nodes
  nodes_counted =
      let all = three_below (λ k. has (suc k) (live h)) (λ k. is_free passes (suc k) h) (λ k. is_waiting passes (suc k) h) nodes
      (λ k. rw (has-live (suc k) h) (one_of (is_new (suc k) h) (is_removed (suc k) h) (is_cleared passes (suc k) h) (λ r. removed_old nodes passes (suc k) h l r))) in
      let listed = live-length nodes passes h l in
      omega (arith, all, listed)

  pub none_counted : ((n : ℕ) → 0 < n → n ≤ nodes → is_free passes n h ≡ false) → length (live h) + waiting_count nodes passes h ≡ nodes
  none_counted none =
      let zero = count_below-none (λ k. is_free passes (suc k) h) nodes (λ k lt. none (suc k) (omega arith) (omega arith)) in omega (arith, zero, nodes_counted)

  pub counted_none : length (live h) + waiting_count nodes passes h ≡ nodes → (n : ℕ) → 0 < n → n ≤ nodes → is_free passes n h ≡ false
  counted_none all n positive most =
      false_from_ne_true (is_free passes n h)
      (λ f. let back : suc (n - 1) ≡ n = omega arith in
      let here : is_free passes (suc (n - 1)) h ≡ true = subst (λ k. is_free passes k h ≡ true) (sym back) f in
      let some = count_below-positive (λ k. is_free passes (suc k) h) (n - 1) nodes (omega arith) here in
      absurd (omega (arith, some, all, nodes_counted)))
