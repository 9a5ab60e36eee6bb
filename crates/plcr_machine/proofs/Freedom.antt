-- Which nodes are in the list, removed and free after a legal history.
use Rattle.std.proofs.Common.{◌⊎◌, inl, inr, ◌≡◌, ℕ, ◌<◌, ◌≤◌, List, [], ◌∷◌, Bool, true, false, cond, not, ◌||◌, ◌&&◌, eqb, refl, sym, ap, ◌∙◌, subst, arith, length}
use Rattle.std.proofs.lemmas.Bool.{or_parts, or_right, not-true}
use Rattle.plcr_machine.specs.declared.image.Image.{Image}
use Rattle.plcr_machine.specs.declared.entry.Entry.{Entry}
use Rattle.plcr_machine.specs.declared.entry.Entry.TheVariants.{Announce, Enter, Leave, Retire, Load, Unload, Count, Look}
use Rattle.plcr_machine.specs.Lists.{has, without, live}
use Rattle.plcr_machine.specs.Nodes.{is_new, is_removed, lets_go, counts_before, is_let_go, is_cleared, is_free, unloaded_at}
use Rattle.plcr_machine.specs.Histories.{IsLegal}
use Rattle.plcr_machine.proofs.Cases.{by_cases, at_or_else, eqb_same, or-false, or-true, not_both}
use Rattle.plcr_machine.proofs.Under.{all_under-more}
use Rattle.plcr_machine.proofs.OnNodes.{IsApart, has-snoc, has-without_same, has-without, apart-snoc, apart-without}

-- a node is in the list exactly where it is neither new nor removed
pub has-live : (n : ℕ) (h : List Entry) → has n (live h) ≡ not (is_new n h || is_removed n h)
has-live n [] = refl
has-live n (Enter p ∷ past) = has-live n past
has-live n (Announce p seen ∷ past) = has-live n past
has-live n (Retire p ∷ past) = has-live n past
has-live n (Leave p ∷ past) = has-live n past
has-live n (Count ∷ past) = has-live n past
has-live n (Look q stamp ∷ past) = has-live n past
has-live n (Load m i a ∷ past) =
    let x : Image = record { node = m; load = i; header = a } in
    has-snoc n (live past) x ∙ by_cases (eqb m n) (λ e. rw e (or-true (has n (live past)))) (λ e. rw e (or-false (has n (live past)) ∙ has-live n past))
has-live n (Unload m ∷ past) =
    at_or_else m n (λ e. subst (λ k. has n (without k (live past)) ≡ not (is_new n past || cond (eqb k n) true (is_removed n past))) (sym e) (rw eqb_same (has-without_same n (live past) ∙ rw or-true refl)))
    (λ e. rw e (has-without n m (live past) e ∙ has-live n past))

-- a node is in the list by its two tests
pub listed_by : (n : ℕ) (h : List Entry) (new removed : Bool) → new ≡ is_new n h → removed ≡ is_removed n h → new ≡ false → not removed ≡ has n (live h)
listed_by n h new removed e f z = let fresh : is_new n h ≡ false = sym e ∙ z in sym (has-live n h ∙ rw (fresh, f) refl)

pub unlisted_by : (n : ℕ) (h : List Entry) (new : Bool) → new ≡ is_new n h → new ≡ true → not new ≡ has n (live h)
unlisted_by n h new e z = let fresh : is_new n h ≡ true = sym e ∙ z in rw z (sym (has-live n h ∙ rw fresh refl))

not-or_parts : (a b : Bool) → not (a || b) ≡ true → (a ≡ false) × (b ≡ false)
not-or_parts a b h = or_parts a b (not-true (a || b) h)

pub listed_old : (n : ℕ) (h : List Entry) → has n (live h) ≡ true → is_new n h ≡ false
listed_old n h e = (not-or_parts (is_new n h) (is_removed n h) (sym (has-live n h) ∙ e)).0

pub listed_kept : (n : ℕ) (h : List Entry) → has n (live h) ≡ true → is_removed n h ≡ false
listed_kept n h e = (not-or_parts (is_new n h) (is_removed n h) (sym (has-live n h) ∙ e)).1

-- a node in the list is not free
pub listed_busy : (passes n : ℕ) (h : List Entry) → has n (live h) ≡ true → is_free passes n h ≡ false
listed_busy passes n h e = rw (listed_old n h e, listed_kept n h e) refl

-- a free node is not in the list
pub free_absent : (passes n : ℕ) (h : List Entry) → is_free passes n h ≡ true → has n (live h) ≡ false
free_absent passes n h f = by_cases (has n (live h)) (λ e. not_both (is_free passes n h) f (listed_busy passes n h e)) (λ e. e)

-- a node that is neither free nor removed is in the list
pub busy_listed : (passes n : ℕ) (h : List Entry) → is_free passes n h ≡ false → is_removed n h ≡ false → has n (live h) ≡ true
busy_listed passes n h f r = has-live n h ∙ rw ((or_parts (is_new n h) (is_removed n h && is_cleared passes n h) f).0, r) refl

-- a removed node is not in the list
pub removed_absent : (n : ℕ) (h : List Entry) → is_removed n h ≡ true → has n (live h) ≡ false
removed_absent n h r = by_cases (has n (live h)) (λ e. not_both (is_removed n h) r (listed_kept n h e)) (λ e. e)

-- an unload stands within the history
pub unloaded_at-most : (n : ℕ) (h : List Entry) → unloaded_at n h ≤ length h
unloaded_at-most n [] = omega arith
unloaded_at-most n (Enter p ∷ past) = omega (arith, unloaded_at-most n past)
unloaded_at-most n (Announce p seen ∷ past) = omega (arith, unloaded_at-most n past)
unloaded_at-most n (Retire p ∷ past) = omega (arith, unloaded_at-most n past)
unloaded_at-most n (Leave p ∷ past) = omega (arith, unloaded_at-most n past)
unloaded_at-most n (Count ∷ past) = omega (arith, unloaded_at-most n past)
unloaded_at-most n (Look q stamp ∷ past) = omega (arith, unloaded_at-most n past)
unloaded_at-most n (Load m i a ∷ past) = omega (arith, unloaded_at-most n past)
unloaded_at-most n (Unload m ∷ past) =
    by_cases (eqb m n) (λ d. rw d (omega arith)) (λ d. rw d (omega (arith, unloaded_at-most n past)))

-- what was cleared more is free more
freed : (new removed cleared now : Bool) → (cleared ≡ true → now ≡ true) → (new || (removed && cleared)) ≡ true → (new || (removed && now)) ≡ true
freed true r c k more f = refl
freed false true c k more f = more f
freed false false c k more f = f

-- a look takes no freedom away
pub free_looked : (passes n q stamp : ℕ) (past : List Entry) → is_free passes n past ≡ true → is_free passes n (Look q stamp ∷ past) ≡ true
free_looked passes n q stamp past f =
    freed (is_new n past) (is_removed n past) (is_cleared passes n past) (is_cleared passes n (Look q stamp ∷ past))
    (all_under-more (λ p. is_let_go p n past) (λ p. is_let_go p n (Look q stamp ∷ past)) passes
    (λ p lt go. or_right ((eqb q p) && lets_go (counts_before n past) stamp) (is_let_go p n past) go)) f

module _ (nodes passes : ℕ) where
  -- a node that was removed had been loaded
  pub removed_old : (n : ℕ) (h : List Entry) → IsLegal nodes passes h → is_removed n h ≡ true → is_new n h ≡ false
  removed_old n [] l r = not_both false r refl
  removed_old n (Enter p ∷ past) l r = removed_old n past l.1 r
  removed_old n (Announce p seen ∷ past) l r = removed_old n past l.1 r
  removed_old n (Retire p ∷ past) l r = removed_old n past l.1 r
  removed_old n (Leave p ∷ past) l r = removed_old n past l.1 r
  removed_old n (Count ∷ past) l r = removed_old n past l.1 r
  removed_old n (Look q stamp ∷ past) l r = removed_old n past l.1 r
  removed_old n (Load m i a ∷ past) l r =
      by_cases (eqb m n) (λ e. rw e refl) (λ e. rw e (removed_old n past l.1 (rw e at r)))
  removed_old n (Unload m ∷ past) l r =
      at_or_else m n (λ e. listed_old n past (rw e at l.0)) (λ e. removed_old n past l.1 (rw e at r))

  -- the images of the list stand on nodes of their own
  pub live_apart : (h : List Entry) → IsLegal nodes passes h → IsApart (live h)
  live_apart [] l = tt
  live_apart (Enter p ∷ past) l = live_apart past l.1
  live_apart (Announce p seen ∷ past) l = live_apart past l.1
  live_apart (Retire p ∷ past) l = live_apart past l.1
  live_apart (Leave p ∷ past) l = live_apart past l.1
  live_apart (Count ∷ past) l = live_apart past l.1
  live_apart (Look q stamp ∷ past) l = live_apart past l.1
  live_apart (Load m i a ∷ past) l =
      apart-snoc (live past) (record { node = m; load = i; header = a }) (live_apart past l.1) (free_absent passes m past l.0.2)
  live_apart (Unload m ∷ past) l = apart-without m (live past) (live_apart past l.1)

  -- the nodes of the list are those of the table
  pub live_bound : (n : ℕ) (h : List Entry) → IsLegal nodes passes h → has n (live h) ≡ true → (0 < n) × (n ≤ nodes)
  live_bound n [] l e = not_both false e refl
  live_bound n (Enter p ∷ past) l e = live_bound n past l.1 e
  live_bound n (Announce p seen ∷ past) l e = live_bound n past l.1 e
  live_bound n (Retire p ∷ past) l e = live_bound n past l.1 e
  live_bound n (Leave p ∷ past) l e = live_bound n past l.1 e
  live_bound n (Count ∷ past) l e = live_bound n past l.1 e
  live_bound n (Look q stamp ∷ past) l e = live_bound n past l.1 e
  live_bound n (Load m i a ∷ past) l e =
      let s = sym (has-snoc n (live past) (record { node = m; load = i; header = a })) ∙ e in
      at_or_else m n (λ d. subst (λ k. (0 < k) × (k ≤ nodes)) d (l.0.0, l.0.1))
      (λ d. live_bound n past l.1 (sym (or-false (has n (live past))) ∙ (rw d at s)))
  live_bound n (Unload m ∷ past) l e =
      at_or_else m n (λ d. not_both (has n (without m (live past))) e (subst (λ k. has n (without k (live past)) ≡ false) (sym d) (has-without_same n (live past))))
      (λ d. live_bound n past l.1 (sym (has-without n m (live past) d) ∙ e))

  pub head_absent : (h : List Entry) → IsLegal nodes passes h → has 0 (live h) ≡ false
  head_absent h l = by_cases (has 0 (live h)) (λ e. absurd (omega (arith, (live_bound 0 h l e).0))) (λ e. e)

  -- free nodes stay free, except by a load of their own
  pub free_stays : (n : ℕ) (e : Entry) (past : List Entry) → IsLegal nodes passes (e ∷ past) → is_free passes n past ≡ true
      → (is_free passes n (e ∷ past) ≡ true) ⊎ ((i : ℕ) × (a : ℕ) × (e ≡ Load n i a))
  free_stays n (Enter p) past l f = inl f
  free_stays n (Announce p seen) past l f = inl f
  free_stays n (Retire p) past l f = inl f
  free_stays n (Leave p) past l f = inl f
  free_stays n Count past l f = inl f
  free_stays n (Look q stamp) past l f = inl (free_looked passes n q stamp past f)
  free_stays n (Load m i a) past l f =
      at_or_else m n (λ d. inr (i, a, ap (λ k. Load k i a) d)) (λ d. inl (rw d f))
  free_stays n (Unload m) past l f =
      at_or_else m n (λ d. not_both (is_free passes n past) f (listed_busy passes n past (rw d at l.0))) (λ d. inl (rw d f))
