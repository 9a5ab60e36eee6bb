-- Where links lead after each entry of a legal history, and that no stale link leads to a free node.
use Rattle.std.proofs.Common.{◌≡◌, ◌≢◌, ◌⊎◌, inl, inr, ⊎_elim, ℕ, suc, ◌<◌, ◌≤◌, List, [], ◌∷◌, ◌++◌, length, true, false, cond, ◌||◌, eqb, refl, sym, ap, ◌∙◌, subst, arith, eq-eqb, ne_eqb}
use Rattle.std.proofs.lemmas.Bool.{or_parts, or_left, or_right, or_from, and_parts, cases_eq, false_from_ne_true}
use Rattle.plcr_machine.specs.declared.image.Image.{Image}
use Rattle.plcr_machine.specs.declared.entry.Entry.{Entry}
use Rattle.plcr_machine.specs.declared.entry.Entry.TheVariants.{Announce, Enter, Leave, Retire, Load, Unload, Count, Look}
use Rattle.plcr_machine.specs.Lists.{has, without, live}
use Rattle.plcr_machine.specs.Passes.{is_inside}
use Rattle.plcr_machine.specs.Nodes.{is_removed, is_free, unloaded_at}
use Rattle.plcr_machine.specs.Histories.{IsLegal}
use Rattle.plcr_machine.specs.Holds.{may_reach}
use Rattle.plcr_machine.specs.Links.{after, last_place, link_of}
use Rattle.plcr_machine.proofs.Cases.{by_cases, at_or_else, eqb_same, or-false, or-true, not_both}
use Rattle.plcr_machine.proofs.OnNodes.{turned, has-snoc, has-without, has-without_same}
use Rattle.plcr_machine.proofs.Freedom.{free_absent, free_stays, listed_busy, removed_absent, live_apart, live_bound, head_absent, unloaded_at-most}
use Rattle.plcr_machine.proofs.Reach.{frees_earlier, reach_listed}
use Rattle.plcr_machine.proofs.Followers.{after_absent, after_listed, last_place-other, after-snoc, after-without, after_once, after_else}

-- the link of a place of the list leads to its follower
pub link_here : (n : ℕ) (h : List Entry) → (eqb n 0 || has n (live h)) ≡ true → link_of n h ≡ after 0 n (live h)
link_here n [] t = refl
link_here n (e ∷ past) t = rw t refl

-- the link of a node that is not in the list stays
pub link_before : (n : ℕ) (e : Entry) (past : List Entry) → (eqb n 0 || has n (live (e ∷ past))) ≡ false → link_of n (e ∷ past) ≡ link_of n past
link_before n e past t = rw t refl

-- where the list stays, each link stays
pub link_same : (n : ℕ) (e : Entry) (past : List Entry) → live (e ∷ past) ≡ live past → link_of n (e ∷ past) ≡ link_of n past
link_same n e past same =
    by_cases (eqb n 0 || has n (live (e ∷ past)))
    (λ t. let t' : (eqb n 0 || has n (live past)) ≡ true = subst (λ (l : List Image). (eqb n 0 || has n l) ≡ true) same t in
    link_here n (e ∷ past) t ∙ ap (λ (l : List Image). after 0 n l) same ∙ sym (link_here n past t'))
    (λ t. link_before n e past t)

-- what the link of a reachable node leads to is reachable
pub link_reach : (p n : ℕ) (h : List Entry) → may_reach p n h ≡ true → link_of n h ≢ 0 → may_reach p (link_of n h) h ≡ true
link_reach p n [] r some = not_both false r refl
link_reach p n (e ∷ past) r some =
    let parts = and_parts (is_inside p (e ∷ past)) (has n (live (e ∷ past)) || may_reach p n past) r in
    by_cases (eqb n 0 || has n (live (e ∷ past)))
    (λ t. let here = link_here n (e ∷ past) t in
    reach_listed p (link_of n (e ∷ past)) (e ∷ past) parts.0
    (subst (λ k. has k (live (e ∷ past)) ≡ true) (sym here) (after_listed 0 n (live (e ∷ past)) (λ z. some (here ∙ z)))))
    (λ t. let before = link_before n e past t in
    let off = (or_parts (eqb n 0) (has n (live (e ∷ past))) t).1 in
    let earlier : may_reach p n past ≡ true = rw off at parts.1 in
    let there = link_reach p n past earlier (λ z. some (before ∙ z)) in
    let k : ℕ = link_of n past in
    let now : may_reach p (link_of n past) (e ∷ past) ≡ true = rw (parts.0, there) (or-true (has (link_of n past) (live (e ∷ past)))) in
    subst (λ m. may_reach p m (e ∷ past) ≡ true) (sym before) now)

-- the head's link leads to what a pass inside may reach
pub head_reach : (p : ℕ) (h : List Entry) → is_inside p h ≡ true → link_of 0 h ≢ 0 → may_reach p (link_of 0 h) h ≡ true
head_reach p h i some =
    let here = link_here 0 h refl in
    reach_listed p (link_of 0 h) h i (subst (λ k. has k (live h) ≡ true) (sym here) (after_listed 0 0 (live h) (λ z. some (here ∙ z))))

-- a node that a link leads to: one of the list, or one that was unloaded no earlier than the link's node
abbrev pub IsLater : ℕ → ℕ → List Entry → Type 0
IsLater n k h = (has k (live h) ≡ true) ⊎ ((is_removed k h ≡ true) × (unloaded_at n h ≤ unloaded_at k h))

-- the link of a node leads to the end, or to such a node
abbrev pub LeadsLater : ℕ → List Entry → Type 0
LeadsLater n h = (link_of n h ≡ 0) ⊎ IsLater n (link_of n h) h

on : (n : ℕ) (e : Entry) (past : List Entry) → link_of n (e ∷ past) ≡ link_of n past → ((k : ℕ) → IsLater n k past → IsLater n k (e ∷ past)) → LeadsLater n past → LeadsLater n (e ∷ past)
on n e past same step t =
    ⊎_elim (λ (z : link_of n past ≡ 0). inl (same ∙ z))
    (λ (s : IsLater n (link_of n past) past). inr (subst (λ k. IsLater n k (e ∷ past)) (sym same) (step (link_of n past) s))) t

-- what was in the list before an unload is in it, or is unloaded just now
after_unload : (n m k : ℕ) (past : List Entry) → unloaded_at n (Unload m ∷ past) ≤ suc (length past) → has k (live past) ≡ true → IsLater n k (Unload m ∷ past)
after_unload n m k past le e =
    at_or_else m k (λ d. let now : unloaded_at k (Unload m ∷ past) ≡ suc (length past) = rw (d, eqb_same) refl in inr (rw (d, eqb_same) refl, subst (λ t. unloaded_at n (Unload m ∷ past) ≤ t) (sym now) le))
    (λ d. inl (has-without k m (live past) d ∙ e))

module _ (nodes passes : ℕ) where
  -- a load makes the last place of the list lead to the new node, and leaves the other links
  pub link-load : (n k i a : ℕ) (past : List Entry) → IsLegal nodes passes (Load k i a ∷ past) → eqb k n ≡ false
      → link_of n (Load k i a ∷ past) ≡ cond (eqb (last_place 0 (live past)) n) k (link_of n past)
  link-load n k i a past l other =
      let x : Image = record { node = k; load = i; header = a } in
      let grown : (eqb n 0 || has n (live past ++ x ∷ [])) ≡ (eqb n 0 || has n (live past)) = rw (has-snoc n (live past) x, other, or-false) refl in
      by_cases (eqb n 0 || has n (live past))
      (λ t. link_here n (Load k i a ∷ past) (grown ∙ t)
      ∙ after-snoc 0 n (live past) x (head_absent nodes passes past l.1) (live_apart nodes passes past l.1)
      ∙ ap (λ m. cond (eqb (last_place 0 (live past)) n) k m) (sym (link_here n past t)))
      (λ t. let parts = or_parts (eqb n 0) (has n (live past)) t in
      let off = last_place-other 0 n (live past) (turned n 0 parts.0) parts.1 in
      link_before n (Load k i a) past (grown ∙ t) ∙ rw off refl)

  -- the link of the new node is the end
  pub link-loaded : (k i a : ℕ) (past : List Entry) → IsLegal nodes passes (Load k i a ∷ past) → link_of k (Load k i a ∷ past) ≡ 0
  link-loaded k i a past l =
      let x : Image = record { node = k; load = i; header = a } in
      let here : (eqb k 0 || has k (live past ++ x ∷ [])) ≡ true = rw (has-snoc k (live past) x, eqb_same, or-true, or-true) refl in
      let positive = l.0.0 in
      let start : eqb 0 k ≡ false = ne_eqb 0 k (λ z. omega arith) in
      let absent = free_absent passes k past l.0.2 in
      link_here k (Load k i a ∷ past) here
      ∙ after-snoc 0 k (live past) x (head_absent nodes passes past l.1) (live_apart nodes passes past l.1)
      ∙ rw (last_place-other 0 k (live past) start absent) (after_absent 0 k (live past) start absent)

  -- an unload makes the place that led to the node lead to what the node leads to, and leaves the other links
  pub link-unload : (n k : ℕ) (past : List Entry) → IsLegal nodes passes (Unload k ∷ past) → eqb n k ≡ false → (eqb n 0 || has n (live past)) ≡ true
      → link_of n (Unload k ∷ past) ≡ cond (eqb (link_of n past) k) (link_of k past) (link_of n past)
  link-unload n k past l other place =
      let positive = (live_bound nodes passes k past l.1 l.0).0 in
      let start : eqb 0 k ≡ false = ne_eqb 0 k (λ z. omega arith) in
      let still : (eqb n 0 || has n (without k (live past))) ≡ true = rw (has-without n k (live past) (turned n k other)) place in
      let own = link_here k past (or_right (eqb k 0) (has k (live past)) l.0) in
      link_here n (Unload k ∷ past) still
      ∙ after-without 0 n k (live past) (live_apart nodes passes past l.1) start other (λ z. omega arith)
      ∙ rw (link_here n past place, own) refl

  -- an unload leaves the link of the node itself
  pub link-unloaded : (k : ℕ) (past : List Entry) → IsLegal nodes passes (Unload k ∷ past) → link_of k (Unload k ∷ past) ≡ link_of k past
  link-unloaded k past l =
      let positive = (live_bound nodes passes k past l.1 l.0).0 in
      link_before k (Unload k) past (or_from (eqb k 0) (has k (without k (live past))) (ne_eqb k 0 (λ z. omega arith)) (has-without_same k (live past)))

  -- an unload leaves the links of the nodes that are not in the list
  pub link-unload_off : (n k : ℕ) (past : List Entry) → (eqb n 0 || has n (live past)) ≡ false → link_of n (Unload k ∷ past) ≡ link_of n past
  link-unload_off n k past off =
      let parts = or_parts (eqb n 0) (has n (live past)) off in
      let still : has n (without k (live past)) ≡ false = at_or_else k n (λ e. subst (λ m. has n (without m (live past)) ≡ false) (sym e) (has-without_same n (live past))) (λ e. has-without n k (live past) e ∙ parts.1) in
      link_before n (Unload k) past (or_from (eqb n 0) (has n (without k (live past))) parts.0 still)

  -- what leads to an unloaded node then leads to what the node leads to
  pub link_over : (n k : ℕ) (past : List Entry) → IsLegal nodes passes (Unload k ∷ past) → (eqb n 0 || has n (live past)) ≡ true → link_of n past ≡ k → link_of n (Unload k ∷ past) ≡ link_of k past
  link_over n k past l place to =
      let positive = (live_bound nodes passes k past l.1 l.0).0 in
      let here = link_here n past place in
      let other : eqb n k ≡ false = turned k n (subst (λ m. eqb m n ≡ false) (sym here ∙ to) (after_else 0 n (live past) (head_absent nodes passes past l.1) (live_apart nodes passes past l.1) (λ z. let none : k ≡ 0 = sym to ∙ here ∙ z in omega arith))) in
      let self : eqb (link_of n past) k ≡ true = eq-eqb (link_of n past) k to in
      link-unload n k past l other place ∙ rw self refl

  -- two places of the list that lead to one node are one place
  pub link_once : (n m : ℕ) (h : List Entry) → IsLegal nodes passes h → (eqb n 0 || has n (live h)) ≡ true → (eqb m 0 || has m (live h)) ≡ true
      → link_of n h ≢ 0 → link_of n h ≡ link_of m h → n ≡ m
  link_once n m h l pn pm some same =
      let a = link_here n h pn in let b = link_here m h pm in
      after_once 0 n m (live h) (head_absent nodes passes h l) (live_apart nodes passes h l) (λ z. some (a ∙ z)) (sym a ∙ same ∙ b)

  -- and each other link stays
  pub link_else : (n m k : ℕ) (past : List Entry) → IsLegal nodes passes (Unload k ∷ past) → (eqb m 0 || has m (live past)) ≡ true → link_of m past ≡ k → n ≢ m
      → link_of n (Unload k ∷ past) ≡ link_of n past
  link_else n m k past l place to other =
      at_or_else n k
      (λ e. subst (λ x. link_of x (Unload k ∷ past) ≡ link_of x past) (sym e) (link-unloaded k past l))
      (λ e. by_cases (eqb n 0 || has n (live past))
      (λ t. let positive = (live_bound nodes passes k past l.1 l.0).0 in
      let none : eqb (link_of n past) k ≡ false = ne_eqb (link_of n past) k (λ s. other (link_once n m past l.1 t place (λ z. let zero : k ≡ 0 = sym s ∙ z in omega arith) (s ∙ sym to))) in
      link-unload n k past l e t ∙ rw none refl)
      (λ t. link-unload_off n k past t))

  -- removed nodes are nodes of the table
  removed_positive : (n : ℕ) (h : List Entry) → IsLegal nodes passes h → is_removed n h ≡ true → 0 < n
  removed_positive n [] l r = not_both false r refl
  removed_positive n (Enter p ∷ past) l r = removed_positive n past l.1 r
  removed_positive n (Announce p seen ∷ past) l r = removed_positive n past l.1 r
  removed_positive n (Retire p ∷ past) l r = removed_positive n past l.1 r
  removed_positive n (Leave p ∷ past) l r = removed_positive n past l.1 r
  removed_positive n (Count ∷ past) l r = removed_positive n past l.1 r
  removed_positive n (Look q stamp ∷ past) l r = removed_positive n past l.1 r
  removed_positive n (Load m i a ∷ past) l r =
      by_cases (eqb m n) (λ d. not_both false (rw d at r) refl) (λ d. removed_positive n past l.1 (rw d at r))
  removed_positive n (Unload m ∷ past) l r =
      at_or_else m n (λ d. subst (λ k. 0 < k) d (live_bound nodes passes m past l.1 l.0).0) (λ d. removed_positive n past l.1 (rw d at r))

  -- the link of a removed node stays
  pub link_removed : (n : ℕ) (e : Entry) (past : List Entry) → IsLegal nodes passes (e ∷ past) → is_removed n (e ∷ past) ≡ true → link_of n (e ∷ past) ≡ link_of n past
  link_removed n e past l r =
      let positive = removed_positive n (e ∷ past) l r in
      link_before n e past (or_from (eqb n 0) (has n (live (e ∷ past))) (ne_eqb n 0 (λ z. omega arith)) (removed_absent n (e ∷ past) r))

  -- what is not free after an entry, and was removed before and after, was not free before
  pub was_busy : (n : ℕ) (e : Entry) (past : List Entry) → IsLegal nodes passes (e ∷ past) → is_removed n (e ∷ past) ≡ true → is_free passes n (e ∷ past) ≡ false → is_free passes n past ≡ false
  was_busy n e past l r b =
      false_from_ne_true (is_free passes n past)
      (λ f. ⊎_elim (λ (g : is_free passes n (e ∷ past) ≡ true). not_both (is_free passes n (e ∷ past)) g b)
      (λ (w : (i : ℕ) × (a : ℕ) × (e ≡ Load n i a)).
      let off : is_removed n (Load n w.0 w.1 ∷ past) ≡ false = rw (eqb_same n) refl in
      not_both (is_removed n (e ∷ past)) r (subst (λ (x : Entry). is_removed n (x ∷ past) ≡ false) (sym w.2) off))
      (free_stays nodes passes n e past l f))

  after_load : (n m i a : ℕ) (past : List Entry) → IsLegal nodes passes (Load m i a ∷ past) → is_removed n past ≡ true → is_free passes n past ≡ false
      → (k : ℕ) → IsLater n k past → IsLater n k (Load m i a ∷ past)
  after_load n m i a past l r b k t =
      ⊎_elim (λ (e : has k (live past) ≡ true). inl (has-snoc k (live past) (record { node = m; load = i; header = a }) ∙ or_left (has k (live past)) (eqb m k) e))
      (λ (s : (is_removed k past ≡ true) × (unloaded_at n past ≤ unloaded_at k past)).
      at_or_else m k (λ d. not_both (is_free passes n past) (frees_earlier nodes passes n k past l.1 r s.0 s.1 (subst (λ x. is_free passes x past ≡ true) d l.0.2)) b)
      (λ d. inr (rw d (s.0), s.1))) t

  -- the link of a removed node that is not free leads later
  pub leads_later : (n : ℕ) (h : List Entry) → IsLegal nodes passes h → is_removed n h ≡ true → is_free passes n h ≡ false → LeadsLater n h
  leads_later n [] l r b = not_both false r refl
  leads_later n (Enter p ∷ past) l r b = on n (Enter p) past (link_removed n (Enter p) past l r) (λ k s. s) (leads_later n past l.1 r b)
  leads_later n (Announce p seen ∷ past) l r b = on n (Announce p seen) past (link_removed n (Announce p seen) past l r) (λ k s. s) (leads_later n past l.1 r b)
  leads_later n (Retire p ∷ past) l r b = on n (Retire p) past (link_removed n (Retire p) past l r) (λ k s. s) (leads_later n past l.1 r b)
  leads_later n (Leave p ∷ past) l r b = on n (Leave p) past (link_removed n (Leave p) past l r) (λ k s. s) (leads_later n past l.1 r b)
  leads_later n (Count ∷ past) l r b =
      on n Count past (link_removed n Count past l r) (λ k s. s) (leads_later n past l.1 r (was_busy n Count past l r b))
  leads_later n (Look q stamp ∷ past) l r b =
      on n (Look q stamp) past (link_removed n (Look q stamp) past l r) (λ k s. s) (leads_later n past l.1 r (was_busy n (Look q stamp) past l r b))
  leads_later n (Load m i a ∷ past) l r b =
      let before = was_busy n (Load m i a) past l r b in
      by_cases (eqb m n) (λ d. not_both false (rw d at r) refl)
      (λ d. let r' : is_removed n past ≡ true = rw d at r in
      on n (Load m i a) past (link_removed n (Load m i a) past l r) (after_load n m i a past l r' before) (leads_later n past l.1 r' before))
  leads_later n (Unload m ∷ past) l r b =
      at_or_else m n
      (λ d. let here : has n (live past) ≡ true = subst (λ k. has k (live past) ≡ true) d l.0 in
      let same = link_removed n (Unload m) past l r in
      let to = link_here n past (or_right (eqb n 0) (has n (live past)) here) in
      let le : unloaded_at n (Unload m ∷ past) ≤ suc (length past) = unloaded_at-most n (Unload m ∷ past) in
      ⊎_elim (λ (z : link_of n past ≡ 0). inl (same ∙ z))
      (λ (some : link_of n past ≡ 0 → ⊥).
      let listed : has (link_of n past) (live past) ≡ true = subst (λ k. has k (live past) ≡ true) (sym to) (after_listed 0 n (live past) (λ z. some (to ∙ z))) in
      inr (subst (λ k. IsLater n k (Unload m ∷ past)) (sym same) (after_unload n m (link_of n past) past le listed)))
      (cases_eq (link_of n past) 0))
      (λ d. let r' : is_removed n past ≡ true = rw d at r in
      let le : unloaded_at n (Unload m ∷ past) ≤ suc (length past) = unloaded_at-most n (Unload m ∷ past) in
      on n (Unload m) past (link_removed n (Unload m) past l r)
      (λ k s. ⊎_elim (λ (e : has k (live past) ≡ true). after_unload n m k past le e)
      (λ (t : (is_removed k past ≡ true) × (unloaded_at n past ≤ unloaded_at k past)).
      by_cases (eqb m k) (λ f. inr (rw f refl, rw (f, d) (omega (arith, unloaded_at-most n past)))) (λ f. inr (rw f (t.0), rw (d, f) (t.1)))) s)
      (leads_later n past l.1 r' (was_busy n (Unload m) past l r b)))

  -- and so to no free node
  pub leads_busy : (n : ℕ) (h : List Entry) → IsLegal nodes passes h → is_removed n h ≡ true → is_free passes n h ≡ false → link_of n h ≢ 0 → is_free passes (link_of n h) h ≡ false
  leads_busy n h l r b some =
      ⊎_elim (λ (z : link_of n h ≡ 0). absurd (some z))
      (λ (t : IsLater n (link_of n h) h).
      ⊎_elim (λ (e : has (link_of n h) (live h) ≡ true). listed_busy passes (link_of n h) h e)
      (λ (s : (is_removed (link_of n h) h ≡ true) × (unloaded_at n h ≤ unloaded_at (link_of n h) h)).
      false_from_ne_true (is_free passes (link_of n h) h) (λ f. not_both (is_free passes n h) (frees_earlier nodes passes n (link_of n h) h l r s.0 s.1 f) b)) t)
      (leads_later n h l r b)
