-- A link leads where the follower of the image stands that was loaded last on its node.
use Rattle.std.proofs.Common.{if◌then◌else◌, ◌≡◌, ◌⊎◌, inl, inr, ⊎_elim, ℕ, zero, suc, ◌<◌, List, [], ◌∷◌, Contains, Option, Some, None, true, false, eqb, refl, sym, ap, ◌∙◌, subst, arith, le_refl, eqb-true, ne_eqb}
use Rattle.std.proofs.lemmas.Bool.{or_parts, or_right, false_from_ne_true}
use Rattle.plcr_machine.specs.declared.image.Image.{Image}
use Rattle.plcr_machine.specs.declared.entry.Entry.{Entry}
use Rattle.plcr_machine.specs.declared.entry.Entry.TheVariants.{Announce, Enter, Leave, Retire, Load, Unload, Count, Look}
use Rattle.plcr_machine.specs.Lists.{load_number, has, live, loaded, changes, list_after}
use Rattle.plcr_machine.specs.Walks.{RisesAbove, is_listed, first_of_list, next_in, last_with, follow}
use Rattle.plcr_machine.specs.Nodes.{is_removed, is_free}
use Rattle.plcr_machine.specs.Histories.{IsLegal}
use Rattle.plcr_machine.specs.Links.{after, link_of, image_at}
use Rattle.plcr_machine.proofs.Cases.{by_cases, at_or_else, eqb_same, not_both}
use Rattle.plcr_machine.proofs.OnNodes.{IsApart, turned}
use Rattle.plcr_machine.proofs.Freedom.{live_apart, live_bound, head_absent, listed_old, busy_listed, removed_absent, removed_old}
use Rattle.plcr_machine.proofs.Leads.{link_here, link_removed, was_busy, leads_busy}
use Rattle.plcr_machine.proofs.Rising.{contains_here, contains_later, contains_cases, contains_none, contains-listed, rises_past}
use Rattle.plcr_machine.proofs.Loaded.{contains-has, has-contains, loaded_below, loaded_apart, listed_loaded, live_rises}
use Rattle.plcr_machine.proofs.Growing.{follow-same, list_after-now, list_after-older}

-- what follows load i in the last list of a history that had it; after 0, the first of the list
abbrev pub follow_in : ℕ → List Entry → Option Image
follow_in i [] = None
follow_in zero (e ∷ past) = first_of_list load_number (live (e ∷ past))
follow_in (suc i) (e ∷ past) = if is_listed load_number (suc i) (live (e ∷ past)) then next_in load_number (suc i) (live (e ∷ past)) else follow_in (suc i) past

follow_in-here : (i : ℕ) (h : List Entry) → 0 < i → is_listed load_number i (live h) ≡ true → follow_in i h ≡ next_in load_number i (live h)
follow_in-here zero h positive l = absurd (omega arith)
follow_in-here (suc i) [] positive l = not_both false l refl
follow_in-here (suc i) (e ∷ past) positive l = rw l refl

follow_in-before : (i : ℕ) (e : Entry) (past : List Entry) → 0 < i → is_listed load_number i (live (e ∷ past)) ≡ false → follow_in i (e ∷ past) ≡ follow_in i past
follow_in-before zero e past positive l = absurd (omega arith)
follow_in-before (suc i) e past positive l = rw l refl

follow_in-same : (i : ℕ) (e : Entry) (past : List Entry) → live (e ∷ past) ≡ live past → follow_in (suc i) (e ∷ past) ≡ follow_in (suc i) past
follow_in-same i e past same =
    by_cases (is_listed load_number (suc i) (live (e ∷ past)))
    (λ t. follow_in-here (suc i) (e ∷ past) (omega arith) t ∙ ap (λ (l : List Image). next_in load_number (suc i) l) same
    ∙ sym (follow_in-here (suc i) past (omega arith) (subst (λ (l : List Image). is_listed load_number (suc i) l ≡ true) same t)))
    (λ t. follow_in-before (suc i) e past (omega arith) t)

-- up to the changes of the past, what follows stays
follow-older : (e : Entry) (past : List Entry) (i : ℕ) → follow load_number (list_after (e ∷ past)) i (changes past) ≡ follow load_number (list_after past) i (changes past)
follow-older e past i = follow-same load_number (list_after (e ∷ past)) (list_after past) i (changes past) (λ k h. list_after-older e past k h)

-- after one more change, what follows stands in the new list, or is what it was
follow-changed : (e : Entry) (past : List Entry) (i : ℕ) → changes (e ∷ past) ≡ suc (changes past)
    → follow load_number (list_after past) (suc i) (changes past) ≡ follow_in (suc i) past → follow load_number (list_after (e ∷ past)) (suc i) (suc (changes past)) ≡ follow_in (suc i) (e ∷ past)
follow-changed e past i more before =
    let now : list_after (e ∷ past) (suc (changes past)) ≡ live (e ∷ past) = list_after-now (e ∷ past) (suc (changes past)) (omega arith) in
    by_cases (is_listed load_number (suc i) (live (e ∷ past)))
    (λ t. let t' : is_listed load_number (suc i) (list_after (e ∷ past) (suc (changes past))) ≡ true = subst (λ (l : List Image). is_listed load_number (suc i) l ≡ true) (sym now) t in
    let at : last_with load_number (list_after (e ∷ past)) (suc i) (suc (changes past)) ≡ suc (changes past) = rw t' refl in
    ap (λ k. next_in load_number (suc i) (list_after (e ∷ past) k)) at ∙ ap (λ (l : List Image). next_in load_number (suc i) l) now ∙ sym (follow_in-here (suc i) (e ∷ past) (omega arith) t))
    (λ t. let t' : is_listed load_number (suc i) (list_after (e ∷ past) (suc (changes past))) ≡ false = subst (λ (l : List Image). is_listed load_number (suc i) l ≡ false) (sym now) t in
    let at : last_with load_number (list_after (e ∷ past)) (suc i) (suc (changes past)) ≡ last_with load_number (list_after (e ∷ past)) (suc i) (changes past) = rw t' refl in
    ap (λ k. next_in load_number (suc i) (list_after (e ∷ past) k)) at ∙ follow-older e past (suc i) ∙ before ∙ sym (follow_in-before (suc i) e past (omega arith) t))

-- after all changes, the two are one
pub follow-now : (i : ℕ) (h : List Entry) → follow load_number (list_after h) i (changes h) ≡ follow_in i h
follow-now zero [] = refl
follow-now zero (e ∷ past) = ap (λ (l : List Image). first_of_list load_number l) (list_after-now (e ∷ past) (changes (e ∷ past)) (le_refl (changes (e ∷ past))))
follow-now (suc i) [] = refl
follow-now (suc i) (Enter p ∷ past) = follow-older (Enter p) past (suc i) ∙ follow-now (suc i) past ∙ sym (follow_in-same i (Enter p) past refl)
follow-now (suc i) (Announce p seen ∷ past) = follow-older (Announce p seen) past (suc i) ∙ follow-now (suc i) past ∙ sym (follow_in-same i (Announce p seen) past refl)
follow-now (suc i) (Retire p ∷ past) = follow-older (Retire p) past (suc i) ∙ follow-now (suc i) past ∙ sym (follow_in-same i (Retire p) past refl)
follow-now (suc i) (Leave p ∷ past) = follow-older (Leave p) past (suc i) ∙ follow-now (suc i) past ∙ sym (follow_in-same i (Leave p) past refl)
follow-now (suc i) (Count ∷ past) = follow-older Count past (suc i) ∙ follow-now (suc i) past ∙ sym (follow_in-same i Count past refl)
follow-now (suc i) (Look q stamp ∷ past) = follow-older (Look q stamp) past (suc i) ∙ follow-now (suc i) past ∙ sym (follow_in-same i (Look q stamp) past refl)
follow-now (suc i) (Load m j a ∷ past) = follow-changed (Load m j a) past i refl (follow-now (suc i) past)
follow-now (suc i) (Unload m ∷ past) = follow-changed (Unload m) past i refl (follow-now (suc i) past)

-- an image found in a list, and the node that stands there
abbrev Found : List Image → Option Image → ℕ → Type 0
Found xs o n = ((o ≡ None) × (n ≡ 0)) ⊎ ((y : Image) × Contains xs y × (o ≡ Some y) × (n ≡ y.node))

found_later : (x : Image) (xs : List Image) (o : Option Image) (n : ℕ) → Found xs o n → Found (x ∷ xs) o n
found_later x xs o n f = ⊎_elim (λ (none : (o ≡ None) × (n ≡ 0)). inl none) (λ (s : (y : Image) × Contains xs y × (o ≡ Some y) × (n ≡ y.node)). inr (s.0, contains_later x (s.0) xs s.1, s.2, s.3)) f

found_first : (p : ℕ) (xs : List Image) → Found xs (first_of_list load_number xs) (after p p xs)
found_first p [] = inl (refl, refl)
found_first p (x ∷ xs) = inr (x, contains_here x xs, refl, rw eqb_same refl)

-- right after an image in a list on nodes of their own
found_next : (p b : ℕ) (xs : List Image) (x : Image) → IsApart xs → RisesAbove load_number b xs → has p xs ≡ false → Contains xs x → Found xs (next_in load_number x.load xs) (after p x.node xs)
found_next p b [] x a r h c = contains_none x c
found_next p b (z ∷ zs) x a r h c =
    ⊎_elim
    (λ (e : z ≡ x).
    let other : eqb p z.node ≡ false = turned z.node p (or_parts (eqb z.node p) (has p zs) h).0 in
    let f : Found (z ∷ zs) (next_in load_number z.load (z ∷ zs)) (after p z.node (z ∷ zs)) = rw (eqb_same, other) (found_later z zs (first_of_list load_number zs) (after z.node z.node zs) (found_first z.node zs)) in
    subst (λ (w : Image). Found (z ∷ zs) (next_in load_number w.load (z ∷ zs)) (after p w.node (z ∷ zs))) e f)
    (λ (d : Contains zs x).
    let past = rises_past load_number z.load zs x r.1 d in
    let number : eqb z.load x.load ≡ false = ne_eqb z.load x.load (λ s. omega arith) in
    let node : eqb p x.node ≡ false = ne_eqb p x.node (λ s. not_both (has x.node (z ∷ zs)) (or_right (eqb z.node x.node) (has x.node zs) (contains-has zs x d)) (subst (λ n. has n (z ∷ zs) ≡ false) s h)) in
    rw (number, node) (found_later z zs (next_in load_number x.load zs) (after z.node x.node zs) (found_next z.node z.load zs x a.1 r.1 a.0 d)))
    (contains_cases z x zs c)

image_at-some : (n : ℕ) (h : List Entry) → 0 < n → image_at n h ≡ Some (loaded n h)
image_at-some zero h positive = absurd (omega arith)
image_at-some (suc n) h positive = refl

image_at-same : (n : ℕ) (e : Entry) (past : List Entry) → (0 < n → loaded n (e ∷ past) ≡ loaded n past) → image_at n (e ∷ past) ≡ image_at n past
image_at-same zero e past same = refl
image_at-same (suc n) e past same = ap (λ (x : Image). Some x) (same (omega arith))

-- a node that stays unloaded or stays in the list keeps the image loaded last
loaded_else : (n : ℕ) (e : Entry) (past : List Entry) → ((m i a : ℕ) → e ≡ Load m i a → eqb m n ≡ false) → loaded n (e ∷ past) ≡ loaded n past
loaded_else n (Enter p) past other = refl
loaded_else n (Announce p seen) past other = refl
loaded_else n (Retire p) past other = refl
loaded_else n (Leave p) past other = refl
loaded_else n Count past other = refl
loaded_else n (Look q stamp) past other = refl
loaded_else n (Unload m) past other = refl
loaded_else n (Load m i a) past other = rw (other m i a refl) refl

-- who is listed stands in the list
listed-contains : (i : ℕ) (xs : List Image) → is_listed load_number i xs ≡ true → (y : Image) × Contains xs y × (y.load ≡ i)
listed-contains i [] l = not_both false l refl
listed-contains i (x ∷ xs) l =
    at_or_else x.load i (λ e. (x, contains_here x xs, e))
    (λ e. let there = listed-contains i xs (rw e at l) in (there.0, contains_later x (there.0) xs there.1, there.2))

-- a load after which a node is removed is of another node
load_else : (n m i a : ℕ) (past : List Entry) → is_removed n (Load m i a ∷ past) ≡ true → eqb m n ≡ false
load_else n m i a past r = by_cases (eqb m n) (λ d. not_both false (rw d at r) refl) (λ d. d)

module _ (nodes passes : ℕ) where
  -- and not of the one that the removed node leads to
  load_beyond : (n m i a : ℕ) (past : List Entry) → IsLegal nodes passes (Load m i a ∷ past) → is_removed n (Load m i a ∷ past) ≡ true → is_free passes n past ≡ false → 0 < link_of n past → eqb m (link_of n past) ≡ false
  load_beyond n m i a past l r b some =
      let r' : is_removed n past ≡ true = rw (load_else n m i a past r) at r in
      let busy = leads_busy nodes passes n past l.1 r' b (λ z. omega arith) in
      false_from_ne_true (eqb m (link_of n past)) (λ t. not_both (is_free passes (link_of n past) past) (subst (λ k. is_free passes k past ≡ true) (eqb-true m (link_of n past) t) l.0.2) busy)

  found_image : (o : Option Image) (n : ℕ) (h : List Entry) → IsLegal nodes passes h → Found (live h) o n → o ≡ image_at n h
  found_image o n h l f =
      ⊎_elim (λ (none : (o ≡ None) × (n ≡ 0)). none.0 ∙ ap (λ k. image_at k h) (sym none.1))
      (λ (s : (y : Image) × Contains (live h) y × (o ≡ Some y) × (n ≡ y.node)).
      let same = listed_loaded nodes passes (s.0) h l s.1 in
      let positive = (live_bound nodes passes (s.0).node h l (contains-has (live h) (s.0) s.1)).0 in
      s.2 ∙ ap (λ (x : Image). Some x) (sym same) ∙ sym (image_at-some (s.0).node h positive) ∙ ap (λ k. image_at k h) (sym s.3)) f

  -- of a node in the list
  listed_follows : (n : ℕ) (h : List Entry) → IsLegal nodes passes h → has n (live h) ≡ true → follow_in (loaded n h).load h ≡ image_at (link_of n h) h
  listed_follows n h l e =
      let w = has-contains n (live h) e in
      let y : Image = w.0 in
      let is : loaded n h ≡ y = subst (λ k. loaded k h ≡ y) w.2 (listed_loaded nodes passes y h l w.1) in
      let positive = (loaded_below nodes passes n h l (listed_old n h e)).0 in
      let positive' : 0 < y.load = subst (λ (x : Image). 0 < x.load) is positive in
      let f = found_next 0 0 (live h) y (live_apart nodes passes h l) (live_rises nodes passes h l) (head_absent nodes passes h l) w.1 in
      let next : follow_in y.load h ≡ next_in load_number y.load (live h) = follow_in-here y.load h positive' (contains-listed load_number (live h) y w.1) in
      let link : link_of n h ≡ after 0 y.node (live h) = link_here n h (or_right (eqb n 0) (has n (live h)) e) ∙ ap (λ k. after 0 k (live h)) (sym w.2) in
      ap (λ (x : Image). follow_in x.load h) is ∙ next ∙ found_image (next_in load_number y.load (live h)) (after 0 y.node (live h)) h l f ∙ ap (λ k. image_at k h) (sym link)

  -- the number of a removed node's load is not in the list
  removed_unlisted : (n : ℕ) (h : List Entry) → IsLegal nodes passes h → is_removed n h ≡ true → is_listed load_number (loaded n h).load (live h) ≡ false
  removed_unlisted n h l r =
      false_from_ne_true (is_listed load_number (loaded n h).load (live h))
      (λ t. let w = listed-contains (loaded n h).load (live h) t in
      let y : Image = w.0 in
      let there = contains-has (live h) y w.1 in
      let same = listed_loaded nodes passes y h l w.1 in
      let node : n ≡ y.node = loaded_apart nodes passes n y.node h l (removed_old nodes passes n h l r) (listed_old y.node h there) (sym w.2 ∙ ap (λ (x : Image). x.load) (sym same)) in
      not_both (has n (live h)) (subst (λ k. has k (live h) ≡ true) (sym node) there) (removed_absent n h r))

  -- of a removed node, one entry on
  removed_follows : (n : ℕ) (e : Entry) (past : List Entry) → IsLegal nodes passes (e ∷ past) → is_removed n (e ∷ past) ≡ true → is_free passes n past ≡ false
      → follow_in (loaded n past).load past ≡ image_at (link_of n past) past → follow_in (loaded n (e ∷ past)).load (e ∷ past) ≡ image_at (link_of n (e ∷ past)) (e ∷ past)
  removed_follows n e past l r b before =
      let own : loaded n (e ∷ past) ≡ loaded n past = loaded_else n e past (λ m i a s. load_else n m i a past (subst (λ (x : Entry). is_removed n (x ∷ past) ≡ true) s r)) in
      let unlisted = removed_unlisted n (e ∷ past) l r in
      let positive = (loaded_below nodes passes n (e ∷ past) l (removed_old nodes passes n (e ∷ past) l r)).0 in
      let kept : image_at (link_of n past) (e ∷ past) ≡ image_at (link_of n past) past = image_at-same (link_of n past) e past (λ some. loaded_else (link_of n past) e past
      (λ m i a s. load_beyond n m i a past (subst (λ (x : Entry). IsLegal nodes passes (x ∷ past)) s l) (subst (λ (x : Entry). is_removed n (x ∷ past) ≡ true) s r) b some)) in
      follow_in-before (loaded n (e ∷ past)).load e past positive unlisted
      ∙ ap (λ (x : Image). follow_in x.load past) own ∙ before ∙ sym kept ∙ ap (λ k. image_at k (e ∷ past)) (sym (link_removed nodes passes n e past l r))

  -- of a node that is not free, the link leads where its image's follower stands
  pub link_follows : (n : ℕ) (h : List Entry) → IsLegal nodes passes h → is_free passes n h ≡ false → follow_in (loaded n h).load h ≡ image_at (link_of n h) h
  link_follows n [] l b = not_both true refl b
  link_follows n (e ∷ past) l b =
      by_cases (is_removed n (e ∷ past))
      (λ r. let before = was_busy nodes passes n e past l r b in removed_follows n e past l r before (link_follows n past l.1 before))
      (λ r. listed_follows n (e ∷ past) l (busy_listed passes n (e ∷ past) b r))

  -- the head's link leads to the first of the list
  head_follows : (h : List Entry) → IsLegal nodes passes h → follow_in 0 h ≡ image_at (link_of 0 h) h
  head_follows [] l = refl
  head_follows (e ∷ past) l =
      found_image (first_of_list load_number (live (e ∷ past))) (after 0 0 (live (e ∷ past))) (e ∷ past) l (found_first 0 (live (e ∷ past)))
      ∙ ap (λ k. image_at k (e ∷ past)) (sym (link_here 0 (e ∷ past) refl))

  -- both, by the number of changes
  pub link-follow : (n : ℕ) (h : List Entry) → IsLegal nodes passes h → is_free passes n h ≡ false → follow load_number (list_after h) (loaded n h).load (changes h) ≡ image_at (link_of n h) h
  link-follow n h l b = follow-now (loaded n h).load h ∙ link_follows n h l b

  pub head-follow : (h : List Entry) → IsLegal nodes passes h → follow load_number (list_after h) 0 (changes h) ≡ image_at (link_of 0 h) h
  head-follow h l = follow-now 0 h ∙ head_follows h l
