-- The image loaded last on a node, and the numbers of loads.
use Rattle.std.proofs.Common.{◌≡◌, ◌⊎◌, inl, inr, ⊎_elim, ℕ, ◌<◌, ◌≤◌, List, [], ◌∷◌, ◌++◌, Contains, true, false, eqb, leb, refl, sym, ◌∙◌, subst, arith, eqb-true}
use Rattle.std.proofs.lemmas.Bool.{or_right, or_left, cond_both}
use Rattle.plcr_machine.specs.declared.image.Image.{Image}
use Rattle.plcr_machine.specs.declared.entry.Entry.{Entry}
use Rattle.plcr_machine.specs.declared.entry.Entry.TheVariants.{Announce, Enter, Leave, Retire, Load, Unload, Count, Look}
use Rattle.plcr_machine.specs.Lists.{load_number, has, without, live, loaded, loads, changes, list_after}
use Rattle.plcr_machine.specs.Walks.{RisesAbove}
use Rattle.plcr_machine.specs.Nodes.{is_new}
use Rattle.plcr_machine.specs.Histories.{IsLegal}
use Rattle.plcr_machine.proofs.Cases.{by_cases, at_or_else, eqb_same, not_both}
use Rattle.plcr_machine.proofs.Freedom.{free_absent, listed_old}
use Rattle.plcr_machine.proofs.Rising.{contains_here, contains_later, contains_cases, contains_none}

-- who stands in a list without a node stood in the list
contains-without : (k : ℕ) (xs : List Image) (y : Image) → Contains (without k xs) y → Contains xs y
contains-without k [] y c = c
contains-without k (x ∷ xs) y c =
    by_cases (eqb x.node k) (λ e. contains_later x y xs (contains-without k xs y (rw e at c)))
    (λ e. let c' : Contains (x ∷ without k xs) y = rw e at c in
    ⊎_elim (λ (s : x ≡ y). subst (λ z. Contains (x ∷ xs) z) s (contains_here x xs))
    (λ (d : Contains (without k xs) y). contains_later x y xs (contains-without k xs y d)) (contains_cases x y (without k xs) c'))

contains-snoc : (xs : List Image) (x y : Image) → Contains (xs ++ x ∷ []) y → Contains xs y ⊎ (x ≡ y)
contains-snoc [] x y c = ⊎_elim (λ (e : x ≡ y). inr e) (λ (d : Contains [] y). inl d) (contains_cases x y [] c)
contains-snoc (z ∷ xs) x y c =
    ⊎_elim (λ (e : z ≡ y). inl (subst (λ w. Contains (z ∷ xs) w) e (contains_here z xs)))
    (λ (d : Contains (xs ++ x ∷ []) y). ⊎_elim (λ (f : Contains xs y). inl (contains_later z y xs f)) (λ (e : x ≡ y). inr e) (contains-snoc xs x y d))
    (contains_cases z y (xs ++ x ∷ []) c)

-- the node of an image in the list is in it
pub contains-has : (xs : List Image) (y : Image) → Contains xs y → has y.node xs ≡ true
contains-has [] y c = contains_none y c
contains-has (x ∷ xs) y c =
    ⊎_elim (λ (e : x ≡ y). subst (λ z. has z.node (x ∷ xs) ≡ true) e (or_left (eqb x.node x.node) (has x.node xs) (eqb_same x.node)))
    (λ (d : Contains xs y). or_right (eqb x.node y.node) (has y.node xs) (contains-has xs y d)) (contains_cases x y xs c)

-- and on a node of the list stands an image
pub has-contains : (n : ℕ) (xs : List Image) → has n xs ≡ true → (y : Image) × Contains xs y × (y.node ≡ n)
has-contains n [] h = not_both false h refl
has-contains n (x ∷ xs) h =
    at_or_else x.node n (λ e. (x, contains_here x xs, e))
    (λ e. let there = has-contains n xs (rw e at h) in (there.0, contains_later x (there.0) xs there.1, there.2))

rises-below : (b c : ℕ) (xs : List Image) → b ≤ c → RisesAbove load_number c xs → RisesAbove load_number b xs
rises-below b c [] le r = tt
rises-below b c (x ∷ xs) le r = let first = r.0 in (omega arith, r.1)

rises-without : (b k : ℕ) (xs : List Image) → RisesAbove load_number b xs → RisesAbove load_number b (without k xs)
rises-without b k [] r = tt
rises-without b k (x ∷ xs) r =
    let first = r.0 in
    by_cases (eqb x.node k) (λ e. rw e (rises-without b k xs (rises-below b x.load xs (omega arith) r.1)))
    (λ e. rw e (r.0, rises-without x.load k xs r.1))

rises-snoc : (b : ℕ) (xs : List Image) (x : Image) → RisesAbove load_number b xs → b < x.load → ((y : Image) → Contains xs y → y.load < x.load) → RisesAbove load_number b (xs ++ x ∷ [])
rises-snoc b [] x r lt all = (lt, tt)
rises-snoc b (y ∷ ys) x r lt all = (r.0, rises-snoc y.load ys x r.1 (all y (contains_here y ys)) (λ z c. all z (contains_later y z ys c)))

pub loaded_node : (n : ℕ) (h : List Entry) → is_new n h ≡ false → (loaded n h).node ≡ n
loaded_node n [] o = not_both true refl o
loaded_node n (Enter p ∷ past) o = loaded_node n past o
loaded_node n (Announce p seen ∷ past) o = loaded_node n past o
loaded_node n (Retire p ∷ past) o = loaded_node n past o
loaded_node n (Leave p ∷ past) o = loaded_node n past o
loaded_node n (Count ∷ past) o = loaded_node n past o
loaded_node n (Look q stamp ∷ past) o = loaded_node n past o
loaded_node n (Unload m ∷ past) o = loaded_node n past o
loaded_node n (Load m i a ∷ past) o = at_or_else m n (λ e. rw (e, eqb_same) refl) (λ e. rw e (loaded_node n past (rw e at o)))

module _ (nodes passes : ℕ) where
  -- the loads on nodes are numbered from 1 to the number of loads
  pub loaded_below : (n : ℕ) (h : List Entry) → IsLegal nodes passes h → is_new n h ≡ false → (0 < (loaded n h).load) × ((loaded n h).load ≤ loads h)
  loaded_below n [] l o = not_both true refl o
  loaded_below n (Enter p ∷ past) l o = loaded_below n past l.1 o
  loaded_below n (Announce p seen ∷ past) l o = loaded_below n past l.1 o
  loaded_below n (Retire p ∷ past) l o = loaded_below n past l.1 o
  loaded_below n (Leave p ∷ past) l o = loaded_below n past l.1 o
  loaded_below n (Count ∷ past) l o = loaded_below n past l.1 o
  loaded_below n (Look q stamp ∷ past) l o = loaded_below n past l.1 o
  loaded_below n (Unload m ∷ past) l o = loaded_below n past l.1 o
  loaded_below n (Load m i a ∷ past) l o =
      let number = l.0.3 in
      by_cases (eqb m n) (λ e. rw e (omega arith, omega arith))
      (λ e. let before = loaded_below n past l.1 (rw e at o) in rw e (before.0, omega (arith, before.1)))

  -- two nodes have different loads
  pub loaded_apart : (n m : ℕ) (h : List Entry) → IsLegal nodes passes h → is_new n h ≡ false → is_new m h ≡ false → (loaded n h).load ≡ (loaded m h).load → n ≡ m
  loaded_apart n m [] l o q same = not_both true refl o
  loaded_apart n m (Enter p ∷ past) l o q same = loaded_apart n m past l.1 o q same
  loaded_apart n m (Announce p seen ∷ past) l o q same = loaded_apart n m past l.1 o q same
  loaded_apart n m (Retire p ∷ past) l o q same = loaded_apart n m past l.1 o q same
  loaded_apart n m (Leave p ∷ past) l o q same = loaded_apart n m past l.1 o q same
  loaded_apart n m (Count ∷ past) l o q same = loaded_apart n m past l.1 o q same
  loaded_apart n m (Look p stamp ∷ past) l o q same = loaded_apart n m past l.1 o q same
  loaded_apart n m (Unload k ∷ past) l o q same = loaded_apart n m past l.1 o q same
  loaded_apart n m (Load k i a ∷ past) l o q same =
      let number = l.0.3 in
      by_cases (eqb k n)
      (λ e. by_cases (eqb k m) (λ f. sym (eqb-true k n e) ∙ eqb-true k m f)
      (λ f. let s : i ≡ (loaded m past).load = rw (e, f) at same in absurd (omega (arith, (loaded_below m past l.1 (rw f at q)).1, s))))
      (λ e. by_cases (eqb k m)
      (λ f. let s : (loaded n past).load ≡ i = rw (e, f) at same in absurd (omega (arith, (loaded_below n past l.1 (rw e at o)).1, s)))
      (λ f. loaded_apart n m past l.1 (rw e at o) (rw f at q) (rw (e, f) at same)))

  -- an image of the list is the one loaded last on its node
  pub listed_loaded : (y : Image) (h : List Entry) → IsLegal nodes passes h → Contains (live h) y → loaded y.node h ≡ y
  listed_loaded y [] l c = contains_none y c
  listed_loaded y (Enter p ∷ past) l c = listed_loaded y past l.1 c
  listed_loaded y (Announce p seen ∷ past) l c = listed_loaded y past l.1 c
  listed_loaded y (Retire p ∷ past) l c = listed_loaded y past l.1 c
  listed_loaded y (Leave p ∷ past) l c = listed_loaded y past l.1 c
  listed_loaded y (Count ∷ past) l c = listed_loaded y past l.1 c
  listed_loaded y (Look q stamp ∷ past) l c = listed_loaded y past l.1 c
  listed_loaded y (Unload m ∷ past) l c = listed_loaded y past l.1 (contains-without m (live past) y c)
  listed_loaded y (Load m i a ∷ past) l c =
      let x : Image = record { node = m; load = i; header = a } in
      ⊎_elim
      (λ (d : Contains (live past) y).
      by_cases (eqb m y.node) (λ e. not_both (has m (live past)) (subst (λ n. has n (live past) ≡ true) (sym (eqb-true m y.node e)) (contains-has (live past) y d)) (free_absent passes m past l.0.2))
      (λ e. rw e (listed_loaded y past l.1 d)))
      (λ (e : x ≡ y). subst (λ z. loaded z.node (Load m i a ∷ past) ≡ z) e (rw eqb_same refl))
      (contains-snoc (live past) x y c)

  pub listed_below : (y : Image) (h : List Entry) → IsLegal nodes passes h → Contains (live h) y → y.load ≤ loads h
  listed_below y h l c =
      let same = listed_loaded y h l c in
      let below = (loaded_below y.node h l (listed_old y.node h (contains-has (live h) y c))).1 in
      subst (λ z. z.load ≤ loads h) same below

  -- load numbers rise along the list
  pub live_rises : (h : List Entry) → IsLegal nodes passes h → RisesAbove load_number 0 (live h)
  live_rises [] l = tt
  live_rises (Enter p ∷ past) l = live_rises past l.1
  live_rises (Announce p seen ∷ past) l = live_rises past l.1
  live_rises (Retire p ∷ past) l = live_rises past l.1
  live_rises (Leave p ∷ past) l = live_rises past l.1
  live_rises (Count ∷ past) l = live_rises past l.1
  live_rises (Look q stamp ∷ past) l = live_rises past l.1
  live_rises (Unload m ∷ past) l = rises-without 0 m (live past) (live_rises past l.1)
  live_rises (Load m i a ∷ past) l =
      let number = l.0.3 in
      rises-snoc 0 (live past) (record { node = m; load = i; header = a }) (live_rises past l.1) (omega arith) (λ y c. omega (arith, listed_below y past l.1 c))

  -- and along each list that the history had
  pub list_after_rises : (h : List Entry) → IsLegal nodes passes h → (j : ℕ) → RisesAbove load_number 0 (list_after h j)
  list_after_rises [] l j = tt
  list_after_rises (e ∷ past) l j =
      cond_both (leb (changes (e ∷ past)) j) (live (e ∷ past)) (list_after past j) (λ (xs : List Image). RisesAbove load_number 0 xs) (λ t. live_rises (e ∷ past) l) (λ t. list_after_rises past l.1 j)
