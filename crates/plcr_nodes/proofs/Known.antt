-- What a seat knows of the history from its own entries, and from the owner's.
use Rattle.std.proofs.Common.{◌≡◌, ⊎_elim, ℕ, suc, ◌<◌, ◌≤◌, List, [], ◌∷◌, ◌++◌, true, false, cond, ◌||◌, ◌&&◌, eqb, refl, sym, ap, ◌∙◌, subst, arith, length}
use Rattle.std.proofs.lemmas.Bool.{cases_eq, and_parts, and_from, or_right, or_cases, cond_both}
use Rattle.plcr_machine.specs.declared.image.Image.{Image}
use Rattle.plcr_machine.specs.declared.entry.Entry.{Entry}
use Rattle.plcr_machine.specs.declared.entry.Entry.TheVariants.{Announce, Enter, Leave, Retire, Load, Unload, Count, Look}
use Rattle.plcr_machine.specs.Lists.{has, live, loads, loaded}
use Rattle.plcr_machine.specs.Nodes.{is_new, is_removed, counts_before, lets_go, is_let_go, is_free}
use Rattle.plcr_machine.specs.Passes.{is_inside, is_announced, seen_by, all_under, counts}
use Rattle.plcr_machine.specs.Histories.{IsLegal, IsHistory}
use Rattle.plcr_machine.specs.Holds.{may_reach}
use Rattle.plcr_machine.specs.Links.{after, link_of}
use Rattle.plcr_machine.specs.Parts.{own_entries, owner_entries}
use Rattle.plcr_machine.proofs.Cases.{by_cases, at_or_else, not_both}
use Rattle.plcr_machine.proofs.Freedom.{live_bound}
use Rattle.plcr_machine.proofs.Followers.{after_listed}
use Rattle.plcr_machine.proofs.Insiders.{counts_few}
use Rattle.plcr_machine.proofs.Leads.{link_here, link_before}
use Rattle.plcr_machine.proofs.ListsMade.{live-owner}
use Rattle.plcr_machine.proofs.Makers.{own_grow, own_split, announced-own}
use Rattle.plcr_machine.proofs.Reach.{reach_inside, reach_busy}
use Rattle.plcr_nodes.specs.Knowing.{StandsAsBefore}

-- whether a pass is inside is told by its own entries
pub inside-own : (p : ℕ) (h : List Entry) → is_inside p (own_entries p h) ≡ is_inside p h
inside-own p [] = refl
inside-own p (Enter q ∷ past) = by_cases (eqb q p) (λ e. rw e (rw e refl)) (λ e. rw e (inside-own p past))
inside-own p (Announce q s ∷ past) = by_cases (eqb q p) (λ e. rw e (inside-own p past)) (λ e. rw e (inside-own p past))
inside-own p (Leave q ∷ past) = by_cases (eqb q p) (λ e. rw e (rw e refl)) (λ e. rw e (inside-own p past))
inside-own p (Retire q ∷ past) = by_cases (eqb q p) (λ e. rw e (inside-own p past)) (λ e. rw e (inside-own p past))
inside-own p (Load n i a ∷ past) = inside-own p past
inside-own p (Unload n ∷ past) = inside-own p past
inside-own p (Count ∷ past) = inside-own p past
inside-own p (Look w x ∷ past) = inside-own p past

pub inside_same : (p : ℕ) (g h : List Entry) → own_entries p g ≡ own_entries p h → is_inside p g ≡ is_inside p h
inside_same p g h e = sym (inside-own p g) ∙ ap (is_inside p) e ∙ inside-own p h

-- and so is whether it is announced, and with how many counts
pub announced_same : (p : ℕ) (g h : List Entry) → own_entries p g ≡ own_entries p h → is_announced p g ≡ is_announced p h
announced_same p g h e = sym (announced-own p g) ∙ ap (is_announced p) e ∙ announced-own p h

seen-own : (p : ℕ) (h : List Entry) → seen_by p (own_entries p h) ≡ seen_by p h
seen-own p [] = refl
seen-own p (Announce q s ∷ past) = by_cases (eqb q p) (λ e. rw e (rw e refl)) (λ e. rw e (seen-own p past))
seen-own p (Enter q ∷ past) = by_cases (eqb q p) (λ e. rw e (seen-own p past)) (λ e. rw e (seen-own p past))
seen-own p (Leave q ∷ past) = by_cases (eqb q p) (λ e. rw e (seen-own p past)) (λ e. rw e (seen-own p past))
seen-own p (Retire q ∷ past) = by_cases (eqb q p) (λ e. rw e (seen-own p past)) (λ e. rw e (seen-own p past))
seen-own p (Load n i a ∷ past) = seen-own p past
seen-own p (Unload n ∷ past) = seen-own p past
seen-own p (Count ∷ past) = seen-own p past
seen-own p (Look w x ∷ past) = seen-own p past

pub seen_same : (p : ℕ) (g h : List Entry) → own_entries p g ≡ own_entries p h → seen_by p g ≡ seen_by p h
seen_same p g h e = sym (seen-own p g) ∙ ap (seen_by p) e ∙ seen-own p h

-- so a pass stands as it did
pub stands_as_before : (p : ℕ) (old all : List Entry) → own_entries p all ≡ own_entries p old → StandsAsBefore p old all
stands_as_before p old all e = record { inside = inside_same p all old e; announced = announced_same p all old e; seen = seen_same p all old e }

none_of : (xs : List Entry) → length xs ≤ 0 → xs ≡ []
none_of [] h = refl
none_of (x ∷ xs) h = absurd (omega arith)

-- an entry that is no own one of the pass leaves whether it is inside
own_step : (p : ℕ) (e : Entry) (past : List Entry) → own_entries p (e ∷ past) ≡ own_entries p past → is_inside p (e ∷ past) ≡ is_inside p past
own_step p e past s = inside_same p (e ∷ past) past s

-- what a pass may reach, it may still reach after entries that are none of its own
pub reach_grows : (p n : ℕ) (added past : List Entry) → own_entries p (added ++ past) ≡ own_entries p past → may_reach p n past ≡ true
    → may_reach p n (added ++ past) ≡ true
reach_grows p n [] past s r = r
reach_grows p n (e ∷ added) past s r =
    let t = own_split p e added past s in
    let m = reach_grows p n added past t.1 r in
    and_from (is_inside p (e ∷ added ++ past)) (has n (live (e ∷ added ++ past)) || may_reach p n (added ++ past))
    (own_step p e (added ++ past) t.0 ∙ reach_inside p n (added ++ past) m) (or_right (has n (live (e ∷ added ++ past))) (may_reach p n (added ++ past)) m)

pub no_own : (p : ℕ) (added past : List Entry) → own_entries p (added ++ past) ≡ [] → own_entries p past ≡ []
no_own p added past e = let m = own_grow p added past in let z = ap length e in none_of (own_entries p past) (omega arith)

module _ (nodes passes : ℕ) where
  -- a node that a pass may reach is one of the table's
  pub reach_bound : (p n : ℕ) (h : List Entry) → IsLegal nodes passes h → may_reach p n h ≡ true → (0 < n) × (n ≤ nodes)
  reach_bound p n [] l r = not_both false r refl
  reach_bound p n (e ∷ past) l r =
      ⊎_elim (λ here. live_bound nodes passes n (e ∷ past) l here) (λ m. reach_bound p n past l.1 m)
      (or_cases (has n (live (e ∷ past))) (may_reach p n past) (and_parts (is_inside p (e ∷ past)) (has n (live (e ∷ past)) || may_reach p n past) r).1)

  -- a link leads to a node of the table, or is the end
  pub link_bound : (n : ℕ) (h : List Entry) → IsLegal nodes passes h → link_of n h ≤ nodes
  link_bound n [] l = omega arith
  link_bound n (e ∷ past) l =
      by_cases (eqb n 0 || has n (live (e ∷ past)))
      (λ t. ⊎_elim (λ z. omega (arith, link_here n (e ∷ past) t))
      (λ some. let b = live_bound nodes passes (after 0 n (live (e ∷ past))) (e ∷ past) l (after_listed 0 n (live (e ∷ past)) some) in omega (arith, link_here n (e ∷ past) t))
      (cases_eq (after 0 n (live (e ∷ past))) 0))
      (λ t. omega (arith, link_before n e past t, link_bound n past l.1))

  loaded_step : (p n : ℕ) (e : Entry) (past : List Entry) → IsLegal nodes passes (e ∷ past) → may_reach p n past ≡ true → loaded n (e ∷ past) ≡ loaded n past
  loaded_step p n (Enter q) past l r = refl
  loaded_step p n (Announce q s) past l r = refl
  loaded_step p n (Leave q) past l r = refl
  loaded_step p n (Retire q) past l r = refl
  loaded_step p n (Load k i a) past l r =
      at_or_else k n (λ e. not_both (is_free passes n past) (subst (λ m. is_free passes m past ≡ true) e l.0.2) (reach_busy nodes passes p n past l.1 r)) (λ e. rw e refl)
  loaded_step p n (Unload k) past l r = refl
  loaded_step p n Count past l r = refl
  loaded_step p n (Look w x) past l r = refl

  -- the image on a node that a pass may reach stays
  pub loaded_grows : (p n : ℕ) (added past : List Entry) → IsLegal nodes passes (added ++ past) → own_entries p (added ++ past) ≡ own_entries p past
      → may_reach p n past ≡ true → loaded n (added ++ past) ≡ loaded n past
  loaded_grows p n [] past l s r = refl
  loaded_grows p n (e ∷ added) past l s r =
      let t = own_split p e added past s in
      loaded_step p n e (added ++ past) l (reach_grows p n added past t.1 r) ∙ loaded_grows p n added past l.1 t.1 r

  -- a node's last load is one of the loads
  pub loaded_most : (n : ℕ) (h : List Entry) → IsLegal nodes passes h → (loaded n h).load ≤ loads h
  loaded_most n [] l = omega arith
  loaded_most n (Enter q ∷ past) l = loaded_most n past l.1
  loaded_most n (Announce q s ∷ past) l = loaded_most n past l.1
  loaded_most n (Leave q ∷ past) l = loaded_most n past l.1
  loaded_most n (Retire q ∷ past) l = loaded_most n past l.1
  loaded_most n (Load k i a ∷ past) l =
      let m = loaded_most n past l.1 in let s = l.0.3 in
      cond_both (eqb k n) (record { node = k; load = i; header = a }) (loaded n past) (λ (x : Image). x.load ≤ suc (loads past)) (λ _. omega arith) (λ _. omega arith)
  loaded_most n (Unload k ∷ past) l = loaded_most n past l.1
  loaded_most n (Count ∷ past) l = loaded_most n past l.1
  loaded_most n (Look w x ∷ past) l = loaded_most n past l.1

-- the list, the free nodes and the numbers of loads and counts are told by the owner's entries
loads-owner : (h : List Entry) → loads (owner_entries h) ≡ loads h
loads-owner [] = refl
loads-owner (Enter q ∷ past) = loads-owner past
loads-owner (Announce q s ∷ past) = loads-owner past
loads-owner (Leave q ∷ past) = loads-owner past
loads-owner (Retire q ∷ past) = loads-owner past
loads-owner (Load n i a ∷ past) = ap suc (loads-owner past)
loads-owner (Unload n ∷ past) = loads-owner past
loads-owner (Count ∷ past) = loads-owner past
loads-owner (Look w x ∷ past) = loads-owner past

new-owner : (n : ℕ) (h : List Entry) → is_new n (owner_entries h) ≡ is_new n h
new-owner n [] = refl
new-owner n (Enter q ∷ past) = new-owner n past
new-owner n (Announce q s ∷ past) = new-owner n past
new-owner n (Leave q ∷ past) = new-owner n past
new-owner n (Retire q ∷ past) = new-owner n past
new-owner n (Load k i a ∷ past) = ap (cond (eqb k n) false) (new-owner n past)
new-owner n (Unload k ∷ past) = new-owner n past
new-owner n (Count ∷ past) = new-owner n past
new-owner n (Look w x ∷ past) = new-owner n past

removed-owner : (n : ℕ) (h : List Entry) → is_removed n (owner_entries h) ≡ is_removed n h
removed-owner n [] = refl
removed-owner n (Enter q ∷ past) = removed-owner n past
removed-owner n (Announce q s ∷ past) = removed-owner n past
removed-owner n (Leave q ∷ past) = removed-owner n past
removed-owner n (Retire q ∷ past) = removed-owner n past
removed-owner n (Load k i a ∷ past) = ap (cond (eqb k n) false) (removed-owner n past)
removed-owner n (Unload k ∷ past) = ap (cond (eqb k n) true) (removed-owner n past)
removed-owner n (Count ∷ past) = removed-owner n past
removed-owner n (Look w x ∷ past) = removed-owner n past

counts-owner : (h : List Entry) → counts (owner_entries h) ≡ counts h
counts-owner [] = refl
counts-owner (Announce q s ∷ past) = counts-owner past
counts-owner (Enter q ∷ past) = counts-owner past
counts-owner (Leave q ∷ past) = counts-owner past
counts-owner (Retire q ∷ past) = counts-owner past
counts-owner (Load n i a ∷ past) = counts-owner past
counts-owner (Unload n ∷ past) = counts-owner past
counts-owner (Count ∷ past) = ap suc (counts-owner past)
counts-owner (Look w x ∷ past) = counts-owner past

before-owner : (n : ℕ) (h : List Entry) → counts_before n (owner_entries h) ≡ counts_before n h
before-owner n [] = refl
before-owner n (Announce q s ∷ past) = before-owner n past
before-owner n (Enter q ∷ past) = before-owner n past
before-owner n (Leave q ∷ past) = before-owner n past
before-owner n (Retire q ∷ past) = before-owner n past
before-owner n (Load k i a ∷ past) = before-owner n past
before-owner n (Unload k ∷ past) = λ i. cond (eqb k n) (counts-owner past i) (before-owner n past i)
before-owner n (Count ∷ past) = before-owner n past
before-owner n (Look w x ∷ past) = before-owner n past

let_go-owner : (p n : ℕ) (h : List Entry) → is_let_go p n (owner_entries h) ≡ is_let_go p n h
let_go-owner p n [] = refl
let_go-owner p n (Announce q s ∷ past) = let_go-owner p n past
let_go-owner p n (Enter q ∷ past) = let_go-owner p n past
let_go-owner p n (Leave q ∷ past) = let_go-owner p n past
let_go-owner p n (Retire q ∷ past) = let_go-owner p n past
let_go-owner p n (Load k i a ∷ past) = ap (cond (eqb k n) false) (let_go-owner p n past)
let_go-owner p n (Unload k ∷ past) = ap (cond (eqb k n) false) (let_go-owner p n past)
let_go-owner p n (Count ∷ past) = let_go-owner p n past
let_go-owner p n (Look w x ∷ past) = λ i. (eqb w p && lets_go (before-owner n past i) x) || let_go-owner p n past i

free-owner : (passes n : ℕ) (h : List Entry) → is_free passes n (owner_entries h) ≡ is_free passes n h
free-owner passes n h = λ i. new-owner n h i || (removed-owner n h i && all_under (λ p. let_go-owner p n h i) passes)

pub live_same : (g h : List Entry) → owner_entries g ≡ owner_entries h → live g ≡ live h
live_same g h e = sym (live-owner g) ∙ ap live e ∙ live-owner h

pub loads_same : (g h : List Entry) → owner_entries g ≡ owner_entries h → loads g ≡ loads h
loads_same g h e = sym (loads-owner g) ∙ ap loads e ∙ loads-owner h

pub counts_same : (g h : List Entry) → owner_entries g ≡ owner_entries h → counts g ≡ counts h
counts_same g h e = sym (counts-owner g) ∙ ap counts e ∙ counts-owner h

pub free_same : (passes n : ℕ) (g h : List Entry) → owner_entries g ≡ owner_entries h → is_free passes n g ≡ is_free passes n h
free_same passes n g h e = sym (free-owner passes n g) ∙ ap (is_free passes n) e ∙ free-owner passes n h

-- a number of counts takes no more than 32 bits
pub counts_small : (nodes passes found : ℕ) (past : List Entry) (names : List (List ℕ)) → IsHistory nodes passes past names → found ≡ counts past → found < 4294967296
counts_small nodes passes found past names known is = let few = counts_few nodes passes past known.legal in omega arith

pub new_same : (n : ℕ) (g h : List Entry) → owner_entries g ≡ owner_entries h → is_new n g ≡ is_new n h
new_same n g h e = sym (new-owner n g) ∙ ap (is_new n) e ∙ new-owner n h

pub removed_same : (n : ℕ) (g h : List Entry) → owner_entries g ≡ owner_entries h → is_removed n g ≡ is_removed n h
removed_same n g h e = sym (removed-owner n g) ∙ ap (is_removed n) e ∙ removed-owner n h

pub before_same : (n : ℕ) (g h : List Entry) → owner_entries g ≡ owner_entries h → counts_before n g ≡ counts_before n h
before_same n g h e = sym (before-owner n g) ∙ ap (counts_before n) e ∙ before-owner n h

pub let_go_same : (p n : ℕ) (g h : List Entry) → owner_entries g ≡ owner_entries h → is_let_go p n g ≡ is_let_go p n h
let_go_same p n g h e = sym (let_go-owner p n g) ∙ ap (is_let_go p n) e ∙ let_go-owner p n h
