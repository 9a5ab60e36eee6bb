-- A node that a pass may still reach is not free, so it is not loaded.
use Rattle.std.proofs.Common.{◌≡◌, ℕ, suc, ◌<◌, ◌≤◌, List, [], ◌∷◌, true, false, ◌||◌, ◌&&◌, eqb, refl, sym, ⊎_elim, arith, le_refl, subst, ne_eqb}
use Rattle.std.proofs.lemmas.Bool.{or_cases, or_right, and_parts, le-ltb, lt-ltb, ltb-true, false_from_ne_true}
use Rattle.plcr_machine.specs.declared.entry.Entry.{Entry}
use Rattle.plcr_machine.specs.declared.entry.Entry.TheVariants.{Announce, Enter, Leave, Retire, Load, Unload, Count, Look}
use Rattle.plcr_machine.specs.Lists.{has, live}
use Rattle.plcr_machine.specs.Passes.{is_inside, is_announced, seen_by, stamp_of, counts}
use Rattle.plcr_machine.specs.Nodes.{is_new, is_removed, lets_go, counts_before, is_let_go, is_cleared, is_free, unloaded_at}
use Rattle.plcr_machine.specs.Histories.{IsLegal}
use Rattle.plcr_machine.specs.Holds.{may_reach, IsKept}
use Rattle.plcr_machine.proofs.Cases.{by_cases, at_or_else, or-true, not_both}
use Rattle.plcr_machine.proofs.Under.{all_under-each, all_under-more}
use Rattle.plcr_machine.proofs.Freedom.{listed_old, listed_kept, removed_old, unloaded_at-most}
use Rattle.plcr_machine.proofs.Insiders.{inside_announced, inside_below, seen_few}

pub reach_inside : (p n : ℕ) (h : List Entry) → may_reach p n h ≡ true → is_inside p h ≡ true
reach_inside p n [] r = not_both false r refl
reach_inside p n (e ∷ past) r = (and_parts (is_inside p (e ∷ past)) (has n (live (e ∷ past)) || may_reach p n past) r).0

-- a node in the list can be reached from inside
pub reach_listed : (p n : ℕ) (h : List Entry) → is_inside p h ≡ true → has n (live h) ≡ true → may_reach p n h ≡ true
reach_listed p n [] i e = not_both false i refl
reach_listed p n (e ∷ past) i h = rw (i, h) refl

-- what holds of a node that a pass inside may reach: it was loaded, and since it was removed the pass has not let go
-- of it, having announced no more counts than there were then
abbrev pub IsHeldBy : ℕ → ℕ → List Entry → Type 0
IsHeldBy p n h = (is_new n h ≡ false) × (is_removed n h ≡ true → (is_let_go p n h ≡ false) × (seen_by p h ≤ counts_before n h))

-- such a node is not free
held_busy : (passes p n : ℕ) (h : List Entry) → p < passes → IsHeldBy p n h → is_free passes n h ≡ false
held_busy passes p n h lt k =
    by_cases (is_removed n h)
    (λ r. rw (k.0, r) (false_from_ne_true (is_cleared passes n h) (λ c. not_both (is_let_go p n h) (all_under-each (λ q. is_let_go q n h) passes p c lt) (k.1 r).0)))
    (λ r. rw (k.0, r) refl)

-- the stamp of a pass lets go of nothing that was unloaded when there were as many counts as it announced, or more
own_stamp : (p before : ℕ) (past : List Entry) → is_announced p past ≡ true → seen_by p past ≤ before → lets_go before (stamp_of p past) ≡ false
own_stamp p before past a le =
    let some : eqb (suc (seen_by p past)) 0 ≡ false = ne_eqb (suc (seen_by p past)) 0 (λ z. omega arith) in
    rw (a, some) (le-ltb (suc before) (suc (seen_by p past)) (omega (arith, le)))

module _ (nodes passes : ℕ) where
  -- a look of any stamp lets go of nothing that a pass inside holds
  still_kept : (p n q stamp : ℕ) (past : List Entry) → IsLegal nodes passes (Look q stamp ∷ past) → is_inside p past ≡ true → is_let_go p n past ≡ false → seen_by p past ≤ counts_before n past
      → is_let_go p n (Look q stamp ∷ past) ≡ false
  still_kept p n q stamp past l i go le =
      at_or_else q p
      (λ d. let found : stamp ≡ stamp_of p past = subst (λ k. stamp ≡ stamp_of k past) d l.0.1 in
      let holds : lets_go (counts_before n past) stamp ≡ false = subst (λ v. lets_go (counts_before n past) v ≡ false) (sym found) (own_stamp p (counts_before n past) past (inside_announced nodes passes p past l.1 i) le) in
      rw (holds, go) (by_cases (eqb q p) (λ e. rw e refl) (λ e. rw e refl)))
      (λ d. rw d go)

  -- a step after which a pass is still inside leaves what it holds
  still_held : (p n : ℕ) (e : Entry) (past : List Entry) → IsLegal nodes passes (e ∷ past) → is_inside p (e ∷ past) ≡ true → is_inside p past ≡ true → IsHeldBy p n past → IsHeldBy p n (e ∷ past)
  still_held p n (Announce q seen) past l i was k =
      at_or_else q p (λ d. not_both (is_announced p past) (inside_announced nodes passes p past l.1 was) (subst (λ m. is_announced m past ≡ false) d l.0.1))
      (λ d. (k.0, λ r. ((k.1 r).0, rw d ((k.1 r).1))))
  still_held p n (Enter q) past l i was k = k
  still_held p n (Leave q) past l i was k = k
  still_held p n (Retire q) past l i was k = k
  still_held p n Count past l i was k = k
  still_held p n (Look q stamp) past l i was k = (k.0, λ r. (still_kept p n q stamp past l was (k.1 r).0 (k.1 r).1, (k.1 r).1))
  still_held p n (Load m j a) past l i was k =
      at_or_else m n
      (λ d. not_both (is_free passes n past) (subst (λ t. is_free passes t past ≡ true) d l.0.2) (held_busy passes p n past (inside_below nodes passes p past l.1 was) k))
      (λ d. rw d (k.0, λ r. k.1 r))
  still_held p n (Unload m) past l i was k =
      by_cases (eqb m n) (λ d. rw d (k.0, λ r. (refl, seen_few nodes passes p past l.1))) (λ d. rw d (k.0, λ r. k.1 r))

  reach_held : (p n : ℕ) (h : List Entry) → IsLegal nodes passes h → may_reach p n h ≡ true → IsHeldBy p n h
  reach_held p n [] l r = not_both false r refl
  reach_held p n (e ∷ past) l r =
      let parts = and_parts (is_inside p (e ∷ past)) (has n (live (e ∷ past)) || may_reach p n past) r in
      ⊎_elim (λ (here : has n (live (e ∷ past)) ≡ true). (listed_old n (e ∷ past) here, λ gone. not_both (is_removed n (e ∷ past)) gone (listed_kept n (e ∷ past) here)))
      (λ (before : may_reach p n past ≡ true). still_held p n e past l parts.0 (reach_inside p n past before) (reach_held p n past l.1 before))
      (or_cases (has n (live (e ∷ past))) (may_reach p n past) parts.1)

  -- what a pass may still reach is not free
  pub reach_busy : (p n : ℕ) (h : List Entry) → IsLegal nodes passes h → may_reach p n h ≡ true → is_free passes n h ≡ false
  reach_busy p n h l r = held_busy passes p n h (inside_below nodes passes p h l (reach_inside p n h r)) (reach_held p n h l r)

  pub free_beyond : (p n : ℕ) (h : List Entry) → IsLegal nodes passes h → is_free passes n h ≡ true → may_reach p n h ≡ false
  free_beyond p n h l f = false_from_ne_true (may_reach p n h) (λ r. not_both (is_free passes n h) f (reach_busy p n h l r))

  -- a legal history is kept
  pub legal_kept : (h : List Entry) → IsLegal nodes passes h → IsKept h
  legal_kept [] l = tt
  legal_kept (Enter q ∷ past) l = legal_kept past l.1
  legal_kept (Announce q seen ∷ past) l = legal_kept past l.1
  legal_kept (Retire q ∷ past) l = legal_kept past l.1
  legal_kept (Leave q ∷ past) l = legal_kept past l.1
  legal_kept (Count ∷ past) l = legal_kept past l.1
  legal_kept (Look q stamp ∷ past) l = legal_kept past l.1
  legal_kept (Unload m ∷ past) l = legal_kept past l.1
  legal_kept (Load m i a ∷ past) l = ((λ p. free_beyond p m past l.1 l.0.2), legal_kept past l.1)

-- an unload of a node was at most so many counts ago
pub before_most : (n : ℕ) (h : List Entry) → counts_before n h ≤ counts h
before_most n [] = omega arith
before_most n (Announce q seen ∷ past) = before_most n past
before_most n (Enter q ∷ past) = before_most n past
before_most n (Leave q ∷ past) = before_most n past
before_most n (Retire q ∷ past) = before_most n past
before_most n (Count ∷ past) = omega (arith, before_most n past)
before_most n (Look q stamp ∷ past) = before_most n past
before_most n (Load m i x ∷ past) = before_most n past
before_most n (Unload m ∷ past) = by_cases (eqb m n) (λ d. rw d (le_refl (counts past))) (λ d. rw d (before_most n past))

-- of two removed nodes, the one removed later was removed after no fewer counts
pub before_later : (a b : ℕ) (h : List Entry) → is_removed a h ≡ true → is_removed b h ≡ true → unloaded_at a h ≤ unloaded_at b h → counts_before a h ≤ counts_before b h
before_later a b [] ra rb le = not_both false ra refl
before_later a b (Announce q seen ∷ past) ra rb le = before_later a b past ra rb le
before_later a b (Enter q ∷ past) ra rb le = before_later a b past ra rb le
before_later a b (Leave q ∷ past) ra rb le = before_later a b past ra rb le
before_later a b (Retire q ∷ past) ra rb le = before_later a b past ra rb le
before_later a b (Count ∷ past) ra rb le = before_later a b past ra rb le
before_later a b (Look q stamp ∷ past) ra rb le = before_later a b past ra rb le
before_later a b (Load m i x ∷ past) ra rb le =
    by_cases (eqb m a) (λ d. not_both false (rw d at ra) refl)
    (λ d. by_cases (eqb m b) (λ f. not_both false (rw f at rb) refl)
    (λ f. before_later a b past (rw d at ra) (rw f at rb) le))
before_later a b (Unload m ∷ past) ra rb le =
    by_cases (eqb m b)
    (λ f. by_cases (eqb m a) (λ d. rw (f, d) (le_refl (counts past))) (λ d. rw (f, d) (before_most a past)))
    (λ f. by_cases (eqb m a) (λ d. let most = unloaded_at-most b past in let later = rw (d, f) at le in absurd (omega (arith, most, later)))
    (λ d. rw (d, f) (before_later a b past (rw d at ra) (rw f at rb) (rw (d, f) at le))))

-- a stamp that lets go of what was unloaded later lets go of what was unloaded earlier
lets_go_earlier : (a b stamp : ℕ) → a ≤ b → lets_go b stamp ≡ true → lets_go a stamp ≡ true
lets_go_earlier a b stamp le go =
    by_cases (eqb stamp 0) (λ z. rw z refl)
    (λ z. let past = ltb-true (suc b) stamp (rw z at go) in rw z (lt-ltb (suc a) stamp (omega (arith, past))))

-- and a pass that has let go of the one removed later has let go of the other
let_go_earlier : (p a b : ℕ) (h : List Entry) → is_removed a h ≡ true → is_removed b h ≡ true → unloaded_at a h ≤ unloaded_at b h → is_let_go p b h ≡ true → is_let_go p a h ≡ true
let_go_earlier p a b [] ra rb le c = not_both false ra refl
let_go_earlier p a b (Announce q seen ∷ past) ra rb le c = let_go_earlier p a b past ra rb le c
let_go_earlier p a b (Enter q ∷ past) ra rb le c = let_go_earlier p a b past ra rb le c
let_go_earlier p a b (Leave q ∷ past) ra rb le c = let_go_earlier p a b past ra rb le c
let_go_earlier p a b (Retire q ∷ past) ra rb le c = let_go_earlier p a b past ra rb le c
let_go_earlier p a b (Count ∷ past) ra rb le c = let_go_earlier p a b past ra rb le c
let_go_earlier p a b (Look q stamp ∷ past) ra rb le c =
    ⊎_elim
    (λ (now : ((eqb q p) && lets_go (counts_before b past) stamp) ≡ true).
    let parts = and_parts (eqb q p) (lets_go (counts_before b past) stamp) now in
    let go = lets_go_earlier (counts_before a past) (counts_before b past) stamp (before_later a b past ra rb le) parts.1 in
    rw (parts.0, go) refl)
    (λ (before : is_let_go p b past ≡ true). or_right ((eqb q p) && lets_go (counts_before a past) stamp) (is_let_go p a past) (let_go_earlier p a b past ra rb le before))
    (or_cases ((eqb q p) && lets_go (counts_before b past) stamp) (is_let_go p b past) c)
let_go_earlier p a b (Load m i x ∷ past) ra rb le c =
    by_cases (eqb m a) (λ d. not_both false (rw d at ra) refl)
    (λ d. by_cases (eqb m b) (λ f. not_both false (rw f at rb) refl)
    (λ f. rw d (let_go_earlier p a b past (rw d at ra) (rw f at rb) le (rw f at c))))
let_go_earlier p a b (Unload m ∷ past) ra rb le c =
    by_cases (eqb m b) (λ f. not_both false (rw f at c) refl)
    (λ f. by_cases (eqb m a) (λ d. let most = unloaded_at-most b past in let later = rw (d, f) at le in absurd (omega (arith, most, later)))
    (λ d. rw d (let_go_earlier p a b past (rw d at ra) (rw f at rb) (rw (d, f) at le) (rw f at c))))

-- of two removed nodes, where the one removed later is free, the other is too
pub frees_earlier : (nodes passes a b : ℕ) (h : List Entry) → IsLegal nodes passes h → is_removed a h ≡ true → is_removed b h ≡ true → unloaded_at a h ≤ unloaded_at b h
    → is_free passes b h ≡ true → is_free passes a h ≡ true
frees_earlier nodes passes a b h l ra rb le f =
    let old = removed_old nodes passes b h l rb in
    let c : is_cleared passes b h ≡ true = rw (old, rb) at f in
    let all = all_under-more (λ p. is_let_go p b h) (λ p. is_let_go p a h) passes (λ p lt go. let_go_earlier p a b h ra rb le go) c in
    rw (ra, all) (or-true (is_new a h))
