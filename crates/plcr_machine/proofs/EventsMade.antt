-- What the events of a history tell of it.
use Rattle.std.proofs.Common.{◌≡◌, ℕ, zero, suc, ◌+◌, ◌-◌, ◌≤◌, List, [], ◌∷◌, length, Bool, true, false, cond, not, ◌||◌, ◌&&◌, eqb, refl, sym, ap, ◌∙◌, subst, arith, ne_eqb}
use Rattle.std.proofs.lemmas.Bool.{or_right, eqb-false}
use Rattle.plcr_machine.specs.declared.entry.Entry.{Entry}
use Rattle.plcr_machine.specs.declared.entry.Entry.TheVariants.{Announce, Enter, Leave, Retire, Load, Unload, Count, Look}
use Rattle.plcr_machine.specs.declared.change.Change.{Change}
use Rattle.plcr_machine.specs.declared.change.Change.TheVariants.{Loads, Unloads}
use Rattle.plcr_machine.specs.Lists.{live, loads, name_of}
use Rattle.plcr_machine.specs.Passes.{is_inside, is_announced, seen_by, stamp_of, all_under, count_below, counts}
use Rattle.plcr_machine.specs.Nodes.{is_removed, counts_before, lets_go, is_let_go, is_cleared, is_free, waiting_count}
use Rattle.plcr_machine.specs.Histories.{IsLegal}
use Rattle.plcr_machine.specs.Holds.{before_enter}
use Rattle.plcr_machine.specs.Changes.{changes_of, header_at}
use Rattle.plcr_machine.specs.Events.{Event, Changed, Noted, events_of, changes_in, noted_in, is_looked, held_in, held, looked_at, looks}
use Rattle.plcr_machine.proofs.Cases.{by_cases, at_or_else, eqb_same, or-false}
use Rattle.plcr_machine.proofs.Under.{all_under-more, all_under-same}
use Rattle.plcr_machine.proofs.Freedom.{listed_kept, live_bound, removed_old}
use Rattle.plcr_machine.proofs.Insiders.{count_below-same, count_below-more, count_below-none}

pub events-changes : (names : List (List ℕ)) (h : List Entry) → changes_in (events_of names h) ≡ changes_of names h
events-changes names [] = refl
events-changes names (Load n i a ∷ past) = ap (λ (l : List Change). Loads (record { load = i; header = a; name = name_of i names }) ∷ l) (events-changes names past)
events-changes names (Unload n ∷ past) = ap (λ (l : List Change). Unloads (header_at n (live past)) ∷ l) (events-changes names past)
events-changes names (Announce p seen ∷ past) = events-changes names past
events-changes names (Enter p ∷ past) = events-changes names past
events-changes names (Leave p ∷ past) = events-changes names past
events-changes names (Retire p ∷ past) = events-changes names past
events-changes names (Count ∷ past) = events-changes names past
events-changes names (Look p stamp ∷ past) = events-changes names past

pub events-counts : (names : List (List ℕ)) (h : List Entry) → counts (noted_in (events_of names h)) ≡ counts h
events-counts names [] = refl
events-counts names (Count ∷ past) = ap suc (events-counts names past)
events-counts names (Load n i a ∷ past) = events-counts names past
events-counts names (Unload n ∷ past) = events-counts names past
events-counts names (Announce p seen ∷ past) = events-counts names past
events-counts names (Enter p ∷ past) = events-counts names past
events-counts names (Leave p ∷ past) = events-counts names past
events-counts names (Retire p ∷ past) = events-counts names past
events-counts names (Look p stamp ∷ past) = events-counts names past

pub events-announced : (p : ℕ) (names : List (List ℕ)) (h : List Entry) → is_announced p (noted_in (events_of names h)) ≡ is_announced p h
events-announced p names [] = refl
events-announced p names (Announce q seen ∷ past) = ap (λ b. cond (eqb q p) true b) (events-announced p names past)
events-announced p names (Retire q ∷ past) = ap (λ b. cond (eqb q p) false b) (events-announced p names past)
events-announced p names (Load n i a ∷ past) = events-announced p names past
events-announced p names (Unload n ∷ past) = events-announced p names past
events-announced p names (Enter q ∷ past) = events-announced p names past
events-announced p names (Leave q ∷ past) = events-announced p names past
events-announced p names (Count ∷ past) = events-announced p names past
events-announced p names (Look q stamp ∷ past) = events-announced p names past

pub events-seen : (p : ℕ) (names : List (List ℕ)) (h : List Entry) → seen_by p (noted_in (events_of names h)) ≡ seen_by p h
events-seen p names [] = refl
events-seen p names (Announce q seen ∷ past) = ap (λ n. cond (eqb q p) seen n) (events-seen p names past)
events-seen p names (Retire q ∷ past) = events-seen p names past
events-seen p names (Load n i a ∷ past) = events-seen p names past
events-seen p names (Unload n ∷ past) = events-seen p names past
events-seen p names (Enter q ∷ past) = events-seen p names past
events-seen p names (Leave q ∷ past) = events-seen p names past
events-seen p names (Count ∷ past) = events-seen p names past
events-seen p names (Look q stamp ∷ past) = events-seen p names past

pub events-stamp : (p : ℕ) (names : List (List ℕ)) (h : List Entry) → stamp_of p (noted_in (events_of names h)) ≡ stamp_of p h
events-stamp p names h = rw (events-announced p names h, events-seen p names h) refl

pub events-inside : (p : ℕ) (names : List (List ℕ)) (h : List Entry) → is_inside p (noted_in (events_of names h)) ≡ is_inside p h
events-inside p names [] = refl
events-inside p names (Enter q ∷ past) = ap (λ b. cond (eqb q p) true b) (events-inside p names past)
events-inside p names (Leave q ∷ past) = ap (λ b. cond (eqb q p) false b) (events-inside p names past)
events-inside p names (Load n i a ∷ past) = events-inside p names past
events-inside p names (Unload n ∷ past) = events-inside p names past
events-inside p names (Announce q seen ∷ past) = events-inside p names past
events-inside p names (Retire q ∷ past) = events-inside p names past
events-inside p names (Count ∷ past) = events-inside p names past
events-inside p names (Look q stamp ∷ past) = events-inside p names past

pub events-before : (p : ℕ) (names : List (List ℕ)) (h : List Entry) → before_enter p (noted_in (events_of names h)) ≡ noted_in (events_of names (before_enter p h))
events-before p names [] = refl
events-before p names (Enter q ∷ past) = by_cases (eqb q p) (λ d. rw d refl) (λ d. rw d (events-before p names past))
events-before p names (Leave q ∷ past) = events-before p names past
events-before p names (Load n i a ∷ past) = events-before p names past
events-before p names (Unload n ∷ past) = events-before p names past
events-before p names (Announce q seen ∷ past) = events-before p names past
events-before p names (Retire q ∷ past) = events-before p names past
events-before p names (Count ∷ past) = events-before p names past
events-before p names (Look q stamp ∷ past) = events-before p names past

-- whether a pass lets go of a node in a history or by one of some later entries
abbrev goes : ℕ → List Entry → ℕ → List Entry → Bool
goes p later n h = is_looked p (counts_before n h) later || is_let_go p n h

-- whether a node of a history waits after some later entries
abbrev waits : ℕ → List Entry → ℕ → List Entry → Bool
waits passes later n h = is_removed n h && not (all_under (λ p. goes p later n h) passes)

swapped : (a b c : Bool) → (a || (b || c)) ≡ ((b || a) || c)
swapped true true c = refl
swapped true false c = refl
swapped false true c = refl
swapped false false c = refl

module _ (nodes passes : ℕ) (names : List (List ℕ)) where
  -- a look may as well stand before the later entries
  look-waits : (later : List Entry) (n q stamp : ℕ) (past : List Entry) → waits passes later n (Look q stamp ∷ past) ≡ waits passes (Look q stamp ∷ later) n past
  look-waits later n q stamp past =
      let same = all_under-same (λ p. goes p later n (Look q stamp ∷ past)) (λ p. goes p (Look q stamp ∷ later) n past) passes
      (λ p lt. swapped (is_looked p (counts_before n past) later) ((eqb q p) && lets_go (counts_before n past) stamp) (is_let_go p n past)) in
      ap (λ b. is_removed n past && not b) same

  -- a node that is loaded did not wait
  load-waits : (later : List Entry) (m : ℕ) (past : List Entry) → IsLegal nodes passes past → is_free passes m past ≡ true → waits passes later m past ≡ false
  load-waits later m past l f =
      by_cases (is_removed m past)
      (λ r. let old = removed_old nodes passes m past l r in
      let c : is_cleared passes m past ≡ true = rw (old, r) at f in
      let all = all_under-more (λ p. is_let_go p m past) (λ p. goes p later m past) passes
      (λ p lt go. or_right (is_looked p (counts_before m past) later) (is_let_go p m past) go) c in
      rw (r, all) refl)
      (λ r. rw r refl)

  -- and does not after it; the others stay
  after-load : (later : List Entry) (k m i a : ℕ) (past : List Entry) → IsLegal nodes passes (Load m i a ∷ past) → waits passes later k (Load m i a ∷ past) ≡ waits passes later k past
  after-load later k m i a past l =
      at_or_else m k
      (λ d. let before : waits passes later k past ≡ false = subst (λ n. waits passes later n past ≡ false) d (load-waits later m past l.1 l.0.2) in
      let same : eqb m k ≡ true = subst (λ n. eqb m n ≡ true) d (eqb_same m) in
      let now : waits passes later k (Load m i a ∷ past) ≡ false = rw same refl in
      now ∙ sym before)
      (λ d. rw d refl)

  -- a node waits after its unload where it is not looked at as it should be
  unloaded : (later : List Entry) (m : ℕ) (past : List Entry) → waits passes later m (Unload m ∷ past) ≡ not (all_under (λ p. is_looked p (counts past) later) passes)
  unloaded later m past =
      let same = all_under-same (λ p. goes p later m (Unload m ∷ past)) (λ p. is_looked p (counts past) later) passes (λ p lt. rw (eqb_same m) (or-false (is_looked p (counts past) later))) in
      let removed : is_removed m (Unload m ∷ past) ≡ true = rw eqb_same refl in
      rw (removed, same) refl

  unload-count : (later : List Entry) (m : ℕ) (past : List Entry) → IsLegal nodes passes (Unload m ∷ past)
      → count_below (λ k. waits passes later (suc k) (Unload m ∷ past)) nodes
      ≡ cond (all_under (λ p. is_looked p (counts past) later) passes) 0 1 + count_below (λ k. waits passes later (suc k) past) nodes
  unload-count later m past l =
      let bound = live_bound nodes passes m past l.1 l.0 in
      let back : suc (m - 1) ≡ m = omega (arith, bound.0) in
      let kept : is_removed m past ≡ false = listed_kept m past l.0 in
      let off : waits passes later m past ≡ false = rw kept refl in
      let off' : waits passes later (suc (m - 1)) past ≡ false = subst (λ n. waits passes later n past ≡ false) (sym back) off in
      let others : (k : ℕ) → eqb (m - 1) k ≡ false → waits passes later (suc k) past ≡ waits passes later (suc k) (Unload m ∷ past) =
      λ k d. let other : eqb m (suc k) ≡ false = ne_eqb m (suc k) (λ s. eqb-false (m - 1) k d (omega (arith, s))) in rw other refl in
      by_cases (all_under (λ p. is_looked p (counts past) later) passes)
      (λ t. let on : waits passes later m (Unload m ∷ past) ≡ false = unloaded later m past ∙ ap not t in
      let same = count_below-same (λ k. waits passes later (suc k) (Unload m ∷ past)) (λ k. waits passes later (suc k) past) nodes
      (λ k lt. at_or_else (m - 1) k
      (λ e. let at : m ≡ suc k = omega (arith, back, e) in subst (λ n. waits passes later n (Unload m ∷ past) ≡ waits passes later n past) at (on ∙ sym off))
      (λ e. sym (others k e))) in
      rw t (omega (arith, same)))
      (λ t. let on : waits passes later m (Unload m ∷ past) ≡ true = unloaded later m past ∙ ap not t in
      let on' : waits passes later (suc (m - 1)) (Unload m ∷ past) ≡ true = subst (λ n. waits passes later n (Unload m ∷ past) ≡ true) (sym back) on in
      let more = count_below-more (λ k. waits passes later (suc k) past) (λ k. waits passes later (suc k) (Unload m ∷ past)) (m - 1) nodes (omega (arith, bound.0, bound.1)) off' on' others in
      rw t (omega (arith, more)))

  -- the unloads that are held back are as many as the nodes that wait
  held-waits : (later : List Entry) (h : List Entry) → IsLegal nodes passes h → held_in passes later (events_of names h) ≡ count_below (λ k. waits passes later (suc k) h) nodes
  held-waits later [] l = sym (count_below-none (λ k. false) nodes (λ k lt. refl))
  held-waits later (Announce p seen ∷ past) l = held-waits (Announce p seen ∷ later) past l.1
  held-waits later (Enter p ∷ past) l = held-waits (Enter p ∷ later) past l.1
  held-waits later (Leave p ∷ past) l = held-waits (Leave p ∷ later) past l.1
  held-waits later (Retire p ∷ past) l = held-waits (Retire p ∷ later) past l.1
  held-waits later (Count ∷ past) l = held-waits (Count ∷ later) past l.1
  held-waits later (Look q stamp ∷ past) l =
      held-waits (Look q stamp ∷ later) past l.1
      ∙ count_below-same (λ k. waits passes (Look q stamp ∷ later) (suc k) past) (λ k. waits passes later (suc k) (Look q stamp ∷ past)) nodes (λ k lt. sym (look-waits later (suc k) q stamp past))
  held-waits later (Load m i a ∷ past) l =
      held-waits later past l.1
      ∙ count_below-same (λ k. waits passes later (suc k) past) (λ k. waits passes later (suc k) (Load m i a ∷ past)) nodes (λ k lt. sym (after-load later (suc k) m i a past l))
  held-waits later (Unload m ∷ past) l =
      let before = held-waits later past l.1 in
      let now = unload-count later m past l in
      rw (events-counts names past, before) (sym now)

  pub held_waiting : (h : List Entry) → IsLegal nodes passes h → held passes (events_of names h) ≡ waiting_count nodes passes h
  held_waiting h l = held-waits [] h l

-- a new name changes no event
new_name : (nodes passes : ℕ) (name : List ℕ) (names : List (List ℕ)) (past : List Entry) → IsLegal nodes passes past → loads past ≤ length names → events_of (name ∷ names) past ≡ events_of names past
new_name nodes passes name names [] l le = refl
new_name nodes passes name names (Load n i a ∷ past) l le =
    let number = l.0.3 in
    let other : eqb i (suc (length names)) ≡ false = ne_eqb i (suc (length names)) (λ s. omega (arith, le, number, s)) in
    rw (other, new_name nodes passes name names past l.1 (omega (arith, le))) refl
new_name nodes passes name names (Unload n ∷ past) l le = ap (λ (es : List Event). Changed (Unloads (header_at n (live past))) ∷ es) (new_name nodes passes name names past l.1 le)
new_name nodes passes name names (Announce p seen ∷ past) l le = ap (λ (es : List Event). Noted (Announce p seen) ∷ es) (new_name nodes passes name names past l.1 le)
new_name nodes passes name names (Enter p ∷ past) l le = ap (λ (es : List Event). Noted (Enter p) ∷ es) (new_name nodes passes name names past l.1 le)
new_name nodes passes name names (Leave p ∷ past) l le = ap (λ (es : List Event). Noted (Leave p) ∷ es) (new_name nodes passes name names past l.1 le)
new_name nodes passes name names (Retire p ∷ past) l le = ap (λ (es : List Event). Noted (Retire p) ∷ es) (new_name nodes passes name names past l.1 le)
new_name nodes passes name names (Count ∷ past) l le = ap (λ (es : List Event). Noted Count ∷ es) (new_name nodes passes name names past l.1 le)
new_name nodes passes name names (Look p stamp ∷ past) l le = ap (λ (es : List Event). Noted (Look p stamp) ∷ es) (new_name nodes passes name names past l.1 le)

pub load_events : (nodes passes n a : ℕ) (name : List ℕ) (names : List (List ℕ)) (past : List Entry) → IsLegal nodes passes past → length names ≡ loads past
    → (events_of (name ∷ names) past ≡ events_of names past)
    × (events_of (name ∷ names) (Load n (suc (loads past)) a ∷ past) ≡ Changed (Loads (record { load = suc (loads past); header = a; name = name })) ∷ events_of names past)
load_events nodes passes n a name names past l named =
    let before = new_name nodes passes name names past l (omega (arith, named)) in
    (before, rw (named, eqb_same, before) refl)

pub look_events : (passes : ℕ) (names : List (List ℕ)) (h : List Entry) → events_of names (looked_at passes h) ≡ looks passes (events_of names h)
look_events zero names h = refl
look_events (suc p) names h =
    let before = look_events p names h in
    rw (sym before, events-stamp p names (looked_at p h)) refl
