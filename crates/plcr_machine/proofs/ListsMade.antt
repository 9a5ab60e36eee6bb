-- The changes of a history leave its lists.
use Rattle.std.proofs.Common.{◌≡◌, ℕ, suc, ◌<◌, ◌≤◌, List, [], ◌∷◌, ◌++◌, length, true, false, eqb, leb, refl, sym, ap, ◌∙◌, subst, arith, eq-eqb, ne_eqb}
use Rattle.std.proofs.lemmas.Bool.{or_left, or_right, leb-true}
use Rattle.std.proofs.lemmas.List.{map-append}
use Rattle.plcr_machine.specs.declared.image.Image.{Image}
use Rattle.plcr_machine.specs.declared.entry.Entry.{Entry}
use Rattle.plcr_machine.specs.declared.entry.Entry.TheVariants.{Announce, Enter, Leave, Retire, Load, Unload, Count, Look}
use Rattle.plcr_machine.specs.declared.change.Named.{Named}
use Rattle.plcr_machine.specs.Lists.{has, without, live, changes, list_after}
use Rattle.plcr_machine.specs.Histories.{IsLegal}
use Rattle.plcr_machine.specs.Parts.{owner_entries}
use Rattle.plcr_machine.specs.Changes.{named, all_named, first_node, header_at, TakesFirst, changes_of, without_first, list_of, list_after_changes}
use Rattle.plcr_machine.proofs.Cases.{by_cases, not_both}
use Rattle.plcr_machine.proofs.OnNodes.{IsApart, without_absent}
use Rattle.plcr_machine.proofs.Freedom.{live_apart, live_bound}
use Rattle.plcr_machine.proofs.Growing.{list_after-now}

-- the first image with a header is in the list
first_listed : (header n : ℕ) (xs : List Image) → 0 < n → first_node header xs ≡ n → has n xs ≡ true
first_listed header n [] positive e = absurd (omega (arith, e))
first_listed header n (x ∷ xs) positive e =
    by_cases (eqb x.header header) (λ t. or_left (eqb x.node n) (has n xs) (eq-eqb x.node n (rw t at e)))
    (λ t. or_right (eqb x.node n) (has n xs) (first_listed header n xs positive (rw t at e)))

-- the list without its first image with a header, where that stands on node n
without-named : (names : List (List ℕ)) (header n : ℕ) (xs : List Image) → IsApart xs → 0 < n → first_node header xs ≡ n
    → without_first header (all_named names xs) ≡ all_named names (without n xs)
without-named names header n [] a positive e = refl
without-named names header n (x ∷ xs) a positive e =
    by_cases (eqb x.header header)
    (λ t. let here : x.node ≡ n = rw t at e in
    let absent : has n xs ≡ false = subst (λ k. has k xs ≡ false) here a.0 in
    rw (t, eq-eqb x.node n here, without_absent n xs absent) refl)
    (λ t. let later : first_node header xs ≡ n = rw t at e in
    let other : eqb x.node n ≡ false = ne_eqb x.node n (λ s. not_both (has n xs) (first_listed header n xs positive later) (subst (λ k. has k xs ≡ false) s a.0)) in
    rw (t, other) (ap (λ (l : List Named). named names x ∷ l) (without-named names header n xs a.1 positive later)))

pub changes_of-length : (names : List (List ℕ)) (h : List Entry) → length (changes_of names h) ≡ changes h
changes_of-length names [] = refl
changes_of-length names (Load n i a ∷ past) = ap suc (changes_of-length names past)
changes_of-length names (Unload n ∷ past) = ap suc (changes_of-length names past)
changes_of-length names (Announce p seen ∷ past) = changes_of-length names past
changes_of-length names (Enter p ∷ past) = changes_of-length names past
changes_of-length names (Leave p ∷ past) = changes_of-length names past
changes_of-length names (Retire p ∷ past) = changes_of-length names past
changes_of-length names (Count ∷ past) = changes_of-length names past
changes_of-length names (Look p stamp ∷ past) = changes_of-length names past

-- where an entry changes nothing, each list stays
list_after-still : (e : Entry) (past : List Entry) (j : ℕ) → changes (e ∷ past) ≡ changes past → live (e ∷ past) ≡ live past → list_after (e ∷ past) j ≡ list_after past j
list_after-still e past j few same =
    by_cases (leb (changes (e ∷ past)) j)
    (λ t. let upto : changes past ≤ j = subst (λ k. k ≤ j) few (leb-true (changes (e ∷ past)) j t) in rw t (same ∙ sym (list_after-now past j upto)))
    (λ t. rw t refl)

module _ (nodes passes : ℕ) (names : List (List ℕ)) where
  pub lists_made : (h : List Entry) → IsLegal nodes passes h → TakesFirst h → list_of (changes_of names h) ≡ all_named names (live h)
  lists_made [] l f = refl
  lists_made (Announce p seen ∷ past) l f = lists_made past l.1 f
  lists_made (Enter p ∷ past) l f = lists_made past l.1 f
  lists_made (Leave p ∷ past) l f = lists_made past l.1 f
  lists_made (Retire p ∷ past) l f = lists_made past l.1 f
  lists_made (Count ∷ past) l f = lists_made past l.1 f
  lists_made (Look p stamp ∷ past) l f = lists_made past l.1 f
  lists_made (Load n i a ∷ past) l f =
      let x : Image = record { node = n; load = i; header = a } in
      ap (λ (xs : List Named). xs ++ named names x ∷ []) (lists_made past l.1 f) ∙ sym (map-append (named names) (live past) (x ∷ []))
  lists_made (Unload n ∷ past) l f =
      ap (without_first (header_at n (live past))) (lists_made past l.1 f.1)
      ∙ without-named names (header_at n (live past)) n (live past) (live_apart nodes passes past l.1) (live_bound nodes passes n past l.1 l.0).0 f.0

  -- after each number of changes
  pub lists_after : (h : List Entry) (j : ℕ) → IsLegal nodes passes h → TakesFirst h → list_after_changes (changes_of names h) j ≡ all_named names (list_after h j)
  lists_after [] j l f = refl
  lists_after (Announce p seen ∷ past) j l f = lists_after past j l.1 f ∙ ap (all_named names) (sym (list_after-still (Announce p seen) past j refl refl))
  lists_after (Enter p ∷ past) j l f = lists_after past j l.1 f ∙ ap (all_named names) (sym (list_after-still (Enter p) past j refl refl))
  lists_after (Leave p ∷ past) j l f = lists_after past j l.1 f ∙ ap (all_named names) (sym (list_after-still (Leave p) past j refl refl))
  lists_after (Retire p ∷ past) j l f = lists_after past j l.1 f ∙ ap (all_named names) (sym (list_after-still (Retire p) past j refl refl))
  lists_after (Count ∷ past) j l f = lists_after past j l.1 f ∙ ap (all_named names) (sym (list_after-still Count past j refl refl))
  lists_after (Look p stamp ∷ past) j l f = lists_after past j l.1 f ∙ ap (all_named names) (sym (list_after-still (Look p stamp) past j refl refl))
  lists_after (Load n i a ∷ past) j l f =
      by_cases (leb (suc (changes past)) j)
      (λ t. rw (changes_of-length names past, t) (lists_made (Load n i a ∷ past) l f))
      (λ t. rw (changes_of-length names past, t) (lists_after past j l.1 f))
  lists_after (Unload n ∷ past) j l f =
      by_cases (leb (suc (changes past)) j)
      (λ t. rw (changes_of-length names past, t) (lists_made (Unload n ∷ past) l f))
      (λ t. rw (changes_of-length names past, t) (lists_after past j l.1 f.1))

-- the writer's entries tell the list
pub live-owner : (h : List Entry) → live (owner_entries h) ≡ live h
live-owner [] = refl
live-owner (Announce p seen ∷ past) = live-owner past
live-owner (Enter p ∷ past) = live-owner past
live-owner (Leave p ∷ past) = live-owner past
live-owner (Retire p ∷ past) = live-owner past
live-owner (Count ∷ past) = live-owner past
live-owner (Look p stamp ∷ past) = live-owner past
live-owner (Load n i a ∷ past) = ap (λ (xs : List Image). xs ++ record { node = n; load = i; header = a } ∷ []) (live-owner past)
live-owner (Unload n ∷ past) = ap (without n) (live-owner past)

-- and which images the unloads took
takes_owner : (h : List Entry) → TakesFirst h → TakesFirst (owner_entries h)
takes_owner [] f = f
takes_owner (Announce p seen ∷ past) f = takes_owner past f
takes_owner (Enter p ∷ past) f = takes_owner past f
takes_owner (Leave p ∷ past) f = takes_owner past f
takes_owner (Retire p ∷ past) f = takes_owner past f
takes_owner (Count ∷ past) f = takes_owner past f
takes_owner (Look p stamp ∷ past) f = takes_owner past f
takes_owner (Load n i a ∷ past) f = takes_owner past f
takes_owner (Unload n ∷ past) f = (subst (λ (xs : List Image). first_node (header_at n xs) xs ≡ n) (sym (live-owner past)) f.0, takes_owner past f.1)

owner_takes : (h : List Entry) → TakesFirst (owner_entries h) → TakesFirst h
owner_takes [] f = f
owner_takes (Announce p seen ∷ past) f = owner_takes past f
owner_takes (Enter p ∷ past) f = owner_takes past f
owner_takes (Leave p ∷ past) f = owner_takes past f
owner_takes (Retire p ∷ past) f = owner_takes past f
owner_takes (Count ∷ past) f = owner_takes past f
owner_takes (Look p stamp ∷ past) f = owner_takes past f
owner_takes (Load n i a ∷ past) f = owner_takes past f
owner_takes (Unload n ∷ past) f = (subst (λ (xs : List Image). first_node (header_at n xs) xs ≡ n) (live-owner past) f.0, owner_takes past f.1)

pub takes_same : (past h : List Entry) → owner_entries h ≡ owner_entries past → TakesFirst past → TakesFirst h
takes_same past h same f = owner_takes h (subst (λ (xs : List Entry). TakesFirst xs) (sym same) (takes_owner past f))
