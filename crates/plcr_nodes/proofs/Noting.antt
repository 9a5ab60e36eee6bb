-- The owner's notes of where links lead, after each of its steps.
use Rattle.std.proofs.Common.{◌≡◌, ⊎_elim, ℕ, zero, suc, ◌+◌, ◌<◌, ◌≤◌, List, [], ◌∷◌, true, false, ◌||◌, eqb, refl, sym, ap, ◌∙◌, subst, arith, length, length-set, get_or, set, get_or-set_same, get_or-set_other, ne_eqb, eq-eqb}
use Rattle.std.proofs.lemmas.Bool.{cases_eq, or_cases, or_left, or_right, eqb-false}
use Rattle.plcr_machine.specs.declared.image.Image.{Image}
use Rattle.plcr_machine.specs.declared.entry.Entry.{Entry}
use Rattle.plcr_machine.specs.declared.entry.Entry.TheVariants.{Load, Unload}
use Rattle.plcr_machine.specs.Histories.{IsLegal}
use Rattle.plcr_machine.specs.Lists.{has, without, live, loads}
use Rattle.plcr_machine.specs.Links.{after, last_place, link_of, IsPlace}
use Rattle.plcr_machine.proofs.Cases.{at_or_else, or-false, not_both}
use Rattle.plcr_machine.proofs.Freedom.{live_bound}
use Rattle.plcr_machine.proofs.OnNodes.{has-snoc, has-without, has-without_same}
use Rattle.plcr_machine.proofs.Leads.{link_here, link-load, link-loaded, link_over, link_else}
use Rattle.plcr_nodes.specs.Names.{header_in}
use Rattle.plcr_nodes.specs.Tokens.{OwnerState}
use Rattle.plcr_nodes.specs.Owning.{Follows, IsLinked, IsUnlinked}
use Rattle.plcr_nodes.specs.inner.Seats.{KnowsLinks}
use Rattle.plcr_nodes.proofs.Known.{live_same}
use Rattle.plcr_nodes.proofs.LastPlace.{last_bound}
use Rattle.plcr_nodes.proofs.UnlinkStep.{follows_same, follower_listed, link_told}

-- a number that was read within a list, whatever the default
pub read_within : (ls : List ℕ) (i x : ℕ) → i < length ls → x ≡ get_or ls i x → x ≡ get_or ls i 0
read_within [] i x h e = absurd (omega arith)
read_within (y ∷ ys) zero x h e = e
read_within (y ∷ ys) (suc i) x h e = read_within ys i x (omega arith) e

-- where the list stays, the notes stay
pub knows_same : (m n : ℕ) (g h : List Entry) (ls : List ℕ) → m ≡ n → live g ≡ live h → KnowsLinks n h ls → KnowsLinks m g ls
knows_same m n g h ls sizes same k = record {
  wide = k.wide ∙ ap (λ x. x + 1) (sym sizes);
  told = λ p place.
      let place' : (eqb p 0 || has p (live h)) ≡ true = subst (λ (l : List Image). (eqb p 0 || has p l) ≡ true) same place in
      k.told p place' ∙ link_here p h place' ∙ ap (after 0 p) (sym same) ∙ sym (link_here p g place);
}

-- a place of the list after an unload was one before it
place_before : (p node : ℕ) (h : List Entry) → IsPlace p (Unload node ∷ h) → IsPlace p h
place_before p node h place =
    ⊎_elim (λ (z : eqb p 0 ≡ true). or_left (eqb p 0) (has p (live h)) z)
    (λ (b : has p (without node (live h)) ≡ true). or_right (eqb p 0) (has p (live h))
    (at_or_else node p (λ e. not_both (has p (without node (live h))) b (subst (λ k. has p (without k (live h)) ≡ false) (sym e) (has-without_same p (live h))))
    (λ d. sym (has-without p node (live h) d) ∙ b)))
    (or_cases (eqb p 0) (has p (without node (live h))) place)

module _ (nodes passes : ℕ) where
  -- after a load, the last place leads to the new node, and that to the end
  pub knows_load : (n i a : ℕ) (h : List Entry) (ls : List ℕ) → IsLegal nodes passes (Load n i a ∷ h) → last_place 0 (live h) ≤ nodes → KnowsLinks nodes h ls
      → KnowsLinks nodes (Load n i a ∷ h) (set (set ls (last_place 0 (live h)) n) n 0)
  knows_load n i a h ls legal bound k =
      let tail : ℕ = last_place 0 (live h) in
      let inside = k.wide in let in_table = legal.0.1 in
      record {
        wide = length-set (set ls tail n) n 0 ∙ length-set ls tail n ∙ k.wide;
        told = λ p place. at_or_else n p
            (λ e. subst (λ q. get_or (set (set ls tail n) n 0) q 0 ≡ link_of q (Load n i a ∷ h)) e
            (get_or-set_same (set ls tail n) n 0 0 (omega (arith, length-set ls tail n)) ∙ sym (link-loaded nodes passes n i a h legal)))
            (λ d. let old = link-load nodes passes p n i a h legal d in
            let place' : (eqb p 0 || has p (live h)) ≡ true = rw (has-snoc p (live h) (record { node = n; load = i; header = a }), d, or-false) at place in
            get_or-set_other (set ls tail n) n p 0 0 (λ z. eqb-false n p d (sym z)) ∙
            ⊎_elim (λ (e : tail ≡ p). subst (λ q. get_or (set ls tail n) q 0 ≡ n) e (get_or-set_same ls tail n 0 (omega arith)) ∙ sym (old ∙ rw (eq-eqb tail p e) refl))
            (λ (f : tail ≡ p → ⊥). get_or-set_other ls tail p n 0 (λ z. f (sym z)) ∙ k.told p place' ∙ sym (old ∙ rw (ne_eqb tail p f) refl)) (cases_eq tail p));
      }

  -- after an unload, the place before leads to where the node led
  pub knows_unload : (before node : ℕ) (h : List Entry) (ls : List ℕ) → IsLegal nodes passes (Unload node ∷ h) → before ≤ nodes → Follows before node h → KnowsLinks nodes h ls
      → KnowsLinks nodes (Unload node ∷ h) (set ls before (link_of node h))
  knows_unload before node h ls legal bound f k =
      let x : ℕ = link_of node h in
      let inside = k.wide in
      record {
        wide = length-set ls before x ∙ k.wide;
        told = λ p place. ⊎_elim
            (λ (e : before ≡ p). subst (λ q. get_or (set ls before x) q 0 ≡ link_of q (Unload node ∷ h)) e
            (get_or-set_same ls before x 0 (omega arith) ∙ sym (link_over nodes passes before node h legal f.place f.next)))
            (λ (d : before ≡ p → ⊥). get_or-set_other ls before p x 0 (λ z. d (sym z))
            ∙ k.told p (place_before p node h place) ∙ sym (link_else nodes passes p before node h legal f.place f.next (λ z. d (sym z))))
            (cases_eq before p);
      }

-- the same for the owner before and after a step
pub knows_linked : (old : OwnerState) (tail node : ℕ) (new : OwnerState) (ls ms : List ℕ) → IsLinked old node new → IsLegal new.nodes new.passes new.history → tail ≡ last_place 0 (live old.history)
    → ms ≡ set (set ls tail node) node 0 → KnowsLinks old.nodes old.history ls → KnowsLinks new.nodes new.history ms
knows_linked old tail node new ls ms l legal last written k =
    let past : List Entry = l.past in
    let lists : live past ≡ live old.history = live_same past old.history (l.sees.added.owner refl) in
    let e : Entry = Load node (suc (loads past)) (header_in node old.filled) in
    let legal' : IsLegal old.nodes old.passes (e ∷ past) = subst (λ (s : OwnerState). IsLegal s.nodes s.passes s.history) l.now legal in
    let tail' : last_place 0 (live past) ≡ tail = ap (last_place 0) lists ∙ sym last in
    let before = knows_same old.nodes old.nodes past old.history ls refl lists k in
    let after_load = knows_load old.nodes old.passes node (suc (loads past)) (header_in node old.filled) past ls legal' (last_bound old.nodes old.passes past legal'.1) before in
    let noted : KnowsLinks old.nodes (e ∷ past) ms = subst (λ (xs : List ℕ). KnowsLinks old.nodes (e ∷ past) xs) (ap (λ t. set (set ls t node) node 0) tail' ∙ sym written) after_load in
    subst (λ (s : OwnerState). KnowsLinks s.nodes s.history ms) (sym l.now) noted

pub knows_unlinked : (old : OwnerState) (before node : ℕ) (new : OwnerState) (ls ms : List ℕ) → IsUnlinked old node new → IsLegal new.nodes new.passes new.history → before ≤ old.nodes → Follows before node old.history
    → ms ≡ set ls before (link_of node old.history) → KnowsLinks old.nodes old.history ls → KnowsLinks new.nodes new.history ms
knows_unlinked old before node new ls ms l legal bound follows written k =
    let past : List Entry = l.past in
    let lists : live past ≡ live old.history = live_same past old.history (l.sees.added.owner refl) in
    let legal' : IsLegal old.nodes old.passes (Unload node ∷ past) = subst (λ (s : OwnerState). IsLegal s.nodes s.passes s.history) l.now legal in
    let follows' : Follows before node past = follows_same before node past old.history lists follows in
    let led : link_of node past ≡ link_of node old.history = link_told node past old.history lists (follower_listed before node old.history follows) in
    let noted_before = knows_same old.nodes old.nodes past old.history ls refl lists k in
    let after_unload = knows_unload old.nodes old.passes before node past ls legal' bound follows' noted_before in
    let noted : KnowsLinks old.nodes (Unload node ∷ past) ms = subst (λ (xs : List ℕ). KnowsLinks old.nodes (Unload node ∷ past) xs) (ap (λ x. set ls before x) led ∙ sym written) after_unload in
    subst (λ (s : OwnerState). KnowsLinks s.nodes s.history ms) (sym l.now) noted

-- what the notes say of a node of the list, as it was read from them
pub noted_next : (nodes passes before node : ℕ) (h : List Entry) (ls : List ℕ) (x : ℕ) → IsLegal nodes passes h → Follows before node h → KnowsLinks nodes h ls → x ≡ get_or ls node x → x ≡ link_of node h
noted_next nodes passes before node h ls x l f k read =
    let there = follower_listed before node h f in
    let bound = live_bound nodes passes node h l there in
    let wide = k.wide in
    read_within ls node x (omega arith) read ∙ k.told node (or_right (eqb node 0) (has node (live h)) there)
