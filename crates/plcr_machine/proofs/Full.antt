-- How long the list is, and when all nodes are in it.
use Rattle.std.proofs.Common.{◌≡◌, ℕ, zero, suc, ◌-◌, ◌<◌, ◌≤◌, List, [], ◌∷◌, length, Bool, true, false, ◌&&◌, ⊎_elim, eqb, refl, sym, ap, ◌∙◌, subst, arith, ne_eqb}
use Rattle.std.proofs.lemmas.Bool.{or_right, or_left, or_cases, and_parts, eqb-false, false_from_ne_true}
use Rattle.plcr_machine.specs.declared.image.Image.{Image}
use Rattle.plcr_machine.specs.declared.entry.Entry.{Entry}
use Rattle.plcr_machine.specs.declared.entry.Entry.TheVariants.{Announce, Enter, Leave, Retire, Load, Unload, Count, Look}
use Rattle.plcr_machine.specs.Lists.{has, live}
use Rattle.plcr_machine.specs.Passes.{count_below}
use Rattle.plcr_machine.specs.Nodes.{is_new, is_removed, lets_go, counts_before, is_let_go, is_free, is_found_out}
use Rattle.plcr_machine.specs.Histories.{IsLegal}
use Rattle.plcr_machine.proofs.Cases.{eqb_same, or-true, not_both}
use Rattle.plcr_machine.proofs.Under.{all_under-from}
use Rattle.plcr_machine.proofs.OnNodes.{IsApart}
use Rattle.plcr_machine.proofs.Freedom.{busy_listed, live_apart, live_bound}
use Rattle.plcr_machine.proofs.Insiders.{count_below-more, count_below-none, count_below-most}

count_below-all : (f : ℕ → Bool) (n : ℕ) → ((k : ℕ) → k < n → f k ≡ true) → count_below f n ≡ n
count_below-all f zero all = refl
count_below-all f (suc n) all = let below = count_below-all f n (λ k h. all k (omega arith)) in rw (all n (omega arith)) (omega (arith, below))

-- a list on nodes of their own is as long as it has nodes
length-nodes : (nodes : ℕ) (xs : List Image) → IsApart xs → ((n : ℕ) → has n xs ≡ true → (0 < n) × (n ≤ nodes)) → length xs ≡ count_below (λ k. has (suc k) xs) nodes
length-nodes nodes [] a within = sym (count_below-none (λ k. false) nodes (λ k lt. refl))
length-nodes nodes (x ∷ xs) a within =
    let self = or_left (eqb x.node x.node) (has x.node xs) (eqb_same x.node) in
    let here = within x.node self in
    let p : ℕ = x.node - 1 in
    let back : suc p ≡ x.node = omega arith in
    let off : has (suc p) xs ≡ false = subst (λ n. has n xs ≡ false) (sym back) a.0 in
    let on : has (suc p) (x ∷ xs) ≡ true = subst (λ n. has n (x ∷ xs) ≡ true) (sym back) self in
    let more = count_below-more (λ k. has (suc k) xs) (λ k. has (suc k) (x ∷ xs)) p nodes (omega arith) off on
    (λ k d. let other : eqb x.node (suc k) ≡ false = ne_eqb x.node (suc k) (λ s. eqb-false p k d (omega arith)) in rw other refl) in
    ap suc (length-nodes nodes xs a.1 (λ n h. within n (or_right (eqb x.node n) (has n xs) h))) ∙ sym more

-- where a pass was found with no stamp since the last change, it has let go of each removed node
found_lets_go : (p n : ℕ) (h : List Entry) → is_found_out p h ≡ true → is_removed n h ≡ true → is_let_go p n h ≡ true
found_lets_go p n [] f r = not_both false f refl
found_lets_go p n (Announce q seen ∷ past) f r = found_lets_go p n past f r
found_lets_go p n (Enter q ∷ past) f r = found_lets_go p n past f r
found_lets_go p n (Leave q ∷ past) f r = found_lets_go p n past f r
found_lets_go p n (Retire q ∷ past) f r = found_lets_go p n past f r
found_lets_go p n (Count ∷ past) f r = found_lets_go p n past f r
found_lets_go p n (Load m i a ∷ past) f r = not_both false f refl
found_lets_go p n (Unload m ∷ past) f r = not_both false f refl
found_lets_go p n (Look q stamp ∷ past) f r =
    ⊎_elim (λ (now : ((eqb q p) && (eqb stamp 0)) ≡ true). let parts = and_parts (eqb q p) (eqb stamp 0) now in rw (parts.0, parts.1) refl)
    (λ (before : is_found_out p past ≡ true). or_right ((eqb q p) && lets_go (counts_before n past) stamp) (is_let_go p n past) (found_lets_go p n past before r))
    (or_cases ((eqb q p) && (eqb stamp 0)) (is_found_out p past) f)

-- where each pass was, a node that is not free is in the list
pub found_listed : (passes n : ℕ) (h : List Entry) → ((p : ℕ) → p < passes → is_found_out p h ≡ true) → is_free passes n h ≡ false → has n (live h) ≡ true
found_listed passes n h out b =
    busy_listed passes n h b
    (false_from_ne_true (is_removed n h)
    (λ r. let all = all_under-from (λ p. is_let_go p n h) passes (λ p lt. found_lets_go p n h (out p lt) r) in
    let f : is_free passes n h ≡ true = rw (r, all) (or-true (is_new n h)) in
    not_both (is_free passes n h) f b))

module _ (nodes passes : ℕ) where
  pub live-length : (h : List Entry) → IsLegal nodes passes h → length (live h) ≡ count_below (λ k. has (suc k) (live h)) nodes
  live-length h l = length-nodes nodes (live h) (live_apart nodes passes h l) (λ n e. live_bound nodes passes n h l e)

  -- the list is no longer than there are nodes
  pub live_few : (h : List Entry) → IsLegal nodes passes h → length (live h) ≤ nodes
  live_few h l = omega (arith, live-length h l, count_below-most (λ k. has (suc k) (live h)) nodes)

  -- and where none is free, all nodes are in it
  pub all_live : (h : List Entry) → IsLegal nodes passes h → ((p : ℕ) → p < passes → is_found_out p h ≡ true)
      → ((n : ℕ) → 0 < n → n ≤ nodes → is_free passes n h ≡ false) → length (live h) ≡ nodes
  all_live h l out none =
      live-length h l ∙ count_below-all (λ k. has (suc k) (live h)) nodes (λ k lt. found_listed passes (suc k) h out (none (suc k) (omega arith) (omega arith)))
