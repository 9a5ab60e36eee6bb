-- What each pass has let go of is told by its bound, after each entry.
use Rattle.std.proofs.Common.{◌≡◌, ℕ, zero, suc, ◌+◌, ◌<◌, ◌≤◌, List, [], ◌∷◌, length, get_or, set, true, false, cond, ◌||◌, ◌&&◌, eqb, ltb, refl, sym, ap, ◌∙◌, subst, arith, length-set, get_or-set_same, get_or-set_other, replicate, drop, drop-cons}
use Rattle.std.proofs.lemmas.Bool.{lt-ltb, le-ltb, ltb-true, ltb-false, eqb-true, eqb-false, cond_both}
use Rattle.plcr_machine.specs.declared.entry.Entry.{Entry}
use Rattle.plcr_machine.specs.declared.entry.Entry.TheVariants.{Announce, Enter, Leave, Retire, Load, Unload, Count, Look}
use Rattle.plcr_machine.specs.Nodes.{is_removed, counts_before, is_let_go, is_cleared, lets_go}
use Rattle.plcr_machine.specs.Passes.{counts, owes_count, stamp_of, IsPaced, all_under}
use Rattle.plcr_machine.specs.Histories.{IsLegal}
use Rattle.plcr_machine.specs.Parts.{owner_entries}
use Rattle.plcr_machine.proofs.Cases.{by_cases, eqb_same, not_both}
use Rattle.plcr_machine.proofs.Insiders.{stamp_few}
use Rattle.plcr_machine.proofs.Under.{all_under-each, all_under-from, all_under-same}
use Rattle.plcr_nodes.proofs.Known.{counts_same, removed_same, before_same, let_go_same}
use Rattle.plcr_imagelist.specs.inner.Keeping.{AreBounds, bound_of, higher, least_from}

-- at rest, each unload was counted
before_counted : (n : ℕ) (h : List Entry) → IsPaced h → is_removed n h ≡ true → counts_before n h + cond (owes_count h) 0 1 ≤ counts h
before_counted n [] p r = not_both false r refl
before_counted n (Announce q s ∷ past) p r = before_counted n past p r
before_counted n (Enter q ∷ past) p r = before_counted n past p r
before_counted n (Leave q ∷ past) p r = before_counted n past p r
before_counted n (Retire q ∷ past) p r = before_counted n past p r
before_counted n (Load k i a ∷ past) p r =
    by_cases (eqb k n)
    (λ e. let no : false ≡ true = rw e at r in not_both false no refl)
    (λ e. let was : is_removed n past ≡ true = rw e at r in let m = before_counted n past p.1 was in omega arith)
before_counted n (Unload k ∷ past) p r =
    by_cases (eqb k n)
    (λ e. rw e (omega arith))
    (λ e. let was : is_removed n past ≡ true = rw e at r in let m = before_counted n past p.1 was in rw e (omega arith))
before_counted n (Count ∷ past) p r = let m = before_counted n past p.1 r in omega arith
before_counted n (Look w x ∷ past) p r = before_counted n past p r

before_rest : (n : ℕ) (h : List Entry) → IsPaced h → owes_count h ≡ false → is_removed n h ≡ true → counts_before n h < counts h
before_rest n h p owes r = let m = before_counted n h p r in let m' : counts_before n h + 1 ≤ counts h = rw owes at m in omega arith

-- entries of others
pub bounds_seen : (passes : ℕ) (past h : List Entry) (bounds : List ℕ) → owner_entries past ≡ owner_entries h → AreBounds passes h bounds → AreBounds passes past bounds
bounds_seen passes past h bounds own b = record {
  wide = b.wide;
  most = λ p below. subst (λ n. get_or bounds p 0 ≤ suc n) (sym (counts_same past h own)) (b.most p below);
  told = λ p n below r. let_go_same p n past h own ∙ b.told p n below (sym (removed_same n past h own) ∙ r) ∙ ap (λ k. ltb (suc k) (get_or bounds p 0)) (sym (before_same n past h own));
}

-- a load, an unload and a count
pub bounds_loaded : (passes node load header : ℕ) (past : List Entry) (bounds : List ℕ) → AreBounds passes past bounds → AreBounds passes (Load node load header ∷ past) bounds
bounds_loaded passes node load header past bounds b = record {
  wide = b.wide;
  most = b.most;
  told = λ p n below r.
      by_cases (eqb node n)
      (λ e. let no : false ≡ true = rw e at r in not_both false no refl)
      (λ e. let was : is_removed n past ≡ true = rw e at r in rw e (b.told p n below was));
}

pub bounds_unloaded : (passes node : ℕ) (past : List Entry) (bounds : List ℕ) → AreBounds passes past bounds → AreBounds passes (Unload node ∷ past) bounds
bounds_unloaded passes node past bounds b = record {
  wide = b.wide;
  most = b.most;
  told = λ p n below r.
      by_cases (eqb node n)
      (λ e. rw e (sym (le-ltb (suc (counts past)) (get_or bounds p 0) (b.most p below))))
      (λ e. let was : is_removed n past ≡ true = rw e at r in rw e (b.told p n below was));
}

pub bounds_counted : (passes : ℕ) (past : List Entry) (bounds : List ℕ) → AreBounds passes past bounds → AreBounds passes (Count ∷ past) bounds
bounds_counted passes past bounds b = record {
  wide = b.wide;
  most = λ p below. let m = b.most p below in omega arith;
  told = b.told;
}

-- a look at a pass
or-higher : (k a b : ℕ) → (ltb k b || ltb k a) ≡ ltb k (higher a b)
or-higher k a b =
    by_cases (ltb a b)
    (λ t. let above = ltb-true a b t in
    by_cases (ltb k b)
    (λ u. rw (t, u) refl)
    (λ u. let no = ltb-false k b u in let v : ltb k a ≡ false = le-ltb k a (omega arith) in rw (t, u, v) refl))
    (λ t. let below = ltb-false a b t in
    by_cases (ltb k b)
    (λ u. let yes = ltb-true k b u in let v : ltb k a ≡ true = lt-ltb k a (omega arith) in rw (t, u, v) refl)
    (λ u. rw (t, u) refl))

higher_left : (a b : ℕ) → a ≤ higher a b
higher_left a b = cond_both (ltb a b) b a (λ x. a ≤ x) (λ e. omega (arith, ltb-true a b e)) (λ e. omega arith)

higher_right : (a b : ℕ) → b ≤ higher a b
higher_right a b = cond_both (ltb a b) b a (λ x. b ≤ x) (λ e. omega arith) (λ e. omega (arith, ltb-false a b e))

higher_most : (a b m : ℕ) → a ≤ m → b ≤ m → higher a b ≤ m
higher_most a b m l r = cond_both (ltb a b) b a (λ x. x ≤ m) (λ e. r) (λ e. l)

bound_most : (v counted : ℕ) → v ≤ suc counted → bound_of v counted ≤ suc counted
bound_most v counted m = cond_both (eqb v 0) (suc counted) v (λ x. x ≤ suc counted) (λ e. omega arith) (λ e. m)

let_go-bound : (before v bound counted : ℕ) → before < counted → (lets_go before v || ltb (suc before) bound) ≡ ltb (suc before) (higher bound (bound_of v counted))
let_go-bound before v bound counted rest =
    by_cases (eqb v 0)
    (λ e. let up = higher_right bound (suc counted) in
    rw e (sym (lt-ltb (suc before) (higher bound (suc counted)) (omega arith))))
    (λ e. rw e (or-higher (suc before) bound v))

pub bounds_looked : (nodes passes q v : ℕ) (past : List Entry) (bounds : List ℕ) → IsLegal nodes passes past → q < passes → v ≡ stamp_of q past → IsPaced past → owes_count past ≡ false
    → AreBounds passes past bounds → AreBounds passes (Look q v ∷ past) (set bounds q (higher (get_or bounds q 0) (bound_of v (counts past))))
bounds_looked nodes passes q v past bounds legal pass is paced owes b =
    let bound : ℕ = bound_of v (counts past) in
    let to : ℕ = higher (get_or bounds q 0) bound in
    let here : q < length bounds = subst (λ n. q < n) (sym b.wide) pass in
    let few = stamp_few nodes passes q past legal in
    let small : v ≤ suc (counts past) = omega (arith, few, is) in
    let same : get_or (set bounds q to) q 0 ≡ to = get_or-set_same bounds q to 0 here in
    let other : (p : ℕ) → eqb q p ≡ false → get_or (set bounds q to) p 0 ≡ get_or bounds p 0 = λ p e. get_or-set_other bounds q p to 0 (λ s. eqb-false q p e (sym s)) in
    record {
      wide = length-set bounds q to ∙ b.wide;
      most = λ p below.
          by_cases (eqb q p)
          (λ e. subst (λ i. get_or (set bounds q to) i 0 ≤ suc (counts past)) (eqb-true q p e)
          (subst (λ x. x ≤ suc (counts past)) (sym same) (higher_most (get_or bounds q 0) bound (suc (counts past)) (b.most q pass) (bound_most v (counts past) small))))
          (λ e. subst (λ x. x ≤ suc (counts past)) (sym (other p e)) (b.most p below));
      told = λ p n below r.
          let k : ℕ = suc (counts_before n past) in
          by_cases (eqb q p)
          (λ e. let m = eqb-true q p e in
          subst (λ i. is_let_go i n (Look q v ∷ past) ≡ ltb k (get_or (set bounds q to) i 0)) m
          (ap (λ t. (t && lets_go (counts_before n past) v) || is_let_go q n past) (eqb_same q)
          ∙ ap (λ t. lets_go (counts_before n past) v || t) (b.told q n pass r)
          ∙ let_go-bound (counts_before n past) v (get_or bounds q 0) (counts past) (before_rest n past paced owes r)
          ∙ ap (ltb k) (sym same)))
          (λ e. rw e (b.told p n below r ∙ ap (ltb k) (sym (other p e))));
    }

-- a list that was just opened
get_or-zeros : (n p : ℕ) → get_or {A = ℕ} (replicate {A = ℕ} n 0) p 0 ≡ 0
get_or-zeros zero p = refl
get_or-zeros (suc n) zero = refl
get_or-zeros (suc n) (suc p) = get_or-zeros n p

length-zeros : (n : ℕ) → length {A = ℕ} (replicate {A = ℕ} n 0) ≡ n
length-zeros zero = refl
length-zeros (suc n) = ap suc (length-zeros n)

pub bounds_opened : (passes : ℕ) → AreBounds passes [] (replicate {A = ℕ} passes 0)
bounds_opened passes = record {
  wide = length-zeros passes;
  most = λ p below. let z = get_or-zeros passes p in omega (arith, z);
  told = λ p n below r. not_both false r refl;
}

-- the least bound is below each of them, and not below what is below all
least_most : (d : ℕ) (xs : List ℕ) → least_from d xs ≤ d
least_most d [] = omega arith
least_most d (x ∷ xs) =
    let m = least_most (cond (ltb x d) x d) xs in
    let l = cond_both (ltb x d) x d (λ y. y ≤ d) (λ e. omega (arith, ltb-true x d e)) (λ e. omega arith) in
    omega arith

least_each : (d : ℕ) (xs : List ℕ) (p : ℕ) → p < length xs → least_from d xs ≤ get_or xs p 0
least_each d [] p below = absurd (omega arith)
least_each d (x ∷ xs) zero below =
    let m = least_most (cond (ltb x d) x d) xs in
    let l = cond_both (ltb x d) x d (λ y. y ≤ x) (λ e. omega arith) (λ e. omega (arith, ltb-false x d e)) in
    omega arith
least_each d (x ∷ xs) (suc p) below = least_each (cond (ltb x d) x d) xs p (omega arith)

least_above : (k d : ℕ) (xs : List ℕ) → k < d → ((p : ℕ) → p < length xs → k < get_or xs p 0) → k < least_from d xs
least_above k d [] l a = l
least_above k d (x ∷ xs) l a =
    least_above k (cond (ltb x d) x d) xs (cond_both (ltb x d) x d (λ y. k < y) (λ e. a 0 (omega arith)) (λ e. l)) (λ p below. a (suc p) (omega arith))

-- so a removed node was let go by all passes just where it was taken out below the least
pub cleared_least : (passes n d : ℕ) (h : List Entry) (bounds : List ℕ) → AreBounds passes h bounds → is_removed n h ≡ true → suc (counts_before n h) < d
    → is_cleared passes n h ≡ ltb (suc (counts_before n h)) (least_from d bounds)
cleared_least passes n d h bounds b r small =
    let k : ℕ = suc (counts_before n h) in
    let all : is_cleared passes n h ≡ all_under (λ p. ltb k (get_or bounds p 0)) passes =
    all_under-same (λ p. is_let_go p n h) (λ p. ltb k (get_or bounds p 0)) passes (λ p below. b.told p n below r) in
    all ∙ by_cases (all_under (λ p. ltb k (get_or bounds p 0)) passes)
    (λ t. t ∙ sym (lt-ltb k (least_from d bounds) (least_above k d bounds small (λ p below.
    ltb-true k (get_or bounds p 0) (all_under-each (λ q. ltb k (get_or bounds q 0)) passes p t (subst (λ m. p < m) b.wide below))))))
    (λ f. by_cases (ltb k (least_from d bounds))
    (λ t. let below = ltb-true k (least_from d bounds) t in
    not_both (all_under (λ p. ltb k (get_or bounds p 0)) passes)
    (all_under-from (λ p. ltb k (get_or bounds p 0)) passes (λ p under. let at = least_each d bounds p (subst (λ m. p < m) (sym b.wide) under) in lt-ltb k (get_or bounds p 0) (omega arith))) f)
    (λ t. f ∙ sym t))

-- one more bound was looked at
least_at : (d i x : ℕ) (xs : List ℕ) → x ≡ get_or xs i x → i < length xs → least_from d (drop i xs) ≡ least_from (cond (ltb x d) x d) (drop (suc i) xs)
least_at d i x xs is below = ap (least_from d) (drop-cons xs i x below) ∙ ap (λ y. least_from (cond (ltb y d) y d) (drop (suc i) xs)) (sym is)

pub least_lower : (d i x : ℕ) (xs : List ℕ) → x ≡ get_or xs i x → i < length xs → x < d → least_from x (drop (i + 1) xs) ≡ least_from d (drop i xs)
least_lower d i x xs is below here =
    let e : i + 1 ≡ suc i = omega arith in
    ap (λ j. least_from x (drop j xs)) e ∙ sym (least_at d i x xs is below ∙ ap (λ b. least_from (cond b x d) (drop (suc i) xs)) (lt-ltb x d here))

pub least_same : (d i x : ℕ) (xs : List ℕ) → x ≡ get_or xs i x → i < length xs → d ≤ x → least_from d (drop (i + 1) xs) ≡ least_from d (drop i xs)
least_same d i x xs is below here =
    let e : i + 1 ≡ suc i = omega arith in
    ap (λ j. least_from d (drop j xs)) e ∙ sym (least_at d i x xs is below ∙ ap (λ b. least_from (cond b x d) (drop (suc i) xs)) (le-ltb x d here))

pub least_all : (d : ℕ) (xs : List ℕ) (i : ℕ) → length xs ≤ i → least_from d (drop i xs) ≡ d
least_all d [] zero h = refl
least_all d [] (suc i) h = refl
least_all d (x ∷ xs) zero h = absurd (omega arith)
least_all d (x ∷ xs) (suc i) h = least_all d xs i (omega arith)
