-- The removed nodes below a bound become free, and the others stay.
use Rattle.std.proofs.Common.{◌≡◌, ℕ, zero, suc, ◌+◌, ◌<◌, ◌≤◌, List, [], ◌∷◌, ◌++◌, length, Bool, true, false, cond, not, eqb, ltb, leb, filter, refl, sym, ap, ◌∙◌, arith, get_or, drop, append_assoc, add-one, drop-cons}
use Rattle.std.proofs.lemmas.Bool.{ltb-true, ltb-false, lt-ltb, le-ltb}
use Rattle.plcr_machine.specs.declared.entry.Entry.{Entry}
use Rattle.plcr_machine.specs.declared.entry.Entry.TheVariants.{Unload}
use Rattle.plcr_machine.specs.Nodes.{counts_before}
use Rattle.plcr_machine.proofs.Cases.{by_cases, eqb_same, at_or_else}
use Rattle.plcr_imagelist.specs.declared.bounds.Removed.{Removed}
use Rattle.plcr_imagelist.specs.inner.Keeping.{times, nodes_of, AreTold, is_below, is_above, let_go_below}

pub nodes_of-snoc : (rs : List Removed) (r : Removed) → nodes_of (rs ++ r ∷ []) ≡ nodes_of rs ++ r.node ∷ []
nodes_of-snoc [] r = refl
nodes_of-snoc (x ∷ rs) r = ap (λ (xs : List ℕ). x.node ∷ xs) (nodes_of-snoc rs r)

-- what is not below a bound is above it
above_below : (b k : ℕ) → leb b k ≡ not (ltb k b)
above_below b k = by_cases (ltb k b) (λ e. let below = ltb-true k b e in grind (arith, e)) (λ e. let above = ltb-false k b e in grind (arith, e))

pub times-split : (n b : ℕ) (rs : List Removed) → times n (let_go_below b rs) + times n (nodes_of (filter (is_above b) rs)) ≡ times n (nodes_of rs)
times-split n b [] = refl
times-split n b (r ∷ rs) =
    let rest = times-split n b rs in
    let is : is_above b r ≡ not (is_below b r) = above_below b (suc r.before) in
    by_cases (is_below b r)
    (λ e. let off : is_above b r ≡ false = is ∙ ap not e in rw (e, off) (omega arith))
    (λ e. let on : is_above b r ≡ true = is ∙ ap not e in rw (e, on) (omega arith))

pub length-split : (b : ℕ) (rs : List Removed) → length (let_go_below b rs) + length (filter (is_above b) rs) ≡ length rs
length-split b [] = refl
length-split b (r ∷ rs) =
    let rest = length-split b rs in
    let is : is_above b r ≡ not (is_below b r) = above_below b (suc r.before) in
    by_cases (is_below b r)
    (λ e. let off : is_above b r ≡ false = is ∙ ap not e in rw (e, off) (omega arith))
    (λ e. let on : is_above b r ≡ true = is ∙ ap not e in rw (e, on) (omega arith))

-- a node is among those let go where it was taken out below the bound
pub times-given : (n b : ℕ) (h : List Entry) (rs : List Removed) → AreTold h rs
    → times n (let_go_below b rs) ≡ cond (ltb (suc (counts_before n h)) b) (times n (nodes_of rs)) 0
times-given n b h [] t = by_cases (ltb (suc (counts_before n h)) b) (λ e. rw e refl) (λ e. rw e refl)
times-given n b h (r ∷ rs) t =
    let rest = times-given n b h rs t.1 in
    at_or_else r.node n
    (λ m.
    let here : r.before ≡ counts_before n h = t.0 ∙ ap (λ k. counts_before k h) m in
    let at : is_below b r ≡ ltb (suc (counts_before n h)) b = ap (λ k. ltb (suc k) b) here in
    let same : eqb r.node n ≡ true = ap (λ k. eqb k n) m ∙ eqb_same n in
    by_cases (ltb (suc (counts_before n h)) b)
    (λ e. let below : is_below b r ≡ true = at ∙ e in let rest' : times n (let_go_below b rs) ≡ times n (nodes_of rs) = rw e at rest in rw (below, e, same) (omega arith))
    (λ e. let below : is_below b r ≡ false = at ∙ e in let rest' : times n (let_go_below b rs) ≡ 0 = rw e at rest in rw (below, e) (omega arith)))
    (λ other.
    let both : (k : ℕ) → k ≡ cond (ltb (suc (counts_before n h)) b) (times n (nodes_of rs)) 0 → k ≡ cond (ltb (suc (counts_before n h)) b) (cond (eqb r.node n) 1 0 + times n (nodes_of rs)) 0 =
    λ k e. e ∙ ap (λ m. cond (ltb (suc (counts_before n h)) b) m 0) (rw other (omega arith)) in
    by_cases (is_below b r)
    (λ e. let one : cond (eqb r.node n) 1 0 + times n (let_go_below b rs) ≡ times n (let_go_below b rs) = rw other (omega arith) in
    rw e (both (cond (eqb r.node n) 1 0 + times n (let_go_below b rs)) (one ∙ rest)))
    (λ e. rw e (both (times n (let_go_below b rs)) rest)))

-- what was told stays so
pub told_kept : (test : Removed → Bool) (h : List Entry) (rs : List Removed) → AreTold h rs → AreTold h (filter test rs)
told_kept test h [] t = t
told_kept test h (r ∷ rs) t = by_cases (test r) (λ e. rw e (t.0, told_kept test h rs t.1)) (λ e. rw e (told_kept test h rs t.1))

pub told_seen : (past h : List Entry) → ((n : ℕ) → counts_before n past ≡ counts_before n h) → (rs : List Removed) → AreTold h rs → AreTold past rs
told_seen past h same [] t = t
told_seen past h same (r ∷ rs) t = (t.0 ∙ sym (same r.node), told_seen past h same rs t.1)

pub told_unloaded : (node : ℕ) (past : List Entry) (rs : List Removed) → times node (nodes_of rs) ≡ 0 → AreTold past rs → AreTold (Unload node ∷ past) rs
told_unloaded node past [] none t = t
told_unloaded node past (r ∷ rs) none t =
    at_or_else node r.node
    (λ m. let here : eqb r.node node ≡ true = ap (λ k. eqb r.node k) m ∙ eqb_same r.node in
    let one : 1 + times node (nodes_of rs) ≡ 0 = rw here at none in absurd (omega arith))
    (λ other. let rest : times node (nodes_of rs) ≡ 0 = omega arith in (rw other t.0, told_unloaded node past rs rest t.1))

pub told-snoc : (h : List Entry) (rs : List Removed) (r : Removed) → AreTold h rs → r.before ≡ counts_before r.node h → AreTold h (rs ++ r ∷ [])
told-snoc h [] r t e = (e, tt)
told-snoc h (x ∷ rs) r t e = (t.0, told-snoc h rs r t.1 e)

-- one more of the removed nodes was looked at
pub given_more : (bound i : ℕ) (rs : List Removed) (r : Removed) (free : List ℕ) → r ≡ get_or rs i r → i < length rs → suc r.before < bound
    → (free ++ r.node ∷ []) ++ let_go_below bound (drop (i + 1) rs) ≡ free ++ let_go_below bound (drop i rs)
given_more bound i rs r free is below here =
    let t : is_below bound r ≡ true = lt-ltb (suc r.before) bound here in
    append_assoc free (r.node ∷ []) (let_go_below bound (drop (i + 1) rs)) ∙ rw (add-one, drop-cons rs i r, sym is, t) refl

pub given_same : (bound i : ℕ) (rs : List Removed) (r : Removed) → r ≡ get_or rs i r → i < length rs → bound ≤ suc r.before
    → let_go_below bound (drop (i + 1) rs) ≡ let_go_below bound (drop i rs)
given_same bound i rs r is below here =
    let t : is_below bound r ≡ false = le-ltb (suc r.before) bound here in rw (add-one, drop-cons rs i r, sym is, t) refl

pub given_all : (bound : ℕ) (rs : List Removed) (i : ℕ) → length rs ≤ i → let_go_below bound (drop i rs) ≡ []
given_all bound [] zero h = refl
given_all bound [] (suc i) h = refl
given_all bound (r ∷ rs) zero h = absurd (omega arith)
given_all bound (r ∷ rs) (suc i) h = given_all bound rs i (omega arith)
