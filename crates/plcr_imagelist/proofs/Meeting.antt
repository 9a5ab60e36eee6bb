-- The images that a hold has met: they rise, follow one another, and stay as the history goes on.
use Rattle.std.proofs.Common.{◌≡◌, ◌≢◌, ◌⊎◌, inl, inr, ℕ, zero, suc, ◌-◌, ◌<◌, ◌≤◌, List, [], ◌∷◌, ◌++◌, length, get_or, true, false, eqb, refl, sym, ap, ◌∙◌, subst, arith, Some, ne_eqb}
use Rattle.std.proofs.lemmas.Bool.{or_left, or_right, or_cases, eqb-true, eqb-false, false_from_ne_true}
use Rattle.plcr_machine.specs.declared.image.Image.{Image}
use Rattle.plcr_machine.specs.declared.entry.Entry.{Entry}
use Rattle.plcr_machine.specs.Lists.{Grows, load_number, loaded, changes, list_after}
use Rattle.plcr_machine.specs.Walks.{RisesAbove, last_with, follow, last_met, IsWholeWalk, IsLawfulWalk}
use Rattle.plcr_machine.specs.Passes.{count_below}
use Rattle.plcr_machine.specs.Histories.{IsLegal}
use Rattle.plcr_machine.specs.Holds.{may_reach, before_enter}
use Rattle.plcr_machine.specs.Links.{link_of, image_at}
use Rattle.plcr_machine.proofs.Makers.{before_enter-stays}
use Rattle.plcr_machine.proofs.Cases.{eqb_same, not_both}
use Rattle.plcr_machine.proofs.Insiders.{count_below-more, count_below-most}
use Rattle.plcr_machine.proofs.Rising.{first_rises, next_rises}
use Rattle.plcr_machine.proofs.Growing.{changes-grows}
use Rattle.plcr_machine.proofs.Staying.{whole_stays, lawful_stays}
use Rattle.plcr_machine.proofs.Lawful.{whole_walk_lawful}
use Rattle.plcr_machine.proofs.Loaded.{list_after_rises}
use Rattle.plcr_machine.proofs.Follows.{link-follow, head-follow}
use Rattle.plcr_machine.proofs.Reach.{reach_busy}
use Rattle.plcr_nodes.specs.Entries.{among}
use Rattle.plcr_nodes.specs.Seeing.{AddsOthers, GoesOn}
use Rattle.plcr_nodes.proofs.Seeing.{own_of}
use Rattle.plcr_nodes.proofs.Staying.{image_stays}
use Rattle.plcr_imagelist.specs.inner.Keeping.{last_of}
use Rattle.plcr_imagelist.specs.inner.Holding.{images_on}
use Rattle.plcr_imagelist.specs.Holds.{HasEnded}

-- entries of others leave the hold's enter where it was
pub before_enter-same : (p : ℕ) (old all : List Entry) → AddsOthers false (p ∷ []) old all → before_enter p all ≡ before_enter p old
before_enter-same p old all a = before_enter-stays p old all a.grows (own_of p old all a)

-- what follows has a greater number
pub follow_rises : (nodes passes : ℕ) (h : List Entry) → IsLegal nodes passes h → (i j : ℕ) (x : Image) → follow load_number (list_after h) i j ≡ Some x → i < x.load
follow_rises nodes passes h l zero j x e = first_rises load_number 0 x (list_after h j) (list_after_rises nodes passes h l j) e
follow_rises nodes passes h l (suc i) j x e =
    let k : ℕ = last_with load_number (list_after h) (suc i) j in
    next_rises load_number 0 (suc i) x (list_after h k) (list_after_rises nodes passes h l k) e

pub rises-snoc : (b : ℕ) (xs : List Image) (x : Image) → RisesAbove load_number b xs → last_met load_number b xs < x.load → RisesAbove load_number b (xs ++ x ∷ [])
rises-snoc b [] x r more = (more, tt)
rises-snoc b (y ∷ ys) x r more = (r.0, rises-snoc y.load ys x r.1 more)

-- nodes whose images rise are different, so there are no more than the table has
among_rises : (h : List Entry) (b m : ℕ) (ns : List ℕ) → RisesAbove load_number b (images_on ns h) → among m ns ≡ true → b < (loaded m h).load
among_rises h b m [] r t = not_both false t refl
among_rises h b m (n ∷ ns) r t =
    elim (or_cases (eqb n m) (among m ns) t) [
      | inl e ↦ subst (λ k. b < (loaded k h).load) (eqb-true n m e) r.0
      | inr later ↦ (let more = among_rises h (loaded n h).load m ns r.1 later in let first = r.0 in omega arith)
    ]

rises_apart : (h : List Entry) (b n : ℕ) (ns : List ℕ) → RisesAbove load_number b (images_on (n ∷ ns) h) → among n ns ≡ false
rises_apart h b n ns r = false_from_ne_true (among n ns) (λ t. let more = among_rises h (loaded n h).load n ns r.1 t in omega (arith, more))

length-apart : (nodes : ℕ) (h : List Entry) (b : ℕ) (ns : List ℕ) → RisesAbove load_number b (images_on ns h) → ((n : ℕ) → among n ns ≡ true → (0 < n) × (n ≤ nodes)) → length ns ≡ count_below (λ k. among (suc k) ns) nodes
length-apart nodes h b [] r within = none nodes
  where
    none : (k : ℕ) → 0 ≡ count_below (λ k. false) k
    none zero = refl
    none (suc k) = omega (arith, none k)
length-apart nodes h b (n ∷ ns) r within =
    let self = or_left (eqb n n) (among n ns) (eqb_same n) in
    let here = within n self in
    let p : ℕ = n - 1 in
    let back : suc p ≡ n = omega arith in
    let off : among (suc p) ns ≡ false = subst (λ k. among k ns ≡ false) (sym back) (rises_apart h b n ns r) in
    let on : among (suc p) (n ∷ ns) ≡ true = subst (λ k. among k (n ∷ ns) ≡ true) (sym back) self in
    let more = count_below-more (λ k. among (suc k) ns) (λ k. among (suc k) (n ∷ ns)) p nodes (omega arith) off on
    (λ k d. let other : eqb n (suc k) ≡ false = ne_eqb n (suc k) (λ s. eqb-false p k d (omega arith)) in rw other refl) in
    ap suc (length-apart nodes h (loaded n h).load ns r.1 (λ m t. within m (or_right (eqb n m) (among m ns) t))) ∙ sym more

pub length-images_on : (ns : List ℕ) (h : List Entry) → length (images_on ns h) ≡ length ns
length-images_on [] h = refl
length-images_on (n ∷ ns) h = ap suc (length-images_on ns h)

pub few_met : (nodes : ℕ) (h : List Entry) (ns : List ℕ) → RisesAbove load_number 0 (images_on ns h) → ((n : ℕ) → among n ns ≡ true → (0 < n) × (n ≤ nodes)) → length (images_on ns h) ≤ nodes
few_met nodes h ns r within =
    let size = length-apart nodes h 0 ns r within in
    let most = count_below-most (λ k. among (suc k) ns) nodes in
    let same = length-images_on ns h in omega arith

pub images_on-snoc : (ns : List ℕ) (n : ℕ) (h : List Entry) → images_on (ns ++ n ∷ []) h ≡ images_on ns h ++ loaded n h ∷ []
images_on-snoc [] n h = refl
images_on-snoc (m ∷ ns) n h = ap (λ (xs : List Image). loaded m h ∷ xs) (images_on-snoc ns n h)

pub among-snoc : (ns : List ℕ) (n m : ℕ) → among m (ns ++ n ∷ []) ≡ true → (among m ns ≡ true) ⊎ (n ≡ m)
among-snoc [] n m t = elim (or_cases (eqb n m) false t) [ inl e ↦ inr (eqb-true n m e) | inr f ↦ not_both false f refl ]
among-snoc (k ∷ ns) n m t =
    elim (or_cases (eqb k m) (among m (ns ++ n ∷ [])) t) [
      | inl e ↦ inl (or_left (eqb k m) (among m ns) e)
      | inr later ↦ elim (among-snoc ns n m later) [ inl r ↦ inl (or_right (eqb k m) (among m ns) r) | inr s ↦ inr s ]
    ]

-- the last node is among them
among_at : (ns : List ℕ) (i : ℕ) → i < length ns → among (get_or ns i 0) ns ≡ true
among_at [] i below = absurd (omega arith)
among_at (n ∷ ns) zero below = or_left (eqb n n) (among n ns) (eqb_same n)
among_at (n ∷ ns) (suc i) below = or_right (eqb n (get_or ns i 0)) (among (get_or ns i 0) ns) (among_at ns i (omega arith))

pub among_last : (ns : List ℕ) → last_of ns ≢ 0 → among (last_of ns) ns ≡ true
among_last [] some = absurd (some refl)
among_last (n ∷ ns) some = among_at (n ∷ ns) (length (n ∷ ns) - 1) (omega arith)

-- the number met last is that of the last node's image
last_met_at : (h : List Entry) (b : ℕ) (ns : List ℕ) (i : ℕ) → suc i ≡ length ns → last_met load_number b (images_on ns h) ≡ (loaded (get_or ns i 0) h).load
last_met_at h b [] i e = absurd (omega arith)
last_met_at h b (n ∷ []) zero e = refl
last_met_at h b (n ∷ []) (suc i) e = absurd (omega arith)
last_met_at h b (n ∷ (m ∷ ns)) zero e = absurd (omega arith)
last_met_at h b (n ∷ (m ∷ ns)) (suc i) e = last_met_at h (loaded n h).load (m ∷ ns) i (omega arith)

-- what follows the image met last is the image to which its node's link leads
pub follows_last : (nodes passes p : ℕ) (h : List Entry) (ns : List ℕ) → IsLegal nodes passes h → ((n : ℕ) → among n ns ≡ true → (0 < n) × (may_reach p n h ≡ true))
    → follow load_number (list_after h) (last_met load_number 0 (images_on ns h)) (changes h) ≡ image_at (link_of (last_of ns) h) h
follows_last nodes passes p h [] l given = head-follow nodes passes h l
follows_last nodes passes p h (n ∷ ns) l given =
    let i : ℕ = length (n ∷ ns) - 1 in
    let last : ℕ = get_or (n ∷ ns) i 0 in
    let there = given last (among_at (n ∷ ns) i (omega arith)) in
    ap (λ k. follow load_number (list_after h) k (changes h)) (last_met_at h 0 (n ∷ ns) i (omega arith))
    ∙ link-follow nodes passes last h l (reach_busy nodes passes p last h l there.1)

-- the images stay as the history goes on
pub images_stay : (nodes passes p : ℕ) (old all : List Entry) (old_names names : List (List ℕ)) → GoesOn nodes passes false (p ∷ []) old old_names all names
    → (ns : List ℕ) → ((n : ℕ) → among n ns ≡ true → may_reach p n old ≡ true) → images_on ns all ≡ images_on ns old
images_stay nodes passes p old all old_names names g [] reach = refl
images_stay nodes passes p old all old_names names g (n ∷ ns) reach =
    let first = image_stays nodes passes p n old all old_names names g (reach n (or_left (eqb n n) (among n ns) (eqb_same n))) in
    let rest = images_stay nodes passes p old all old_names names g ns (λ m t. reach m (or_right (eqb n m) (among m ns) t)) in
    λ i. first i ∷ rest i

-- a whole walk is lawful
pub lawful_whole : (nodes passes : ℕ) (h : List Entry) → IsLegal nodes passes h → (a b : ℕ) (met : List Image) → IsWholeWalk load_number (list_after h) a b met → IsLawfulWalk load_number (list_after h) a b met
lawful_whole nodes passes h l a b met w = whole_walk_lawful load_number (list_after h) (list_after_rises nodes passes h l) a b met w

-- a walk that ended has ended there still, as the history grows
pub ended_on : (nodes passes p : ℕ) (old all : List Entry) (old_met met : List Image) (b : ℕ) → IsLegal nodes passes all → Grows old all → before_enter p all ≡ before_enter p old → met ≡ old_met
    → HasEnded old (changes (before_enter p old)) b old_met → HasEnded all (changes (before_enter p all)) b met
ended_on nodes passes p old all old_met met b l g start same k =
    let a : ℕ = changes (before_enter p old) in
    let later = changes-grows old all g in
    let within = k.within in
    subst (λ (xs : List Image). HasEnded all (changes (before_enter p all)) b xs) (sym same)
    (subst (λ (s : List Entry). HasEnded all (changes s) b old_met) (sym start)
    (record { within = omega arith; whole = whole_stays old all a b old_met g within k.whole; lawful = lawful_stays old all a b old_met g within k.lawful }))
