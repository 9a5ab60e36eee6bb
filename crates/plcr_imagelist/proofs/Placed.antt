-- Where an image stands in the list: the place before it, and the list without it.
use Rattle.std.proofs.Common.{◌≡◌, ◌≢◌, ◌⊎◌, inl, inr, ℕ, zero, suc, ◌+◌, ◌-◌, ◌<◌, ◌≤◌, List, [], ◌∷◌, ◌++◌, length, take, drop, get_or, true, false, ◌||◌, eqb, refl, sym, ap, ◌∙◌, subst, arith, Some, None, ne_eqb, add-one, drop-cons}
use Rattle.std.proofs.lemmas.Bool.{or_left, or_right}
use Rattle.std.proofs.lemmas.List.{length-append, get_or_append_left, get_or-append-add}
use Rattle.plcr_machine.specs.declared.image.Image.{Image}
use Rattle.plcr_machine.specs.declared.entry.Entry.{Entry}
use Rattle.plcr_machine.specs.Lists.{has, without, live, loads, changes}
use Rattle.plcr_machine.specs.Links.{after, last_place}
use Rattle.plcr_machine.specs.Histories.{IsLegal}
use Rattle.plcr_machine.proofs.Cases.{by_cases, eqb_same, not_both}
use Rattle.plcr_machine.proofs.OnNodes.{IsApart, without_absent}
use Rattle.plcr_machine.proofs.Freedom.{live_apart, live_bound, head_absent}
use Rattle.plcr_machine.proofs.Leads.{link_here}
use Rattle.plcr_machine.proofs.Counted.{loads-unloads}
use Rattle.plcr_nodes.specs.Owning.{Follows}
use Rattle.plcr_imagelist.specs.Finding.{first_with, without_first}

last_at : (p : ℕ) (xs : List Image) (i : ℕ) (x : Image) → i < length xs → x ≡ get_or xs i x → last_place p (take (suc i) xs) ≡ x.node
last_at p [] i x below is = absurd (omega arith)
last_at p (y ∷ ys) zero x below is = ap (λ (z : Image). z.node) (sym is)
last_at p (y ∷ ys) (suc i) x below is = last_at y.node ys i x (omega arith) is

-- the place before a later image is the image before it
pub place_at : (xs : List Image) (i : ℕ) (x : Image) → i ≢ 0 → i ≤ length xs → x ≡ get_or xs (i - 1) x → x.node ≡ last_place 0 (take i xs)
place_at xs zero x some below is = absurd (some refl)
place_at xs (suc i) x some below is =
    let back : suc i - 1 ≡ i = omega arith in
    sym (last_at 0 xs i x (omega arith) (subst (λ k. x ≡ get_or xs k x) back is))

pub has_at : (xs : List Image) (i : ℕ) (x : Image) → i < length xs → x ≡ get_or xs i x → has x.node xs ≡ true
has_at [] i x below is = absurd (omega arith)
has_at (y ∷ ys) zero x below is = let same : eqb y.node x.node ≡ true = ap (λ (z : Image). eqb y.node z.node) is ∙ eqb_same y.node in or_left (eqb y.node x.node) (has x.node ys) same
has_at (y ∷ ys) (suc i) x below is = or_right (eqb y.node x.node) (has x.node ys) (has_at ys i x (omega arith) is)

last_in : (p : ℕ) (xs : List Image) (i : ℕ) → (last_place p (take i xs) ≡ p) ⊎ (has (last_place p (take i xs)) xs ≡ true)
last_in p [] zero = inl refl
last_in p [] (suc i) = inl refl
last_in p (y ∷ ys) zero = inl refl
last_in p (y ∷ ys) (suc i) =
    elim (last_in y.node ys i) [
      | inl e ↦ inr (or_left (eqb y.node (last_place y.node (take i ys))) (has (last_place y.node (take i ys)) ys) (ap (eqb y.node) e ∙ eqb_same y.node))
      | inr h ↦ inr (or_right (eqb y.node (last_place y.node (take i ys))) (has (last_place y.node (take i ys)) ys) h)
    ]

-- what stands after the place before an image is the image's node
pub after_before : (p : ℕ) (xs : List Image) (i : ℕ) (x : Image) → has p xs ≡ false → IsApart xs → i < length xs → x ≡ get_or xs i x → after p (last_place p (take i xs)) xs ≡ x.node
after_before p [] i x off a below is = absurd (omega arith)
after_before p (y ∷ ys) zero x off a below is = rw (eqb_same p) (ap (λ (z : Image). z.node) (sym is))
after_before p (y ∷ ys) (suc i) x off a below is =
    let q : ℕ = last_place y.node (take i ys) in
    let there : has q (y ∷ ys) ≡ true =
    elim (last_in y.node ys i) [
      | inl e ↦ or_left (eqb y.node q) (has q ys) (ap (eqb y.node) e ∙ eqb_same y.node)
      | inr h ↦ or_right (eqb y.node q) (has q ys) h
    ] in
    let other : eqb p q ≡ false = ne_eqb p q (λ e. not_both (has q (y ∷ ys)) there (subst (λ n. has n (y ∷ ys) ≡ false) e off)) in
    rw other (after_before y.node ys i x a.0 a.1 (omega arith) is)

-- the list without an image is the list before it and the list after it
pub cut_out : (xs : List Image) (i : ℕ) (x : Image) → IsApart xs → i < length xs → x ≡ get_or xs i x → take i xs ++ drop (suc i) xs ≡ without x.node xs
cut_out [] i x a below is = absurd (omega arith)
cut_out (y ∷ ys) zero x a below is =
    let same : eqb y.node x.node ≡ true = ap (λ (z : Image). eqb y.node z.node) is ∙ eqb_same y.node in
    let off : has x.node ys ≡ false = ap (λ (z : Image). has z.node ys) is ∙ a.0 in
    rw same (sym (without_absent x.node ys off))
cut_out (y ∷ ys) (suc i) x a below is =
    let other : eqb y.node x.node ≡ false = ne_eqb y.node x.node (λ e. not_both (has y.node ys) (subst (λ n. has n ys ≡ true) (sym e) (has_at ys i x (omega arith) is)) a.0) in
    rw other (ap (λ (zs : List Image). y ∷ zs) (cut_out ys i x a.1 (omega arith) is))

pub follows_before : (nodes passes : ℕ) (h : List Entry) (i : ℕ) (x : Image) → IsLegal nodes passes h → i < length (live h) → x ≡ get_or (live h) i x → Follows (last_place 0 (take i (live h))) x.node h
follows_before nodes passes h i x l below is =
    let q : ℕ = last_place 0 (take i (live h)) in
    let placed : (eqb q 0 || has q (live h)) ≡ true =
    elim (last_in 0 (live h) i) [
      | inl e ↦ or_left (eqb q 0) (has q (live h)) (ap (λ n. eqb n 0) e)
      | inr h' ↦ or_right (eqb q 0) (has q (live h)) h'
    ] in
    record {
      place = placed;
      next = link_here q h placed ∙ after_before 0 (live h) i x (head_absent nodes passes h l) (live_apart nodes passes h l) below is;
      some = λ z. let bound = live_bound nodes passes x.node h l (has_at (live h) i x below is) in omega (arith, bound.0, z);
    }

-- there are no more loads than changes
pub loads_most : (h : List Entry) → loads h ≤ changes h
loads_most h = let all = loads-unloads h in omega arith

-- the first image with a header, from a place on
pub first_skip : (header i : ℕ) (xs : List Image) (x : Image) → x ≡ get_or xs i x → i < length xs → x.header ≢ header → first_with header (drop (i + 1) xs) ≡ first_with header (drop i xs)
first_skip header i xs x is below other = rw (add-one, drop-cons xs i x, sym is, ne_eqb x.header header other) refl

pub first_here : (header i : ℕ) (xs : List Image) (x : Image) → x ≡ get_or xs i x → i < length xs → x.header ≡ header → first_with header (drop i xs) ≡ Some x
first_here header i xs x is below same = rw (drop-cons xs i x, sym is) (let t : eqb x.header header ≡ true = ap (eqb x.header) (sym same) ∙ eqb_same x.header in rw t refl)

pub first_none : (header : ℕ) (xs : List Image) (i : ℕ) → length xs ≤ i → first_with header (drop i xs) ≡ None
first_none header [] zero h = refl
first_none header [] (suc i) h = refl
first_none header (x ∷ xs) zero h = absurd (omega arith)
first_none header (x ∷ xs) (suc i) h = first_none header xs i (omega arith)

-- the list without the node of the first image with a header is the list without that image
pub has_first : (header : ℕ) (xs : List Image) (x : Image) → first_with header xs ≡ Some x → has x.node xs ≡ true
has_first header [] x e = cc
has_first header (y ∷ ys) x e =
    by_cases (eqb y.header header)
    (λ t. let found : Some y ≡ Some x = rw t at e in let same : y ≡ x = cc in or_left (eqb y.node x.node) (has x.node ys) (sym (ap (λ (z : Image). eqb y.node z.node) same) ∙ eqb_same y.node))
    (λ t. let later : first_with header ys ≡ Some x = rw t at e in or_right (eqb y.node x.node) (has x.node ys) (has_first header ys x later))

pub first_cut : (header : ℕ) (xs : List Image) (x : Image) → IsApart xs → first_with header xs ≡ Some x → without x.node xs ≡ without_first header xs
first_cut header [] x a e = refl
first_cut header (y ∷ ys) x a e =
    by_cases (eqb y.header header)
    (λ t. let found : Some y ≡ Some x = rw t at e in let same : y ≡ x = cc in
    let here : eqb y.node x.node ≡ true = sym (ap (λ (z : Image). eqb y.node z.node) same) ∙ eqb_same y.node in
    let off : has x.node ys ≡ false = subst (λ (z : Image). has z.node ys ≡ false) same a.0 in
    rw (t, here) (without_absent x.node ys off))
    (λ t. let later : first_with header ys ≡ Some x = rw t at e in
    let other : eqb y.node x.node ≡ false = ne_eqb y.node x.node (λ s. not_both (has y.node ys) (subst (λ n. has n ys ≡ true) (sym s) (has_first header ys x later)) a.0) in
    rw (t, other) (ap (λ (zs : List Image). y ∷ zs) (first_cut header ys x a.1 later)))

-- the first image with a header of two lists is that of the first list, or else that of the second
first_left : (header : ℕ) (xs ys : List Image) (x : Image) → first_with header xs ≡ Some x → first_with header (xs ++ ys) ≡ Some x
first_left header [] ys x e = cc
first_left header (z ∷ xs) ys x e = by_cases (eqb z.header header) (λ t. rw t (rw t at e)) (λ t. rw t (first_left header xs ys x (rw t at e)))

pub first_right : (header : ℕ) (xs ys : List Image) → first_with header xs ≡ None → first_with header (xs ++ ys) ≡ first_with header ys
first_right header [] ys e = refl
first_right header (z ∷ xs) ys e = by_cases (eqb z.header header) (λ t. let found : Some z ≡ None = rw t at e in cc) (λ t. rw t (first_right header xs ys (rw t at e)))

abbrev pub IsFirst : ℕ → List Image → ℕ → Image → Type 0
IsFirst header xs at x = (at < length xs) × (x ≡ get_or xs at x) × (first_with header xs ≡ Some x) × (x.header ≡ header)

pub found_left : (header at : ℕ) (xs ys zs : List Image) (x : Image) → xs ++ ys ≡ zs → IsFirst header xs at x → IsFirst header zs at x
found_left header at xs ys zs x e f =
    let more = length-append xs ys in
    subst (λ (l : List Image). IsFirst header l at x) e (omega (arith, f.0, more), f.1 ∙ sym (get_or_append_left xs ys x at f.0), first_left header xs ys x f.2, f.3)

pub found_right : (header at : ℕ) (xs ys zs : List Image) (x : Image) → xs ++ ys ≡ zs → first_with header xs ≡ None → IsFirst header ys at x → IsFirst header zs (length xs + at) x
found_right header at xs ys zs x e none f =
    let more = length-append xs ys in
    subst (λ (l : List Image). IsFirst header l (length xs + at) x) e (omega (arith, f.0, more), f.1 ∙ sym (get_or-append-add xs ys at x), first_right header xs ys none ∙ f.2, f.3)
