-- An index is the same in whatever order its spots lie.
use Rattle.std.proofs.Common.{◌≡◌, ◌≤◌, ◌<◌, ℕ, zero, suc, ◌+◌, Bool, true, false, eqb, cond, List, [], ◌∷◌, ◌++◌, length, Option, Some, None, Result, Ok, Err, option_to_list, refl, sym, ap, ◌∙◌, subst, arith, ne_eqb, get_or}
use Rattle.std.proofs.lemmas.Bool.{eqb-true}
use Rattle.std.specs.List.{All, Contains, find}
use Rattle.std.specs.List.Sorted.{IsPermutation}
use Rattle.std.proofs.lemmas.List.Sorted.{All-permutation, Contains-permutation, IsPermutation-sym}
use Rattle.std.proofs.lemmas.List.Elements.{All-contains, All-cons}
use Rattle.plcr_memory.specs.Regions.{Contents}
use Rattle.plcr_regs.specs.declared.arch.Arch.{Arch}
use Rattle.plcr_macho.specs.declared.image.Image.{Image}
use Rattle.plcr_macho.specs.declared.image.ImageFault.{ImageFault}
use Rattle.plcr_macho.specs.Images.{Listed}
use Rattle.plcr_macho.specs.Loading.{image_at}
use Rattle.plcr_macho.specs.Index.{Extent, extent_at, extents_from, ordered_from}

same_number : (n : ℕ) → eqb n n ≡ true
same_number n = grind arith

abbrev pub is_at : ℕ → Extent → Bool
is_at i e = eqb e.position i

-- what is found stands in the list and passes the test, and where nothing is found none does
found_here : (p : Extent → Bool) (y : Extent) (ys : List Extent) (x : Extent) → ((z : Extent) → find p ys ≡ Some z → Contains ys z × (p z ≡ true)) → (b : Bool) → p y ≡ b → cond b (Some y) (find p ys) ≡ Some x
    → Contains (y ∷ ys) x × (p x ≡ true)
found_here p y ys x rest true is found =
    let same : y ≡ x = cc in
    ((0, omega arith, same), subst (λ (e : Extent). p e ≡ true) same is)
found_here p y ys x rest false is found = let r = rest x found in ((suc r.0.0, omega (arith, r.0.1), r.0.2), r.1)

found_has : (p : Extent → Bool) (xs : List Extent) (x : Extent) → find p xs ≡ Some x → Contains xs x × (p x ≡ true)
found_has p [] x found = cc
found_has p (y ∷ ys) x found = found_here p y ys x (found_has p ys) (p y) refl found

none_here : (p : Extent → Bool) (y : Extent) (ys : List Extent) → (find p ys ≡ None → All (λ e. p e ≡ false) ys) → (b : Bool) → p y ≡ b → cond b (Some y) (find p ys) ≡ None → All (λ e. p e ≡ false) (y ∷ ys)
none_here p y ys rest true is none = cc
none_here p y ys rest false is none = All-cons (λ e. p e ≡ false) y ys is (rest none)

found_none : (p : Extent → Bool) (xs : List Extent) → find p xs ≡ None → All (λ e. p e ≡ false) xs
found_none p [] none = λ k d below. absurd (omega arith)
found_none p (y ∷ ys) none = none_here p y ys (found_none p ys) (p y) refl none

none_found : (p : Extent → Bool) (xs : List Extent) → All (λ e. p e ≡ false) xs → find p xs ≡ None
none_found p [] none = refl
none_found p (y ∷ ys) none =
    ap (λ (b : Bool). cond b (Some y) (find p ys)) (none 0 y (omega arith)) ∙ none_found p ys (λ k d below. none (suc k) d (omega (arith, below)))

-- each extent of the list is the first one at its position
abbrev pub AreApart : List Extent → Type 0
AreApart es = All (λ e. find (is_at e.position) es ≡ Some e) es

found_either : (xs ys : List Extent) (i : ℕ) → IsPermutation xs ys → AreApart ys → (o : Option Extent) → find (is_at i) xs ≡ o → find (is_at i) xs ≡ find (is_at i) ys
found_either xs ys i p apart None none = none ∙ sym (none_found (is_at i) ys (All-permutation (λ e. is_at i e ≡ false) xs ys p (found_none (is_at i) xs none)))
found_either xs ys i p apart (Some x) found =
    let has = found_has (is_at i) xs x found in
    let first = All-contains (λ (e : Extent). find (is_at e.position) ys ≡ Some e) ys x apart (Contains-permutation xs ys x p has.0) in
    found ∙ sym (subst (λ (n : ℕ). find (is_at n) ys ≡ Some x) (eqb-true x.position i has.1) first)

pub ordered_again : (i n : ℕ) (xs ys : List Extent) → IsPermutation xs ys → AreApart ys → ordered_from i n xs ≡ ordered_from i n ys
ordered_again i zero xs ys p apart = refl
ordered_again i (suc n) xs ys p apart =
    ap (λ (o : Option Extent). option_to_list o ++ ordered_from (i + 1) n xs) (found_either xs ys i p apart (find (is_at i) xs) refl)
    ∙ ap (λ (es : List Extent). option_to_list (find (is_at i) ys) ++ es) (ordered_again (i + 1) n xs ys p apart)

-- the images of a list have rising positions
late_cons : (i : ℕ) (r : Result Image ImageFault) (es : List Extent) → All (λ e. i + 1 ≤ e.position) es → All (λ e. i ≤ e.position) (extent_at i r ++ es)
late_cons i (Err fault) es late k d below = let l = late k d below in omega arith
late_cons i (Ok image) es late zero d below = omega arith
late_cons i (Ok image) es late (suc k) d below = let l = late k d (omega (arith, below)) in omega arith

pub all_late : (m : Contents) (arch : Arch) (i : ℕ) (ls : List Listed) → All (λ e. i ≤ e.position) (extents_from m arch i ls)
all_late m arch i [] = λ k d below. absurd (omega arith)
all_late m arch i (l ∷ ls) = late_cons i (image_at m arch l.header) (extents_from m arch (i + 1) ls) (all_late m arch (i + 1) ls)

apart_cons : (i : ℕ) (r : Result Image ImageFault) (es : List Extent) → All (λ e. i + 1 ≤ e.position) es → AreApart es → AreApart (extent_at i r ++ es)
apart_cons i (Err fault) es late apart k d below = apart k d below
apart_cons i (Ok image) es late apart zero d below =
    let e : Extent = record { position = i; header = image.header; size = image.text_size } in
    ap (λ (b : Bool). cond b (Some e) (find (is_at i) es)) (same_number i)
apart_cons i (Ok image) es late apart (suc k) d below =
    let e : Extent = record { position = i; header = image.header; size = image.text_size } in
    let x : Extent = get_or es k d in
    let l = late k d (omega (arith, below)) in
    ap (λ (b : Bool). cond b (Some e) (find (is_at x.position) es)) (ne_eqb i x.position (λ same. absurd (omega (arith, same, l)))) ∙ apart k d (omega (arith, below))

pub all_apart : (m : Contents) (arch : Arch) (i : ℕ) (ls : List Listed) → AreApart (extents_from m arch i ls)
all_apart m arch i [] = λ k d below. absurd (omega arith)
all_apart m arch i (l ∷ ls) = apart_cons i (image_at m arch l.header) (extents_from m arch (i + 1) ls) (all_late m arch (i + 1) ls) (all_apart m arch (i + 1) ls)

-- so an index is in order
skips : (i j n : ℕ) (r : Result Image ImageFault) (es : List Extent) → i < j → ordered_from j n (extent_at i r ++ es) ≡ ordered_from j n es
skips i j n (Err fault) es past = refl
skips i j zero (Ok image) es past = refl
skips i j (suc n) (Ok image) es past =
    let e : Extent = record { position = i; header = image.header; size = image.text_size } in
    ap (λ (b : Bool). option_to_list (cond b (Some e) (find (is_at j) es)) ++ ordered_from (j + 1) n (e ∷ es)) (ne_eqb i j (λ same. omega (arith, same, past)))
    ∙ ap (λ (xs : List Extent). option_to_list (find (is_at j) es) ++ xs) (skips i (j + 1) n (Ok image) es (omega arith))

takes_first : (i : ℕ) (r : Result Image ImageFault) (es : List Extent) → All (λ e. i + 1 ≤ e.position) es → option_to_list (find (is_at i) (extent_at i r ++ es)) ≡ extent_at i r
takes_first i (Err fault) es late =
    ap (λ (o : Option Extent). option_to_list o) (none_found (is_at i) es (λ k d below. let l = late k d below in ne_eqb (get_or es k d).position i (λ same. omega (arith, same, l))))
takes_first i (Ok image) es late =
    let e : Extent = record { position = i; header = image.header; size = image.text_size } in
    ap (λ (b : Bool). option_to_list (cond b (Some e) (find (is_at i) es))) (same_number i)

pub all_ordered : (m : Contents) (arch : Arch) (i : ℕ) (ls : List Listed) → ordered_from i (length ls) (extents_from m arch i ls) ≡ extents_from m arch i ls
all_ordered m arch i [] = refl
all_ordered m arch i (l ∷ ls) =
    let r : Result Image ImageFault = image_at m arch l.header in
    let es : List Extent = extents_from m arch (i + 1) ls in
    ap (λ (xs : List Extent). xs ++ ordered_from (i + 1) (length ls) (extent_at i r ++ es)) (takes_first i r es (all_late m arch (i + 1) ls))
    ∙ ap (λ (xs : List Extent). extent_at i r ++ xs) (skips i (i + 1) (length ls) r es (omega arith) ∙ all_ordered m arch (i + 1) ls)

-- in whatever order its extents were, they are the index
pub ordered_as : (m : Contents) (arch : Arch) (images : List Listed) (xs : List Extent) → IsPermutation (extents_from m arch 0 images) xs → ordered_from 0 (length images) xs ≡ extents_from m arch 0 images
ordered_as m arch images xs p =
    ordered_again 0 (length images) xs (extents_from m arch 0 images) (IsPermutation-sym (extents_from m arch 0 images) xs p) (all_apart m arch 0 images) ∙ all_ordered m arch 0 images
