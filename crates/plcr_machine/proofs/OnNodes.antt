-- Lists of images by their nodes.
use Rattle.std.proofs.Common.{◌≡◌, ℕ, List, [], ◌∷◌, ◌++◌, false, ◌||◌, eqb, refl, sym, ap, ◌∙◌, IsFalse, ne_eqb}
use Rattle.std.proofs.lemmas.Bool.{or_parts, or_from, eqb-false}
use Rattle.plcr_machine.specs.declared.image.Image.{Image}
use Rattle.plcr_machine.specs.Lists.{has, without}
use Rattle.plcr_machine.proofs.Cases.{by_cases, at_or_else, eqb_same, or-false, or_assoc}

-- no two images of the list stand on one node
abbrev pub IsApart : List Image → Type 0
IsApart [] = Unit {0}
IsApart (x ∷ xs) = IsFalse (has x.node xs) × IsApart xs

pub turned : (m n : ℕ) → eqb m n ≡ false → eqb n m ≡ false
turned m n h = ne_eqb n m (λ e. eqb-false m n h (sym e))

pub has-snoc : (n : ℕ) (xs : List Image) (x : Image) → has n (xs ++ x ∷ []) ≡ (has n xs || eqb x.node n)
has-snoc n [] x = or-false (eqb x.node n)
has-snoc n (y ∷ ys) x = ap (λ b. eqb y.node n || b) (has-snoc n ys x) ∙ sym (or_assoc (eqb y.node n) (has n ys) (eqb x.node n))

pub has-without_same : (k : ℕ) (xs : List Image) → has k (without k xs) ≡ false
has-without_same k [] = refl
has-without_same k (x ∷ xs) = by_cases (eqb x.node k) (λ e. rw e (has-without_same k xs)) (λ e. rw (e, e) (has-without_same k xs))

pub has-without : (n k : ℕ) (xs : List Image) → eqb k n ≡ false → has n (without k xs) ≡ has n xs
has-without n k [] d = refl
has-without n k (x ∷ xs) d =
    at_or_else x.node k (λ e. rw (e, eqb_same k, d) (has-without n k xs d)) (λ e. rw e (ap (λ b. eqb x.node n || b) (has-without n k xs d)))

-- a list with no image on the node stays
pub without_absent : (k : ℕ) (xs : List Image) → has k xs ≡ false → without k xs ≡ xs
without_absent k [] h = refl
without_absent k (x ∷ xs) h =
    let p = or_parts (eqb x.node k) (has k xs) h in rw (p.0) (ap (λ (l : List Image). x ∷ l) (without_absent k xs p.1))

pub apart-snoc : (xs : List Image) (x : Image) → IsApart xs → has x.node xs ≡ false → IsApart (xs ++ x ∷ [])
apart-snoc [] x a h = (refl, tt)
apart-snoc (y ∷ ys) x a h =
    let p = or_parts (eqb y.node x.node) (has x.node ys) h in
    (has-snoc y.node ys x ∙ or_from (has y.node ys) (eqb x.node y.node) a.0 (turned y.node x.node p.0), apart-snoc ys x a.1 p.1)

pub apart-without : (k : ℕ) (xs : List Image) → IsApart xs → IsApart (without k xs)
apart-without k [] a = tt
apart-without k (x ∷ xs) a =
    by_cases (eqb x.node k) (λ e. rw e (apart-without k xs a.1))
    (λ e. rw e (has-without x.node k xs (turned x.node k e) ∙ a.0, apart-without k xs a.1))
