-- Each unload takes the first image with its header.
use Rattle.std.proofs.Common.{◌≡◌, ℕ, List, [], ◌∷◌, false, true, Some, sym, ap, ◌∙◌, subst, eqb, ne_eqb}
use Rattle.plcr_machine.specs.declared.image.Image.{Image}
use Rattle.plcr_machine.specs.Lists.{has}
use Rattle.plcr_machine.specs.Changes.{first_node, header_at}
use Rattle.plcr_machine.proofs.Cases.{by_cases, eqb_same, not_both}
use Rattle.plcr_machine.proofs.OnNodes.{IsApart}
use Rattle.plcr_imagelist.specs.Finding.{first_with}
use Rattle.plcr_imagelist.proofs.Placed.{has_first}

first_node-with : (header : ℕ) (xs : List Image) (x : Image) → first_with header xs ≡ Some x → first_node header xs ≡ x.node
first_node-with header [] x e = cc
first_node-with header (y ∷ ys) x e =
    by_cases (eqb y.header header)
    (λ t. let found : Some y ≡ Some x = rw t at e in let same : y ≡ x = cc in rw t (ap (λ (z : Image). z.node) same))
    (λ t. let later : first_with header ys ≡ Some x = rw t at e in rw t (first_node-with header ys x later))

pub header_at-first : (header : ℕ) (xs : List Image) (x : Image) → IsApart xs → first_with header xs ≡ Some x → header_at x.node xs ≡ x.header
header_at-first header [] x a e = cc
header_at-first header (y ∷ ys) x a e =
    by_cases (eqb y.header header)
    (λ t. let found : Some y ≡ Some x = rw t at e in let same : y ≡ x = cc in
    let here : eqb y.node x.node ≡ true = sym (ap (λ (z : Image). eqb y.node z.node) same) ∙ eqb_same y.node in
    rw here (ap (λ (z : Image). z.header) same))
    (λ t. let later : first_with header ys ≡ Some x = rw t at e in
    let other : eqb y.node x.node ≡ false = ne_eqb y.node x.node (λ s. not_both (has y.node ys) (subst (λ n. has n ys ≡ true) (sym s) (has_first header ys x later)) a.0) in
    rw other (header_at-first header ys x a.1 later))

-- so does the unload of an image that is the first with its own header
pub unload_takes : (xs : List Image) (x : Image) → IsApart xs → first_with x.header xs ≡ Some x → first_node (header_at x.node xs) xs ≡ x.node
unload_takes xs x a e = ap (λ h. first_node h xs) (header_at-first x.header xs x a e) ∙ first_node-with x.header xs x e
