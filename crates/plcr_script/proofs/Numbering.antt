-- Numbers of the log, one after the other.
use Rattle.std.proofs.Common.{◌≡◌, ℕ, ◌+◌, ◌<◌, List, [], ◌∷◌, ◌++◌, length, get_or, take, refl, sym, ◌∙◌, ap, append_assoc}
use Rattle.std.specs.Prelude.{codes, decimal}
use Rattle.std.proofs.lemmas.List.{append-nil, take_more}
use Rattle.plcr_script.specs.Log.{numbers}

numbers_append : (xs ys : List ℕ) → numbers (xs ++ ys) ≡ numbers xs ++ numbers ys
numbers_append [] ys = refl
numbers_append (x ∷ xs) ys =
    ap (λ (t : List ℕ). codes " " ++ decimal x ++ t) (numbers_append xs ys)
    ∙ ap (λ (t : List ℕ). codes " " ++ t) (sym (append_assoc (decimal x) (numbers xs) (numbers ys)))

-- one more number
pub numbers_more : (ns : List ℕ) (i : ℕ) → i < length ns → numbers (take (i + 1) ns) ≡ numbers (take i ns) ++ (codes " " ++ decimal (get_or ns i 0))
numbers_more ns i within =
    let last : numbers (get_or ns i 0 ∷ []) ≡ codes " " ++ decimal (get_or ns i 0) = ap (λ (t : List ℕ). codes " " ++ t) (append-nil (decimal (get_or ns i 0))) in
    ap numbers (take_more ns i 0 within)
    ∙ numbers_append (take i ns) (get_or ns i 0 ∷ [])
    ∙ ap (λ (t : List ℕ). numbers (take i ns) ++ t) last

-- a text that gains a space and digits
pub grown : (start so_far digits : List ℕ) → start ++ so_far ++ codes " " ++ digits ≡ start ++ (so_far ++ (codes " " ++ digits))
grown start so_far digits = append_assoc (start ++ so_far) (codes " ") digits ∙ append_assoc start so_far (codes " " ++ digits)
