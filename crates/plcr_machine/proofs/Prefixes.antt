-- A legal history is legal at each entry.
use Rattle.std.proofs.Common.{◌≡◌, ◌∙◌, ap, subst, ℕ, suc, ◌<◌, List, [], ◌∷◌, ◌++◌, reverse, take, drop, get_or, length, append_assoc, refl, not, eqb}
use Rattle.std.specs.Prelude.{filter}
use Rattle.std.proofs.Math.Seq.{split_at}
use Rattle.std.proofs.lemmas.List.{reverse-append}
use Rattle.plcr_machine.specs.declared.entry.Entry.{Entry}
use Rattle.plcr_machine.specs.declared.image.Image.{Image}
use Rattle.plcr_machine.specs.Lists.{without}
use Rattle.plcr_machine.specs.Histories.{MayFollow, IsLegal}
use Rattle.plcr_machine.proofs.Cases.{by_cases}
use Rattle.plcr_machine.proofs.Makers.{legal_tail}

reverse_parts : (xs : List Entry) (i : ℕ) (d : Entry) → i < length xs → reverse xs ≡ reverse (drop (suc i) xs) ++ get_or xs i d ∷ reverse (take i xs)
reverse_parts xs i d lt =
    let x : Entry = get_or xs i d in
    let a : reverse xs ≡ reverse (take i xs ++ x ∷ drop (suc i) xs) = ap (λ (l : List Entry). reverse l) (split_at xs i d lt) in
    let b = reverse-append (take i xs) (x ∷ drop (suc i) xs) in
    let c = reverse-append (x ∷ []) (drop (suc i) xs) in
    a ∙ b ∙ ap (λ (l : List Entry). l ++ reverse (take i xs)) c ∙ append_assoc (reverse (drop (suc i) xs)) (x ∷ []) (reverse (take i xs))

pub legal_at : (nodes passes : ℕ) (xs : List Entry) (i : ℕ) (d : Entry) → i < length xs → IsLegal nodes passes (reverse xs) → MayFollow nodes passes (reverse (take i xs)) (get_or xs i d)
legal_at nodes passes xs i d lt l =
    (legal_tail nodes passes (reverse (drop (suc i) xs)) (get_or xs i d ∷ reverse (take i xs)) (subst (λ (h : List Entry). IsLegal nodes passes h) (reverse_parts xs i d lt) l)).0

-- a list without a node has the images on others
pub without-filter : (node : ℕ) (xs : List Image) → filter (λ image. not (eqb image.node node)) xs ≡ without node xs
without-filter node [] = refl
without-filter node (x ∷ xs) = by_cases (eqb x.node node) (λ e. rw e (without-filter node xs)) (λ e. rw e (ap (λ (l : List Image). x ∷ l) (without-filter node xs)))
