-- Stacks as lists, whose top comes first, and as they are kept, with the top last.
use Rattle.std.proofs.Common.{◌≡◌, ◌≤◌, ◌<◌, ℕ, ◌-◌, List, [], ◌∷◌, ◌++◌, Some, None, length, slice_index, ap, ◌∙◌, arith}
use Rattle.std.specs.Prelude.{reverse, slice_get}
use Rattle.std.proofs.lemmas.List.{reverse-append, length-reverse, get_or-reverse}
use Rattle.std.proofs.lemmas.Option.{slice_get-get_or, slice_get_past}

-- a value at the end
pub reverse_more : (xs : List ℕ) (x : ℕ) → reverse (xs ++ x ∷ []) ≡ x ∷ reverse xs
reverse_more xs x = reverse-append xs (x ∷ [])

-- values counted from the top
pub from_top : (xs : List ℕ) (depth : ℕ) → depth < length xs → slice_get (reverse xs) depth ≡ Some (slice_index xs (length xs - 1 - depth))
from_top xs depth h =
    let same : length (reverse xs) ≡ length xs = length-reverse xs in
    slice_get-get_or (reverse xs) depth 0 (omega arith) ∙ ap Some (get_or-reverse xs depth 0 h)

pub past_bottom : (xs : List ℕ) (depth : ℕ) → length xs ≤ depth → slice_get (reverse xs) depth ≡ None
past_bottom xs depth h =
    let same : length (reverse xs) ≡ length xs = length-reverse xs in
    slice_get_past (reverse xs) depth (omega arith)

pub height : (xs : List ℕ) → length (reverse xs) ≡ length xs
height xs = length-reverse xs
