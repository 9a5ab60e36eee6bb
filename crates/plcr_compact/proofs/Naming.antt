-- The registers that digits name, digit by digit.
use Rattle.std.proofs.Common.{◌≡◌, ◌≤◌, ◌<◌, ℕ, ◌+◌, List, [], ◌∷◌, ◌++◌, length, get_or, drop, Option, Some, None, option_map, refl, sym, ap}
use Rattle.std.specs.Prelude.{slice_get, remove}
use Rattle.std.proofs.lemmas.List.{append-nil, append_assoc, drop_all, drop_more}
use Rattle.std.proofs.lemmas.Option.{slice_get_past, slice_get_read}
use Rattle.plcr_compact.specs.declared.encoding.SavedRegister.{SavedRegister}
use Rattle.plcr_compact.specs.Permutations.{all_registers, named}

-- registers that are named, behind those that were
unfoldable pub named_on : List SavedRegister → List SavedRegister → List ℕ → Option (List SavedRegister)
named_on found left digits = option_map (λ registers. found ++ registers) (named left digits)

pub named_start : (digits : List ℕ) → named_on [] all_registers (drop 0 digits) ≡ named all_registers digits
unfolding named_on
named_start digits = plain (named all_registers digits)
  where
    plain : (o : Option (List SavedRegister)) → option_map (λ registers. [] ++ registers) o ≡ o
    plain None = refl
    plain (Some registers) = refl

pub named_past : (found left : List SavedRegister) (digits : List ℕ) (i : ℕ) → i < length digits → length left ≤ get_or digits i 0 → named_on found left (drop i digits) ≡ None
unfolding named_on
named_past found left digits i within past =
    let d : drop i digits ≡ get_or digits i 0 ∷ drop (i + 1) digits = drop_more digits i 0 within in
    rw (d, slice_get_past left (get_or digits i 0) past) refl

pub named_more : (found left : List SavedRegister) (digits : List ℕ) (i : ℕ) (register : SavedRegister) → i < length digits → get_or digits i 0 < length left
    → register ≡ get_or left (get_or digits i 0) register
    → named_on found left (drop i digits) ≡ named_on (found ++ register ∷ []) (remove left (get_or digits i 0)) (drop (i + 1) digits)
unfolding named_on
named_more found left digits i register within inside read =
    let place = get_or digits i 0 in
    let d : drop i digits ≡ place ∷ drop (i + 1) digits = drop_more digits i 0 within in
    let there : slice_get left place ≡ Some register = slice_get_read left (length left) place register refl inside read in
    rw (d, there) (moved (named (remove left place) (drop (i + 1) digits)))
  where
    moved : (o : Option (List SavedRegister)) → option_map (λ registers. found ++ registers) (option_map (λ registers. register ∷ registers) o) ≡ option_map (λ registers. (found ++ register ∷ []) ++ registers) o
    moved None = refl
    moved (Some registers) = ap Some (sym (append_assoc found (register ∷ []) registers))

pub named_all : (found left : List SavedRegister) (digits : List ℕ) (i : ℕ) → length digits ≤ i → named_on found left (drop i digits) ≡ Some found
unfolding named_on
named_all found left digits i done = rw drop_all (ap Some (append-nil found))
