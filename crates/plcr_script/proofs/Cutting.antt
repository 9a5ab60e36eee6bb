-- How a list splits at its first separator.
use Rattle.std.proofs.Common.{◌≡◌, ℕ, ◌+◌, ◌<◌, ◌≤◌, Bool, true, false, cond, List, [], ◌∷◌, length, take, drop, get_or, nat_lt, Option, Some, None, refl, sym, ◌∙◌, ap, arith, inl, inr, position}
use Rattle.std.specs.List.{slice_split, onto_first, position_or_len}
use Rattle.std.proofs.lemmas.Bool.{ltb-true, ltb-false, cases_Bool}
use Rattle.std.proofs.lemmas.Option.{cond_some}
use Rattle.std.proofs.lemmas.List.Splits.{slice_split_first, slice_split_none, slice_split-cons_yes, slice_split-cons_no}
use Rattle.std.proofs.lemmas.List.Sums.{fails_before_first}
use Rattle.std.proofs.lemmas.List.Sums.{position_or_len_is}
use Rattle.std.proofs.lemmas.Bool.Decides.{nat_tests}
use Rattle.memchr.specs.Find.{IsFirstByte}
use Rattle.plcr_script.specs.Splits.{without_empty_end}

cond_none : {A : Type 0} (b : Bool) (x : A) → cond b (Some x) None ≡ None → b ≡ false
cond_none true x h = absurd cc
cond_none false x h = refl

not_true : (b : Bool) → ¬ (b ≡ true) → b ≡ false
not_true true h = absurd (h refl)
not_true false h = refl

at_end : (n m : ℕ) → n ≡ m → None ≡ cond (nat_lt n m) (Some n) None
at_end n m e = grind (arith, nat_tests)

at_place : (k n m : ℕ) → n ≡ k → k < m → Some k ≡ cond (nat_lt n m) (Some n) None
at_place k n m e h = rw e (grind (arith, nat_tests))

-- the first place whose byte passes, as a search of bytes gives it
pub first_place_is : (p : ℕ → Bool) (xs : List ℕ) (r : Option ℕ) → IsFirstByte p xs r → r ≡ position p xs
first_place_is p xs None h =
    at_end (position_or_len p xs) (length xs) (position_or_len_is p xs (length xs) 0 (omega arith) (λ k less. not_true (p (get_or xs k 0)) (h k (omega arith) less)) (λ less. absurd (omega (arith, less))))
first_place_is p xs (Some k) h =
    let before = h.0.before in
    let high = h.0.high in
    at_place k (position_or_len p xs) (length xs) (position_or_len_is p xs k 0 (omega (arith, high)) (λ j less. not_true (p (get_or xs j 0)) (before j (omega arith) less)) (λ less. h.1)) high

-- cut at the first separator
pub split_here : (p : ℕ → Bool) (xs : List ℕ) (i : ℕ) → position p xs ≡ Some i → slice_split p xs ≡ take i xs ∷ slice_split p (drop (i + 1) xs)
split_here p xs i h =
    let at = cond_some _ _ _ h in
    let within : position_or_len p xs < length xs = ltb-true _ _ at.0 in
    rw (← at.1) (slice_split_first p xs 0 within)

-- no separator
pub split_nowhere : (p : ℕ → Bool) (xs : List ℕ) → position p xs ≡ None → slice_split p xs ≡ xs ∷ []
split_nowhere p xs h =
    let past : length xs ≤ position_or_len p xs = ltb-false _ _ (cond_none _ _ h) in
    slice_split_none p xs (λ k d lt. fails_before_first p xs k d (omega arith))

-- there is a first part
pub a_part : (p : ℕ → Bool) (xs : List ℕ) → (part : List ℕ) × (more : List (List ℕ)) × (slice_split p xs ≡ part ∷ more)
a_part p [] = ([], [], refl)
a_part p (x ∷ xs) =
    let rest = a_part p xs in
    elim (cases_Bool (p x)) [
      | inl passes ↦ ([], slice_split p xs, slice_split-cons_yes p x xs passes)
      | inr fails ↦ (x ∷ rest.0, rest.1, slice_split-cons_no p x xs fails ∙ ap (onto_first x) rest.2)
    ]

-- a part before others is a line
pub keeps_part : (part next : List ℕ) (more : List (List ℕ)) → without_empty_end (part ∷ next ∷ more) ≡ part ∷ without_empty_end (next ∷ more)
keeps_part [] next more = refl
keeps_part (b ∷ bs) next more = refl

-- a last part with a byte is a line
pub keeps_last : (part : List ℕ) → 0 < length part → without_empty_end (part ∷ []) ≡ part ∷ []
keeps_last [] h = absurd (omega arith)
keeps_last (b ∷ bs) h = refl

-- the lines of what is cut at its first newline
pub lines_cut : (p : ℕ → Bool) (bytes line rest : List ℕ) → slice_split p bytes ≡ line ∷ slice_split p rest → without_empty_end (slice_split p bytes) ≡ line ∷ without_empty_end (slice_split p rest)
lines_cut p bytes line rest h =
    let some = a_part p rest in
    ap without_empty_end (h ∙ ap (λ (ps : List (List ℕ)). line ∷ ps) some.2) ∙ keeps_part line some.0 some.1 ∙ sym (ap (λ (ps : List (List ℕ)). line ∷ without_empty_end ps) some.2)
