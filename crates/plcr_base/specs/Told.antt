-- Lists that are told or not told, as what a sink has written, and how calls add to them.
-- std's `append_known told more` is the told list with these bytes behind it.
use Rattle.std.specs.Prelude.{◌≡◌, ◌⊎◌, ℕ, ◌<◌, List, [], ◌∷◌, ◌++◌, length, Option, None, Some, ⊤}
use Rattle.std.specs.Option.{option_map}
use Rattle.std.specs.Io.KnownBytes.{append_known}
use Rattle.plcr_base.specs.Causes.{Rose}

-- where it is told, it has this property
abbrev pub IfTold : {A : Type 0} → Option A → (A → Type 0) → Type 0
IfTold None P = ⊤
IfTold (Some x) P = P x

-- the list with one more entry at its end, where it is told
abbrev pub add : {A : Type 0} → Option (List A) → A → Option (List A)
add told entry = option_map (λ xs. xs ++ entry ∷ []) told

-- the list with one more entry at its end, where both are told
abbrev pub add_told : {A : Type 0} → Option (List A) → Option A → Option (List A)
add_told told None = None
add_told told (Some entry) = add told entry

-- what is told afterwards was told before, and has these more at its end
abbrev pub Gains : {A : Type 0} → Option (List A) → Option (List A) → List A → Type 0
Gains old None more = ⊤
Gains None (Some now) more = ⊥
Gains (Some before) (Some now) more = now ≡ before ++ more

-- a front of these bytes was appended, and the rest of them is left
pub record AppendsUpTo (old new : Option (List ℕ)) (bytes rest : List ℕ) : Type 0 where
  pub front : List ℕ
  pub parts : bytes ≡ front ++ rest
  pub appended : new ≡ append_known old front

-- a front of these bytes was appended, and not all of them
pub record AppendsProperFront (old new : Option (List ℕ)) (bytes : List ℕ) : Type 0 where
  pub front : List ℕ
  pub rest : List ℕ
  pub parts : bytes ≡ front ++ rest
  pub left : 0 < length rest
  pub appended : new ≡ append_known old front

-- these bytes were appended; or a front of them and not all, where the count of failures rose from
-- `before` to `after`
abbrev pub Prints : Option (List ℕ) → Option (List ℕ) → List ℕ → ℕ → ℕ → Type 0
Prints old new bytes before after = (new ≡ append_known old bytes)
    ⊎ (AppendsProperFront old new bytes × Rose before after)
