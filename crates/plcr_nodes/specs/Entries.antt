-- Words on lists that the rule is stated with.
use Rattle.std.specs.Prelude.{◌≡◌, ℕ, Bool, false, ◌||◌, ◌==◌, List, [], ◌∷◌, ◌++◌}

-- the number stands in the list
abbrev pub among : ℕ → List ℕ → Bool
among n [] = false
among n (x ∷ xs) = (x == n) || among n xs

-- The list went on from `old`. With the newest first, what was there before is the end of it
abbrev pub WentOn : {A : Type 0} → List A → List A → Type 0
WentOn {A = A} old all = (added : List A) × (all ≡ added ++ old)
