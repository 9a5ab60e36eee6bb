-- The parts of what makes a walk lawful, as the plain program tests them.
use Rattle.std.specs.Prelude.{ℕ, ◌≤◌, List, [], ◌∷◌, Vec, Contains}
use Rattle.std.specs.Global.{Global}
use Rattle.plcr_machine.specs.declared.change.Named.{Named}
use Rattle.plcr_machine.specs.Changes.{lists_at}

-- an image stood in one of the lists from one number of changes to another, and in each of them
abbrev pub WasListed : List (Vec Named Global) → ℕ → ℕ → Named → Type 0
WasListed lists from to image = (j : ℕ) × (from ≤ j) × (j ≤ to) × Contains (lists_at lists j) image

abbrev pub StayedListed : List (Vec Named Global) → ℕ → ℕ → Named → Type 0
StayedListed lists from to image = (j : ℕ) → from ≤ j → j ≤ to → Contains (lists_at lists j) image

-- each of some images stood in one of the lists
abbrev pub EachWasListed : List (Vec Named Global) → ℕ → ℕ → List Named → Type 0
EachWasListed lists from to [] = Unit {0}
EachWasListed lists from to (image ∷ images) = WasListed lists from to image
    × EachWasListed lists from to images

-- of some images each that stood in all of the lists was met
abbrev pub NoneWasMissed : List (Vec Named Global) → ℕ → ℕ → List Named → List Named → Type 0
NoneWasMissed lists from to met [] = Unit {0}
NoneWasMissed lists from to met (image ∷ images) =
    (StayedListed lists from to image → Contains met image) × NoneWasMissed lists from to met images
