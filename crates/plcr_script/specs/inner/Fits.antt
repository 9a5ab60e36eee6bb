-- What is true of what a line says, and of the bases of its numbers.
use Rattle.std.specs.Prelude.{◌≡◌, ℕ, ◌≤◌, ◌<◌, ◌^◌, false, [], length}
use Rattle.plcr_script.specs.inner.Keys.{IsAllowed}
use Rattle.plcr_script.specs.Sayings.{Saying, Sizes, Number, Words, States}
use Rattle.plcr_script.specs.Places.{HasPass}
use Rattle.plcr_script.specs.Lawful.{AreSizes, IsFitStatement, IsLawful}
use Rattle.plcr_script.specs.Reading.{DraftValue}

-- what a line says is within its limits, where there are this many passes
abbrev pub IsFit : ℕ → Saying → Type 0
IsFit count (Sizes nodes passes) = AreSizes nodes passes
IsFit count (Number key number) = IsAllowed key number
IsFit count (Words key text) = length text < 2 ^ 32
IsFit count (States statement) = IsFitStatement statement × HasPass count statement

-- the script of a draft is lawful, and has no statement where no line has said anything
pub record IsLawfulDraft (draft : DraftValue) : Type 0 where
  pub script : IsLawful draft.script
  pub first : draft.begun ≡ false → draft.script.statements ≡ []

-- the two bases
abbrev pub IsBase : ℕ → Type 0
IsBase base = (2 ≤ base) × (base ≤ 16)
