-- Several calls of `next` in one hold.
use Rattle.std.specs.Prelude.{◌≡◌, ◌⊎◌, ℕ, zero, suc, ◌<◌, true, false}
use Rattle.plcr_imagelist.specs.Holds.{HoldState, IsNext}

-- so many calls that each met an image
abbrev pub Meeting : ℕ → HoldState → HoldState → Type 0
Meeting zero old new = new ≡ old
Meeting (suc count) old new = (mid : HoldState) × Meeting count old mid × IsNext mid true new

-- at most so many calls, up to one that met none
pub record IsFurther (old : HoldState) (most : ℕ) (new : HoldState) : Type 0 where
  pub count : ℕ
  pub last : HoldState
  pub meeting : Meeting count old last
  pub end : ((count ≡ most) × (new ≡ last)) ⊎ ((count < most) × IsNext last false new)

-- calls up to the one that met none
pub record IsToEnd (old new : HoldState) : Type 0 where
  pub count : ℕ
  pub last : HoldState
  pub meeting : Meeting count old last
  pub end : IsNext last false new
