-- Limits that several crates share.
use Rattle.std.specs.Prelude.{◌≤◌, ℕ, List, length}
use Rattle.plcr_base.specs.declared.limits.TheConstants.{IMAGE_NAME_BYTES}

-- the name of an image is within its limit
abbrev pub IsImageName : List ℕ → Type 0
IsImageName name = length name ≤ IMAGE_NAME_BYTES
