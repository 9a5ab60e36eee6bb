-- The numbers that a key may have.
use Rattle.std.specs.Prelude.{◌≤◌, ◌<◌, ℕ}
use Rattle.plcr_script.specs.declared.keys.NumberKey.{NumberKey}
use Rattle.plcr_script.specs.Keys.{least_of, limit_of}

-- the number is one of the key's
abbrev pub IsAllowed : NumberKey → ℕ → Type 0
IsAllowed key number = (least_of key ≤ number) × (number < limit_of key)
