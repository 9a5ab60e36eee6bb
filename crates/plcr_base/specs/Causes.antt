-- Counts of failures, and what it is for one to rise.
use Rattle.std.specs.Prelude.{ℕ, ◌-◌, ◌^◌, ◌<◌, ◌≤◌, ◌⊎◌}

-- a count of 64 bits rose in a call: it is greater after the call than before it, or stands at its
-- greatest value
abbrev pub Rose : ℕ → ℕ → Type 0
Rose before after = (before < after) ⊎ (2 ^ 64 - 1 ≤ after)
