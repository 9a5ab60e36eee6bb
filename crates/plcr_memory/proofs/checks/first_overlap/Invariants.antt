use Rattle.std.proofs.Common.{ℕ, ◌<◌}
use Rattle.plcr_memory.specs.Regions.{region_at, Share}
use Rattle.plcr_memory.proofs.checks.first_overlap.Given as goal

-- no region so far shares an address with the second
abbrev pub invariant-loop-first : goal.invariant-loop-first
invariant-loop-first l = (k : ℕ) → k < l.first → ¬ Share (region_at l.regions k) (region_at l.regions l.second)
