use Rattle.std.proofs.Common.{ℕ, ◌<◌}
use Rattle.plcr_memory.specs.Regions.{region_at, Ends}
use Rattle.plcr_memory.proofs.checks.first_wrap.Given as goal

-- no region so far wraps
abbrev pub invariant-loop-index : goal.invariant-loop-index
invariant-loop-index l = (k : ℕ) → k < l.index → Ends (region_at l.regions k)
