use Rattle.std.proofs.Common.{◌-◌}
use Rattle.plcr_memory.proofs.Halves.{Halves}
use Rattle.plcr_memory.proofs.checks.second_of_overlap.Given as goal

abbrev pub invariant-loop-high : goal.invariant-loop-high
invariant-loop-high l = Halves l.regions l.low l.high

abbrev pub decreases-loop-high : goal.decreases-loop-high
decreases-loop-high l = l.high - l.low
