use Rattle.std.proofs.Common.{◌-◌, ◌≤◌, length}
use Rattle.std.specs.List.{AllAdjacentBelow}
use Rattle.plcr_encode.specs.inner.Lookups.{Continues}
use Rattle.plcr_encode.proofs.lookups.run_len.Given as goal

-- the lookups up to the run's length continue each other
abbrev pub invariant-loop-run : goal.invariant-loop-run
invariant-loop-run l = record {
  some : 1 ≤ l.run;
  within : l.run ≤ length l.lookups;
  run : AllAdjacentBelow Continues l.lookups l.run;
}

abbrev pub decreases-loop-run : goal.decreases-loop-run
decreases-loop-run l = length l.lookups - l.run
