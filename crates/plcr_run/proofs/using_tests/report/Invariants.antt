use Rattle.std.proofs.Common.{◌≡◌}
use Rattle.plcr_run.proofs.using_tests.report.Given as goal

abbrev pub invariant-loop : goal.invariant-loop
invariant-loop g l = l.hold.walker.table ≡ l.initial.hold.walker.table
