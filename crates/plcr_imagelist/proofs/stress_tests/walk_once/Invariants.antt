use Rattle.std.proofs.Common.{◌≡◌}
use Rattle.plcr_imagelist.proofs.stress_tests.walk_once.Given as goal

abbrev pub invariant-loop : goal.invariant-loop
invariant-loop l = l.hold.walker.table ≡ l.list
