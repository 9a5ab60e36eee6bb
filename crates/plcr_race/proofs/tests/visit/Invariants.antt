use Rattle.std.proofs.Common.{◌≡◌}
use Rattle.plcr_race.proofs.tests.visit.Given as goal

abbrev pub invariant-loop : goal.invariant-loop
invariant-loop l = l.hold.walker.table ≡ l.list
