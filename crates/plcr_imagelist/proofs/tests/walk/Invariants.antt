use Rattle.std.proofs.Common.{◌≡◌}
use Rattle.plcr_imagelist.proofs.tests.walk.Given as goal

abbrev pub invariant-loop-turn : goal.invariant-loop-turn
invariant-loop-turn l = l.hold.walker.table ≡ l.list
