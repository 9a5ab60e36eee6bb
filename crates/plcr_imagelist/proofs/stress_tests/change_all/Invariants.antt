use Rattle.std.proofs.Common.{◌≡◌}
use Rattle.plcr_imagelist.proofs.stress_tests.change_all.Given as goal

abbrev pub invariant-loop-change : goal.invariant-loop-change
invariant-loop-change l = l.writer.table ≡ l.list
