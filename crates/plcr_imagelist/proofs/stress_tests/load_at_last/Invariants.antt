use Rattle.std.proofs.Common.{◌≡◌}
use Rattle.plcr_imagelist.proofs.stress_tests.load_at_last.Given as goal

abbrev pub invariant-loop : goal.invariant-loop
invariant-loop l = l.writer.table ≡ l.list
