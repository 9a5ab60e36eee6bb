use Rattle.std.proofs.Common.{◌≡◌}
use Rattle.plcr_imagelist.proofs.tests.keeps_a_change.Given as goal

abbrev pub invariant-loop-made : goal.invariant-loop-made
invariant-loop-made g l = (l.pass.table ≡ l.list) × (l.change.writer.table ≡ l.list)
