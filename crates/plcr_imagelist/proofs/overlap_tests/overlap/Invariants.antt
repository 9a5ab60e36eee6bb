use Rattle.std.proofs.Common.{◌≡◌}
use Rattle.plcr_imagelist.proofs.overlap_tests.overlap.Given as goal

abbrev pub invariant-loop-turn : goal.invariant-loop-turn
invariant-loop-turn g l = (l.writer.table ≡ l.list) × (l.inside.walker.table ≡ l.list) × (l.outside.table ≡ l.list)
