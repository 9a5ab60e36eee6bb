use Rattle.std.proofs.Common.{◌≡◌, length}
use Rattle.plcr_imagelist.specs.Walk.{images_of}
use Rattle.plcr_imagelist.proofs.stress_tests.read.Given as goal

abbrev pub invariant-loop-at : goal.invariant-loop-at
invariant-loop-at l = (l.hold.walker.table ≡ l.list) × (length (images_of l.hold) ≡ l.count)
