use Rattle.std.proofs.Common.{◌↔◌, drop}
use Rattle.plcr_machine.specs.inner.Judging.{NoneWasMissed}
use Rattle.plcr_machine.proofs.plain.walks.none_was_missed.Given as goal

abbrev pub invariant-loop-image : goal.invariant-loop-image
invariant-loop-image l = NoneWasMissed l.lists l.from l.to l.met l.images ↔ NoneWasMissed l.lists l.from l.to l.met (drop l.image-index l.images)
