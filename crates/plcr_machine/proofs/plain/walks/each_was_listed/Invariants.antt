use Rattle.std.proofs.Common.{◌↔◌, drop}
use Rattle.plcr_machine.specs.inner.Judging.{EachWasListed}
use Rattle.plcr_machine.proofs.plain.walks.each_was_listed.Given as goal

abbrev pub invariant-loop-image : goal.invariant-loop-image
invariant-loop-image l = EachWasListed l.lists l.from l.to l.met ↔ EachWasListed l.lists l.from l.to (drop l.image-index l.met)
