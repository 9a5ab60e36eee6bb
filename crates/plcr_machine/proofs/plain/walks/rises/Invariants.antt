use Rattle.std.proofs.Common.{◌↔◌, drop}
use Rattle.plcr_machine.specs.Walks.{RisesAbove}
use Rattle.plcr_machine.specs.Changes.{load_of}
use Rattle.plcr_machine.proofs.plain.walks.rises.Given as goal

abbrev pub invariant-loop-image : goal.invariant-loop-image
invariant-loop-image l = RisesAbove load_of 0 l.met ↔ RisesAbove load_of l.last (drop l.image-index l.met)
