use Rattle.std.proofs.Common.{◌≡◌, take}
use Rattle.plcr_machine.proofs.plain.changes.copy_of.Given as goal

abbrev pub invariant-loop-image : goal.invariant-loop-image
invariant-loop-image l = l.copy.items ≡ take l.image-index l.list
