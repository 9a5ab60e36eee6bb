use Rattle.std.proofs.Common.{◌≡◌, reverse, take}
use Rattle.plcr_machine.specs.Lists.{live}
use Rattle.plcr_machine.proofs.plain.lists.images.Given as goal

abbrev pub invariant-loop-entry : goal.invariant-loop-entry
invariant-loop-entry l = l.images.items ≡ live (reverse (take l.entry-index l.history))
