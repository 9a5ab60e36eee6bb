use Rattle.std.proofs.Common.{◌≡◌, reverse, take}
use Rattle.plcr_machine.specs.Nodes.{is_removed}
use Rattle.plcr_machine.proofs.plain.nodes.is_removed.Given as goal

abbrev pub invariant-loop-entry : goal.invariant-loop-entry
invariant-loop-entry l = l.removed ≡ is_removed l.node (reverse (take l.entry-index l.history))
