use Rattle.std.proofs.Common.{◌≡◌, reverse, take}
use Rattle.plcr_machine.specs.Nodes.{is_new}
use Rattle.plcr_machine.proofs.plain.nodes.is_new.Given as goal

abbrev pub invariant-loop-entry : goal.invariant-loop-entry
invariant-loop-entry l = l.new ≡ is_new l.node (reverse (take l.entry-index l.history))
