use Rattle.std.proofs.Common.{◌≡◌, ◌≤◌, reverse, take}
use Rattle.plcr_machine.specs.Passes.{counts}
use Rattle.plcr_machine.specs.Nodes.{counts_before}
use Rattle.plcr_machine.proofs.plain.nodes.counts_before.Given as goal

abbrev pub invariant-loop-entry : goal.invariant-loop-entry
invariant-loop-entry l = (l.before ≡ counts_before l.node (reverse (take l.entry-index l.history))) × (l.counted ≡ counts (reverse (take l.entry-index l.history))) × (l.counted ≤ l.entry-index)
