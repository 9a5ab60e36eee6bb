use Rattle.std.proofs.Common.{◌≡◌, ◌≤◌, reverse, take}
use Rattle.plcr_machine.specs.Passes.{counts}
use Rattle.plcr_machine.proofs.plain.passes.counts.Given as goal

abbrev pub invariant-loop-entry : goal.invariant-loop-entry
invariant-loop-entry l = (l.counted ≡ counts (reverse (take l.entry-index l.history))) × (l.counted ≤ l.entry-index)
