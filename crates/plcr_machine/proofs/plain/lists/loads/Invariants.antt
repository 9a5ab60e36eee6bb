use Rattle.std.proofs.Common.{◌≡◌, ◌≤◌, reverse, take}
use Rattle.plcr_machine.specs.Lists.{loads}
use Rattle.plcr_machine.proofs.plain.lists.loads.Given as goal

abbrev pub invariant-loop-entry : goal.invariant-loop-entry
invariant-loop-entry l = (l.loaded ≡ loads (reverse (take l.entry-index l.history))) × (l.loaded ≤ l.entry-index)
