use Rattle.std.proofs.Common.{◌≡◌, reverse, take}
use Rattle.plcr_machine.specs.Passes.{is_announced}
use Rattle.plcr_machine.proofs.plain.passes.is_announced.Given as goal

abbrev pub invariant-loop-entry : goal.invariant-loop-entry
invariant-loop-entry l = l.announced ≡ is_announced l.pass (reverse (take l.entry-index l.history))
