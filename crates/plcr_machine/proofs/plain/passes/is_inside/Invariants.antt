use Rattle.std.proofs.Common.{◌≡◌, reverse, take}
use Rattle.plcr_machine.specs.Passes.{is_inside}
use Rattle.plcr_machine.proofs.plain.passes.is_inside.Given as goal

abbrev pub invariant-loop-entry : goal.invariant-loop-entry
invariant-loop-entry l = l.inside ≡ is_inside l.pass (reverse (take l.entry-index l.history))
