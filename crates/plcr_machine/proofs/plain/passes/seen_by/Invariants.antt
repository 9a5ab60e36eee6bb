use Rattle.std.proofs.Common.{◌≡◌, reverse, take}
use Rattle.plcr_machine.specs.Passes.{seen_by}
use Rattle.plcr_machine.proofs.plain.passes.seen_by.Given as goal

abbrev pub invariant-loop-entry : goal.invariant-loop-entry
invariant-loop-entry l = l.last ≡ seen_by l.pass (reverse (take l.entry-index l.history))
