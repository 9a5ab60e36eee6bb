use Rattle.std.proofs.Common.{reverse, take}
use Rattle.plcr_machine.specs.Histories.{IsLegal}
use Rattle.plcr_machine.proofs.plain.histories.is_legal.Given as goal

abbrev pub invariant-loop-i : goal.invariant-loop-i
invariant-loop-i l = IsLegal l.nodes l.passes (reverse (take l.i l.history))
