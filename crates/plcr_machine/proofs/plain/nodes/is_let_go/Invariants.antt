use Rattle.std.proofs.Common.{◌≡◌, reverse, take}
use Rattle.plcr_machine.specs.Nodes.{is_let_go}
use Rattle.plcr_machine.proofs.plain.nodes.is_let_go.Given as goal

abbrev pub invariant-loop-i : goal.invariant-loop-i
invariant-loop-i l = l.gone ≡ is_let_go l.pass l.node (reverse (take l.i l.history))
