use Rattle.std.proofs.Common.{◌≡◌, reverse}
use Rattle.plcr_machine.specs.Passes.{all_under}
use Rattle.plcr_machine.specs.Nodes.{is_let_go}
use Rattle.plcr_machine.proofs.plain.nodes.is_cleared.Given as goal

abbrev pub invariant-loop-pass : goal.invariant-loop-pass
invariant-loop-pass l = l.cleared ≡ all_under (λ p. is_let_go p l.node (reverse l.history)) l.pass
