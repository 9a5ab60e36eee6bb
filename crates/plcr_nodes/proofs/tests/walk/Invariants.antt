use Rattle.std.proofs.Common.{◌≡◌, ◌⊎◌, true}
use Rattle.plcr_machine.specs.Passes.{is_inside}
use Rattle.plcr_nodes.specs.Entries.{among}
use Rattle.plcr_nodes.proofs.tests.walk.Given as goal

abbrev pub invariant-loop-turn : goal.invariant-loop-turn
invariant-loop-turn l = (l.pass.table ≡ l.nodes) × (is_inside l.pass.number l.pass.history ≡ true) × ((l.node ≡ 0) ⊎ (among l.node l.pass.given ≡ true))
