use Rattle.std.proofs.Common.{◌≡◌}
use Rattle.plcr_nodes.specs.Opening.{opened_passes}
use Rattle.plcr_nodes.specs.inner.Seats.{IsOpening}
use Rattle.plcr_nodes.proofs.nodes.Nodes.give_numbers.Given as goal

abbrev pub invariant-loop-number : goal.invariant-loop-number
invariant-loop-number l = (l.seat.table_id ≡ l.self) × IsOpening l.nodes l.passes l.number l.self l.seat.me × (l.all.items ≡ opened_passes l.self l.nodes l.passes l.number)
