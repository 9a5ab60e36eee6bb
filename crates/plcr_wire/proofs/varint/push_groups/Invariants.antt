use Rattle.std.proofs.Common.{◌≡◌, ◌+◌, ◌≤◌, ◌++◌, length}
use Rattle.plcr_wire.specs.Varint.{varint}
use Rattle.plcr_wire.proofs.varint.push_groups.Given as goal

-- what is held and what is left make up the whole, for which there is room
abbrev pub invariant-loop-rest : goal.invariant-loop-rest
invariant-loop-rest g l = record {
  whole : l.held.items ++ varint l.rest ≡ l.initial.held.items ++ varint l.value;
  room : length l.held.items + length (varint l.rest) ≤ g.row.ROOM;
}

abbrev pub decreases-loop-rest : goal.decreases-loop-rest
decreases-loop-rest g l = l.rest
