-- The first of two varints leaves room for the second.
use Rattle.std.proofs.Common.{rules, arith}
use Rattle.plcr_wire.proofs.Holding.{room_left}
use Rattle.plcr_wire.proofs.buffered.Pieces.two_varints.Goals as goal

pub push_varint-requires-then-remaining_capacity : goal.push_varint-requires-then-remaining_capacity
push_varint-requires-then-remaining_capacity g c =
    (search rules, room_left _ _ c.args.first g.row.ROOM c.push_varint.ensures c.ranges.first.fits (let left = c.remaining_capacity.ensures in let many = c.if-remaining_capacity.true in omega (arith, left, many)))
