-- The room that is left holds what is left of the varint.
use Rattle.std.proofs.Common.{rules, arith, ap, length}
use Rattle.plcr_wire.proofs.Varints.{varint_large, varint_some}
use Rattle.plcr_wire.proofs.Holding.{varint_held, varint_last}
use Rattle.plcr_wire.proofs.varint.push_groups.Goals as goal

pub push-requires : goal.push-requires
push-requires g c = (search rules, let some = varint_some c.loop-rest.rest in let room = c.loop-rest.invariant.room in omega (arith, some, room))

pub loop-rest-preserved : goal.loop-rest-preserved
loop-rest-preserved g c = record {
  whole = varint_held _ _ _ _ c.loop-rest.invariant.whole c.push.ensures.items (omega arith);
  room =
      let large = ap length (varint_large c.loop-rest.rest (omega arith)) in
      let room = c.loop-rest.invariant.room in
      let len = c.push.ensures.len in
      omega (arith, large, room, len);
}

pub push-requires-2 : goal.push-requires-2
push-requires-2 g c = (search rules, let some = varint_some c.loop-rest.rest in let room = c.loop-rest.invariant.room in omega (arith, some, room))

pub returns : goal.returns
returns g c = varint_last _ _ _ _ c.loop-rest.invariant.whole c.push-2.ensures.items (omega arith)
