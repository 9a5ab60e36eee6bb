-- One field more is passed: its message is built where it is of one of the numbers.
use Rattle.plcr_wire.specs.Reading.{field_slice}
use Rattle.plcr_decode.specs.Fields.{fields_of}
use Rattle.plcr_decode.proofs.Rowed.{rows_more, room_more}
use Rattle.plcr_decode.proofs.messages.build_each.Goals as goal

pub loop-field-preserved : goal.loop-field-preserved
loop-field-preserved g c =
    let one = c.in-Some.field in
    let f = (field_slice one).0 in
    let fs = fields_of one.rest.now in
    let gs = fields_of c.loop-field.rest.now in
    let first = c.in_ok-build_row.ensures in
    let second = c.in_ok-build_row-2.ensures in
    record {
      ones = rows_more g.A.Row.value c.args.numbers.0 f fs gs c.loop-field.ones.items c.build_row.new.rows.items _ c.in-Some.ensures.first first.rows c.loop-field.invariant.ones;
      others = rows_more g.B.Row.value c.args.numbers.1 f fs gs c.loop-field.others.items c.build_row-in-Some.new.rows.items _ c.in-Some.ensures.first second.rows c.loop-field.invariant.others;
      room = rw first.room (room_more c.args.numbers.0 _ _ _ f fs gs c.in-Some.ensures.first first.len c.loop-field.invariant.room);
      other_room = rw second.room (room_more c.args.numbers.1 _ _ _ f fs gs c.in-Some.ensures.first second.len c.loop-field.invariant.other_room);
    }
