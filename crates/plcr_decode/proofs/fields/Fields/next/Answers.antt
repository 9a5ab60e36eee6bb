-- The next part begins where the last one is done.
use Rattle.std.proofs.Common.{arith, ◌∙◌, ◌+◌, ◌<◌, ◌≤◌, length}
use Rattle.plcr_wire.specs.Reading.{field_slice, value_slice_len}
use Rattle.plcr_decode.proofs.Listed.{next_part}
use Rattle.plcr_decode.proofs.fields.Fields.next.Goals as goal

pub loop-field-preserved : goal.loop-field-preserved
loop-field-preserved c =
    let found = c.in_ok-field-in-None.field in
    record {
      same = next_part c.loop-field.self.number (field_slice found).0 c.loop-field.self.part.now c.loop-field.self.outer.now found.rest.now c.part_of-self.result.now
          c.in-None.ensures.first c.in_ok-field-in-None.ensures.first c.part_of-self.ensures.part ∙ c.loop-field.invariant.same;
      short =
          let less : value_slice_len found.value + length found.rest.now < length c.loop-field.self.outer.now = c.in_ok-field-in-None.ensures.shorter in
          let within : length c.part_of-self.result.now ≤ value_slice_len found.value = c.part_of-self.ensures.within in
          omega arith;
    }
