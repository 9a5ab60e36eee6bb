-- What is left has the faults of the whole; what is known of the fields passed, and the fields left, tell what all do.
use Rattle.std.proofs.Common.{◌≡◌, ◌+◌, ◌*◌, ◌≤◌, length}
use Rattle.plcr_wire.specs.Reading.{value_slice_len}
use Rattle.plcr_decode.specs.Fields.{fields_of}
use Rattle.plcr_decode.specs.Scan as spec
use Rattle.plcr_decode.specs.inner.Marks.{MarksUpTo}
use Rattle.plcr_decode.proofs.checking.+checking.Given as goal

abbrev pub decreases-check : goal.decreases-check
decreases-check l = 4 * length l.bytes.now + 1

abbrev pub decreases-pass_field : goal.decreases-pass_field
decreases-pass_field l = 4 * length l.bytes.now

abbrev pub decreases-take : goal.decreases-take
decreases-take l = 4 * value_slice_len l.step.field.value + 3

abbrev pub decreases-take_message : goal.decreases-take_message
decreases-take_message l = 4 * length l.text.now + 2

abbrev pub invariant-check-loop-rest : goal.invariant-check-loop-rest
invariant-check-loop-rest l = record {
  short : length l.rest ≤ length l.fn.bytes;
  same : spec.scan l.kind l.end l.rest ≡ spec.scan l.kind l.end l.fn.bytes;
  marks : MarksUpTo l.kind l.marks (fields_of l.fn.bytes) (fields_of l.rest);
}

abbrev pub decreases-check-loop-rest : goal.decreases-check-loop-rest
decreases-check-loop-rest l = length l.rest
