-- No part of the message stands in the fields passed.
use Rattle.std.proofs.Common.{◌≡◌, length}
use Rattle.plcr_decode.specs.Fields.{fields_of, joined}
use Rattle.plcr_decode.proofs.fields.from_first.Given as goal

abbrev pub invariant-loop-field : goal.invariant-loop-field
invariant-loop-field l = joined l.number (fields_of l.rest) ≡ joined l.number (fields_of l.fn.bytes)

abbrev pub decreases-loop-field : goal.decreases-loop-field
decreases-loop-field l = length l.rest
