-- The fields passed are there, where they have to be.
use Rattle.std.proofs.Common.{◌≡◌, length}
use Rattle.std.specs.List.{AllByRecursion}
use Rattle.plcr_decode.specs.Required.{required_of}
use Rattle.plcr_decode.specs.inner.Entries.{rows_of}
use Rattle.plcr_decode.specs.inner.Marks.{Small, needs_by}
use Rattle.plcr_decode.proofs.marks.lacking.Given as goal

abbrev pub invariant-loop-entry : goal.invariant-loop-entry
invariant-loop-entry l = record {
  same : needs_by l.kind (required_of (rows_of l.rest)) l.fields ≡ needs_by l.kind (required_of (rows_of l.fn.entries)) l.fields;
  small : AllByRecursion Small (rows_of l.rest);
}

abbrev pub decreases-loop-entry : goal.decreases-loop-entry
decreases-loop-entry l = length l.rest
