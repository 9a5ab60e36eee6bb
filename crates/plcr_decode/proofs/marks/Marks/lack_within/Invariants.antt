-- The messages in the fields passed lack nothing.
use Rattle.std.proofs.Common.{◌≡◌, length}
use Rattle.std.specs.List.{AllByRecursion}
use Rattle.plcr_decode.specs.inner.Entries.{rows_of}
use Rattle.plcr_decode.specs.inner.Marks.{Small, inner_by}
use Rattle.plcr_decode.proofs.marks.Marks.lack_within.Given as goal

abbrev pub invariant-loop-entry : goal.invariant-loop-entry
invariant-loop-entry l = record {
  same : inner_by l.self (rows_of l.rest) ≡ inner_by l.self (rows_of l.fn.entries);
  small : AllByRecursion Small (rows_of l.rest);
}

abbrev pub decreases-loop-entry : goal.decreases-loop-entry
decreases-loop-entry l = length l.rest
