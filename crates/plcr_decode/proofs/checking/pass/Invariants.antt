-- What is left has the faults of the whole; the numbers passed, and those left, are all.
use Rattle.std.proofs.Common.{◌≡◌, ◌<◌, ◌≤◌, ℕ, cond, true, length}
use Rattle.plcr_decode.specs.Fields.{fields_of, has}
use Rattle.plcr_decode.specs.Scan as spec
use Rattle.plcr_decode.specs.inner.Marks.{seen}
use Rattle.plcr_decode.proofs.checking.pass.Given as goal

abbrev pub invariant-loop-rest : goal.invariant-loop-rest
invariant-loop-rest l = record {
  short : length l.rest ≤ length l.fn.bytes;
  same : spec.scan l.kind l.end l.rest ≡ spec.scan l.kind l.end l.fn.bytes;
  sees : (m : ℕ) → m < 10 → cond (seen l.seen m) true (has m (fields_of l.rest)) ≡ cond (seen l.fn.seen m) true (has m (fields_of l.fn.bytes));
}

abbrev pub decreases-loop-rest : goal.decreases-loop-rest
decreases-loop-rest l = length l.rest
