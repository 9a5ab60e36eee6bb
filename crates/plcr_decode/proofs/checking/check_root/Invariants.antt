-- What is left has the faults of the whole; what is known of the fields passed, and the fields left, tell what all do.
use Rattle.std.proofs.Common.{◌≡◌, ◌-◌, ◌≤◌, length}
use Rattle.plcr_report.specs.declared.kinds.Kind.TheVariants as kinds
use Rattle.plcr_decode.specs.Fields.{fields_of}
use Rattle.plcr_decode.specs.Scan as spec
use Rattle.plcr_decode.specs.inner.Marks.{MarksUpTo}
use Rattle.plcr_decode.specs.inner.Lasts.{KeepsUpTo}
use Rattle.plcr_decode.proofs.Kept.{Few}
use Rattle.plcr_decode.proofs.checking.check_root.Given as goal

abbrev pub invariant-loop-rest : goal.invariant-loop-rest
invariant-loop-rest l = record {
  short : length l.rest ≤ length l.fn.bytes;
  same : spec.scan kinds.Root l.end l.rest ≡ spec.scan kinds.Root l.end l.fn.bytes;
  marks : MarksUpTo kinds.Root l.marks (fields_of l.fn.bytes) (fields_of l.rest);
  keeps : KeepsUpTo l.kept (fields_of l.fn.bytes) (fields_of l.rest);
  few : Few l.kept (length l.fn.bytes - length l.rest);
}

abbrev pub decreases-loop-rest : goal.decreases-loop-rest
decreases-loop-rest l = length l.rest
