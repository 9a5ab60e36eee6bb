-- What is kept and the fields that are left give the last values; each field passed has a byte at least.
use Rattle.std.proofs.Common.{◌-◌, ◌≤◌}
use Rattle.plcr_decode.specs.inner.Views.{left, size}
use Rattle.plcr_decode.specs.inner.Lasts.{KeepsUpTo}
use Rattle.plcr_decode.proofs.Kept.{Few}
use Rattle.plcr_decode.proofs.found.Found.of.Given as goal

abbrev pub invariant-loop-field : goal.invariant-loop-field
invariant-loop-field l = record {
  keeps : KeepsUpTo l.kept (left l.fn.fields) (left l.left);
  few : Few l.kept (size l.fn.fields - size l.left);
  short : size l.left ≤ size l.fn.fields;
}

abbrev pub decreases-loop-field : goal.decreases-loop-field
decreases-loop-field l = size l.left
