-- The fields left are the same until one is found.
use Rattle.std.proofs.Common.{◌≡◌, ◌≤◌, length}
use Rattle.plcr_decode.specs.inner.Views.{left, size}
use Rattle.plcr_decode.proofs.fields.Fields.next.Given as goal

abbrev pub invariant-loop-field : goal.invariant-loop-field
invariant-loop-field l = record {
  same : left l.self ≡ left l.fn.self;
  short : size l.self ≤ size l.fn.self;
}

abbrev pub decreases-loop-field : goal.decreases-loop-field
decreases-loop-field l = length l.self.outer.now
