use Rattle.std.proofs.Common.{length, vec_len}
use Rattle.plcr_workers.specs.inner.Outputs.{HasDropped, HasOpenFor, in_order}
use Rattle.plcr_workers.proofs.making.abandon_all.Given as goal

abbrev pub invariant-loop-drafts : goal.invariant-loop-drafts
invariant-loop-drafts g l = record {
  dropped : HasDropped (g.D.Desk.told l.initial.desk) (g.D.Desk.told l.desk);
  left : HasOpenFor (length (in_order l.all.items)) (g.D.Desk.told l.desk);
}

abbrev pub decreases-loop-drafts : goal.decreases-loop-drafts
decreases-loop-drafts g l = vec_len l.all
