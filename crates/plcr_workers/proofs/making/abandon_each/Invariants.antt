use Rattle.std.proofs.Common.{vec_len}
use Rattle.plcr_workers.proofs.Settled.{DroppingEach}
use Rattle.plcr_workers.proofs.making.abandon_each.Given as goal

abbrev pub invariant-loop-draft : goal.invariant-loop-draft
invariant-loop-draft g l = DroppingEach l.fn.drafts.items l.drafts.items (g.D.Desk.told l.initial.desk) (g.D.Desk.told l.desk)

abbrev pub decreases-loop-draft : goal.decreases-loop-draft
decreases-loop-draft g l = vec_len l.drafts
