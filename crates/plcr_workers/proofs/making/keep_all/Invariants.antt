use Rattle.std.proofs.Common.{vec_len}
use Rattle.plcr_workers.proofs.Settled.{KeepingAll}
use Rattle.plcr_workers.proofs.making.keep_all.Given as goal

abbrev pub invariant-loop-drafts : goal.invariant-loop-drafts
invariant-loop-drafts g l = KeepingAll g.D.Out.Sink.written g.D.Out.Sink.faults l.scripts l.fn.all.items l.all.items (g.D.Desk.told l.initial.desk) (g.D.Desk.told l.desk)

abbrev pub decreases-loop-drafts : goal.decreases-loop-drafts
decreases-loop-drafts g l = vec_len l.all
