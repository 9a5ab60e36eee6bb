use Rattle.plcr_workers.specs.inner.Outputs.{HaveEmpty}
use Rattle.plcr_workers.proofs.Made.{MakingAll}
use Rattle.plcr_workers.proofs.making.make_all.Given as goal

abbrev pub invariant-loop-script : goal.invariant-loop-script
invariant-loop-script g l = MakingAll g.D.Out.Sink.faults l.scripts l.script l.initial.workers l.workers (g.D.Desk.told l.initial.desk) (g.D.Desk.told l.desk) × HaveEmpty g.D.Out.Sink.written l.workers
