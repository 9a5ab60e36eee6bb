use Rattle.std.proofs.Common.{◌≡◌, vec_capacity}
use Rattle.plcr_workers.specs.inner.Outputs.{AreEmpty}
use Rattle.plcr_workers.proofs.Made.{MakingEach}
use Rattle.plcr_workers.proofs.making.make_drafts.Given as goal

abbrev pub invariant-loop-at : goal.invariant-loop-at
invariant-loop-at g l =
    MakingEach g.D.Out.Sink.faults l.number l.script.statements l.at l.drafts.items (g.D.Desk.told l.initial.desk) (g.D.Desk.told l.desk)
    × (vec_capacity l.drafts ≡ vec_capacity l.initial.drafts) × AreEmpty g.D.Out.Sink.written l.drafts.items
