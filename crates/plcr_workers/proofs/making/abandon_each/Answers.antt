use Rattle.plcr_workers.proofs.Settled.{drop_none, drop_one, one_left}
use Rattle.plcr_workers.proofs.making.abandon_each.Goals as goal

pub loop-draft-init : goal.loop-draft-init
loop-draft-init g c = drop_none c.args.drafts.items (g.D.Desk.told c.args.desk.now)

pub abandon-requires : goal.abandon-requires
abandon-requires g c = one_left c.args.drafts.items c.loop-draft.drafts.items c.pop.new.self.items c.in-Some.draft (g.D.Desk.told c.args.desk.now) (g.D.Desk.told c.loop-draft.desk) c.in-Some.ensures.items c.requires.«open» c.loop-draft.invariant

pub loop-draft-preserved : goal.loop-draft-preserved
loop-draft-preserved g c =
    let e = c.abandon.ensures in
    drop_one c.args.drafts.items c.loop-draft.drafts.items c.pop.new.self.items c.in-Some.draft (g.D.Out.Sink.written c.in-Some.draft.out) (g.D.Desk.told c.args.desk.now) (g.D.Desk.told c.loop-draft.desk) (g.D.Desk.told c.abandon.new.self) c.in-Some.ensures.items c.loop-draft.invariant
    e.made e.kept e.listed (record { files = e.files; taken = e.taken; take_faults = e.take_faults; out_faults = e.later })
