use Rattle.std.proofs.Common.{refl}
use Rattle.plcr_workers.proofs.Settled.{unkept_one, waits_faulty, failed_faulty}
use Rattle.plcr_workers.proofs.Opened.{after_drop}
use Rattle.plcr_workers.proofs.making.keep.Goals as goal

pub returns-in-Err-clause-err : goal.returns-in-Err-clause-err
returns-in-Err-clause-err g c =
    let e = c.in-Err.ensures in
    unkept_one g.D.Out.Sink.written c.args.scripts.now c.args.draft c.args.draft.script c.args.draft.at (g.D.Desk.told c.args.desk.now) (g.D.Desk.told c.keep.new.self) refl refl e.made e.unlisted e.failed
    (record { files = e.files; taken = e.taken; take_faults = e.take_faults; out_faults = e.later })

pub returns-in-Waiting : goal.returns-in-Waiting
returns-in-Waiting g c =
    let e = c.abandon.ensures in
    record {
      ok = tt;
      err = unkept_one g.D.Out.Sink.written c.args.scripts.now c.args.draft c.args.draft.script c.args.draft.at (g.D.Desk.told c.args.desk.now) (g.D.Desk.told c.abandon.new.self) refl refl e.made e.kept
          (e.faulty (waits_faulty g.D.Out.Sink.faults c.args.draft c.requires.done c.in-Waiting.is))
          (record { files = e.files; taken = e.taken; take_faults = e.take_faults; out_faults = e.later });
      «open» = λ count h. after_drop count (g.D.Out.Sink.written c.args.draft.out) (g.D.Desk.told c.args.desk.now) (g.D.Desk.told c.abandon.new.self) h e.made e.kept e.listed;
    }

pub returns-in-Failed : goal.returns-in-Failed
returns-in-Failed g c =
    let e = c.abandon-in-Failed.ensures in
    record {
      ok = tt;
      err = unkept_one g.D.Out.Sink.written c.args.scripts.now c.args.draft c.args.draft.script c.args.draft.at (g.D.Desk.told c.args.desk.now) (g.D.Desk.told c.abandon-in-Failed.new.self) refl refl e.made e.kept
          (e.faulty (failed_faulty g.D.Out.Sink.faults c.args.draft c.requires.done c.in-Failed.is))
          (record { files = e.files; taken = e.taken; take_faults = e.take_faults; out_faults = e.later });
      «open» = λ count h. after_drop count (g.D.Out.Sink.written c.args.draft.out) (g.D.Desk.told c.args.desk.now) (g.D.Desk.told c.abandon-in-Failed.new.self) h e.made e.kept e.listed;
    }
