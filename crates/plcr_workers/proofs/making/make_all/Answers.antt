use Rattle.std.proofs.Common.{arith}
use Rattle.std.proofs.lemmas.List.Elements.{All-set}
use Rattle.plcr_workers.specs.declared.worker.Worker.{Worker}
use Rattle.plcr_workers.specs.inner.Outputs.{AreEmpty}
use Rattle.plcr_workers.proofs.Made.{makes_none, makes_one, makes_cut, makes_same, makes_all, new_empty, new_have_empty, still_new, ok_of, err_of, stands_in}
use Rattle.plcr_workers.proofs.making.make_all.Goals as goal

pub loop-script-init : goal.loop-script-init
loop-script-init g c = (makes_none g.D.Out.Sink.faults c.args.scripts.now c.args.workers.now (g.D.Desk.told c.args.desk.now) (new_empty c.args.scripts.now c.args.workers.now c.requires.new), new_have_empty g.D.Out.Sink.written c.args.scripts.now c.args.workers.now c.requires.new)

pub make_for-requires-clause-none : goal.make_for-requires-clause-none
make_for-requires-clause-none g c =
    let less = c.loop-script-test.true in let count = c.requires.count in
    (still_new g.D.Out.Sink.faults c.args.scripts.now c.loop-script.script c.args.workers.now c.loop-script.workers (g.D.Desk.told c.args.desk.now) (g.D.Desk.told c.loop-script.desk) c.requires.new (omega (arith, less, count)) c.loop-script.invariant.0 c.index-workers-script.result).none

pub make_for-requires-clause-room : goal.make_for-requires-clause-room
make_for-requires-clause-room g c =
    let less = c.loop-script-test.true in let count = c.requires.count in
    (still_new g.D.Out.Sink.faults c.args.scripts.now c.loop-script.script c.args.workers.now c.loop-script.workers (g.D.Desk.told c.args.desk.now) (g.D.Desk.told c.loop-script.desk) c.requires.new (omega (arith, less, count)) c.loop-script.invariant.0 c.index-workers-script.result).room c.index-scripts-script.result (stands_in c.args.scripts.now c.loop-script.script c.index-scripts-script.result less c.index-scripts-script.is)

pub returns-in-Err-clause-err : goal.returns-in-Err-clause-err
returns-in-Err-clause-err g c =
    let less = c.loop-script-test.true in let count = c.requires.count in
    makes_cut g.D.Out.Sink.faults c.args.scripts.now c.args.workers.now c.loop-script.script c.loop-script.workers c.make_for.new.worker c.index-scripts-script.result (g.D.Desk.told c.args.desk.now) (g.D.Desk.told c.loop-script.desk) (g.D.Desk.told c.make_for.new.desk) (stands_in c.args.scripts.now c.loop-script.script c.index-scripts-script.result less c.index-scripts-script.is) (omega (arith, less, count)) (new_empty c.args.scripts.now c.args.workers.now c.requires.new) c.loop-script.invariant.0 c.index-workers-script.result c.make_for.ensures.same c.in-Err.at (err_of _ c.in-Err.is c.make_for.ensures.err)

pub returns-in-Err-clause-same : goal.returns-in-Err-clause-same
returns-in-Err-clause-same g c =
    let less = c.loop-script-test.true in let count = c.requires.count in
    makes_same g.D.Out.Sink.faults c.args.scripts.now c.args.workers.now c.loop-script.script c.loop-script.workers c.make_for.new.worker c.index-scripts-script.result (g.D.Desk.told c.args.desk.now) (g.D.Desk.told c.loop-script.desk) (g.D.Desk.told c.make_for.new.desk) (stands_in c.args.scripts.now c.loop-script.script c.index-scripts-script.result less c.index-scripts-script.is) (omega (arith, less, count)) (new_empty c.args.scripts.now c.args.workers.now c.requires.new) c.loop-script.invariant.0 c.index-workers-script.result c.make_for.ensures.same

pub loop-script-preserved : goal.loop-script-preserved
loop-script-preserved g c =
    let less = c.loop-script-test.true in let count = c.requires.count in (
      makes_one g.D.Out.Sink.faults c.args.scripts.now c.args.workers.now c.loop-script.script c.loop-script.workers c.make_for.new.worker c.index-scripts-script.result (g.D.Desk.told c.args.desk.now) (g.D.Desk.told c.loop-script.desk) (g.D.Desk.told c.make_for.new.desk) (stands_in c.args.scripts.now c.loop-script.script c.index-scripts-script.result less c.index-scripts-script.is) (omega (arith, less, count)) (new_empty c.args.scripts.now c.args.workers.now c.requires.new) c.loop-script.invariant.0 c.index-workers-script.result c.make_for.ensures.same (ok_of c.in_default.is c.make_for.ensures.ok),
      All-set (λ (w : Worker g.row.D-Out.Denot). AreEmpty g.D.Out.Sink.written w.drafts.items) c.loop-script.workers c.loop-script.script c.make_for.new.worker c.make_for.ensures.empty c.loop-script.invariant.1,
    )

pub returns-clause-ok : goal.returns-clause-ok
returns-clause-ok g c =
    let count = c.requires.count in let same = c.loop-script.invariant.0.same.count in
    makes_all g.D.Out.Sink.faults c.args.scripts.now c.args.workers.now c.loop-script.script c.loop-script.workers (g.D.Desk.told c.args.desk.now) (g.D.Desk.told c.loop-script.desk) (omega arith) (omega (arith, count, same)) c.loop-script.invariant.0

pub returns-clause-same : goal.returns-clause-same
returns-clause-same g c = c.loop-script.invariant.0.same

pub returns-in-Err-clause-empty : goal.returns-in-Err-clause-empty
returns-in-Err-clause-empty g c = All-set (λ (w : Worker g.row.D-Out.Denot). AreEmpty g.D.Out.Sink.written w.drafts.items) c.loop-script.workers c.loop-script.script c.make_for.new.worker c.make_for.ensures.empty c.loop-script.invariant.1

pub returns-clause-empty : goal.returns-clause-empty
returns-clause-empty g c = c.loop-script.invariant.1
