use Rattle.std.proofs.Common.{All, subst, ◌∙◌}
use Rattle.plcr_script.specs.Meanings.{Meanings}
use Rattle.plcr_workers.specs.inner.Own.{KnowsOwnOf}
use Rattle.plcr_workers.specs.inner.Traces.{IsActed}
use Rattle.plcr_workers.proofs.Gone.{acted_all}
use Rattle.plcr_workers.proofs.Made.{ok_of}
use Rattle.plcr_workers.proofs.Worked.{hired_same, gone_all, know_all, numbered_same, numbered_taken, ready_all, has_worked, meanings_are, context_fits}
use Rattle.plcr_workers.specs.Command.{meanings_in}
use Rattle.plcr_workers.specs.inner.Reports.{HaveReports}
use Rattle.plcr_workers.proofs.stage.work.Goals as goal

pub returns-in-Err-clause-own : goal.returns-in-Err-clause-own
returns-in-Err-clause-own g c =
    know_all (meanings_in c.args.core.now c.args.scripts.now) c.args.queue.now.table.shared.table_id c.args.list.now c.args.scripts.now c.make_all.new.workers
    (hired_same c.args.queue.now.table.shared.table_id c.args.list.now c.args.scripts.now c.args.workers.now c.make_all.new.workers c.make_all.ensures.same c.requires.hired)

pub returns-in-Err-clause-numbers : goal.returns-in-Err-clause-numbers
returns-in-Err-clause-numbers g c = numbered_same c.args.scripts.now c.args.workers.now c.make_all.new.workers c.requires.new c.make_all.ensures.same

pub returns-in-Err-clause-gone : goal.returns-in-Err-clause-gone
returns-in-Err-clause-gone g c =
    gone_all c.args.queue.now.table.shared.table_id c.args.list.now c.args.scripts.now c.make_all.new.workers
    (hired_same c.args.queue.now.table.shared.table_id c.args.list.now c.args.scripts.now c.args.workers.now c.make_all.new.workers c.make_all.ensures.same c.requires.hired)

pub run_all-requires-clause-context : goal.run_all-requires-clause-context
run_all-requires-clause-context g c = λ κs within.
    context_fits c.args.core.now c.args.scripts.now c.index-scripts-0.result c.context-context.result c.requires.some c.index-scripts-0.is c.context-context.ensures.same c.requires.lawful.threads c.requires.lawful.scripts

pub run_all-requires-clause-ready : goal.run_all-requires-clause-ready
run_all-requires-clause-ready g c = λ κs within.
    ready_all g.D.Out.Sink.faults c.args.queue.now.table.shared.table_id c.args.list.now c.args.scripts.now c.make_all.new.workers (g.D.Desk.told c.args.desk.now) (g.D.Desk.told c.make_all.new.desk)
    (ok_of c.in_default.is c.make_all.ensures.ok)
    (numbered_same c.args.scripts.now c.args.workers.now c.make_all.new.workers c.requires.new c.make_all.ensures.same)
    (hired_same c.args.queue.now.table.shared.table_id c.args.list.now c.args.scripts.now c.args.workers.now c.make_all.new.workers c.make_all.ensures.same c.requires.hired)
    c.requires.apart

pub returns-clause-ok : goal.returns-clause-ok
returns-clause-ok g c =
    has_worked g.D.Out.Sink.faults c.args.scripts.now c.make_all.new.workers c.run_all.new.workers (g.D.Desk.told c.args.desk.now) (g.D.Desk.told c.make_all.new.desk) (ok_of c.in_default.is c.make_all.ensures.ok) c.run_all.ensures.taken c.run_all.ensures.whole

pub returns-clause-own : goal.returns-clause-own
returns-clause-own g c =
    subst (λ (p : Meanings). All (λ w. KnowsOwnOf p c.args.scripts.now w) c.run_all.new.workers)
    (meanings_are c.args.core.now c.args.scripts.now c.index-scripts-0.result c.context-context.result c.requires.some c.index-scripts-0.is c.context-context.ensures.same) c.run_all.ensures.own

pub returns-clause-count : goal.returns-clause-count
returns-clause-count g c = c.run_all.ensures.taken.count ∙ c.make_all.ensures.same.count ∙ c.requires.count

pub returns-clause-numbers : goal.returns-clause-numbers
returns-clause-numbers g c =
    numbered_taken g.D.Out.Sink.faults c.make_all.new.workers c.run_all.new.workers (numbered_same c.args.scripts.now c.args.workers.now c.make_all.new.workers c.requires.new c.make_all.ensures.same) c.run_all.ensures.taken

pub returns-clause-acted : goal.returns-clause-acted
returns-clause-acted g c =
    subst (λ (p : Meanings). All (λ w. IsActed g.D.Out.Sink.written p.report c.args.scripts.now w) c.run_all.new.workers)
    (meanings_are c.args.core.now c.args.scripts.now c.index-scripts-0.result c.context-context.result c.requires.some c.index-scripts-0.is c.context-context.ensures.same)
    (acted_all g.D.Out.Sink.written g.D.Out.Sink.faults _ c.args.queue.now.table.shared.table_id c.args.list.now c.args.scripts.now c.args.workers.now c.make_all.new.workers c.run_all.new.workers c.requires.new c.make_all.ensures.same c.make_all.ensures.empty
    (ready_all g.D.Out.Sink.faults c.args.queue.now.table.shared.table_id c.args.list.now c.args.scripts.now c.make_all.new.workers (g.D.Desk.told c.args.desk.now) (g.D.Desk.told c.make_all.new.desk)
    (ok_of c.in_default.is c.make_all.ensures.ok)
    (numbered_same c.args.scripts.now c.args.workers.now c.make_all.new.workers c.requires.new c.make_all.ensures.same)
    (hired_same c.args.queue.now.table.shared.table_id c.args.list.now c.args.scripts.now c.args.workers.now c.make_all.new.workers c.make_all.ensures.same c.requires.hired)
    c.requires.apart)
    c.run_all.ensures.taken c.run_all.ensures.acted)

pub returns-clause-reports : goal.returns-clause-reports
returns-clause-reports g c = record {
  first = c.make_all.new.workers;
  reports = subst (λ (p : Meanings). HaveReports g.D.Out.Sink.written p.report c.make_all.new.workers c.run_all.new.workers)
      (meanings_are c.args.core.now c.args.scripts.now c.index-scripts-0.result c.context-context.result c.requires.some c.index-scripts-0.is c.context-context.ensures.same) c.run_all.ensures.reports;
  taken = c.run_all.ensures.taken;
  empty = c.make_all.ensures.empty;
}
