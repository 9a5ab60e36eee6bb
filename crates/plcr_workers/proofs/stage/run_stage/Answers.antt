use Rattle.std.proofs.Common.{inl, ◌<◌, ℕ, All, List, length, sym, ap, subst, ◌∙◌, arith}
use Rattle.plcr_turns.specs.declared.lines.ChangeLine.{ChangeLine}
use Rattle.plcr_workers.specs.declared.drafts.Draft.{Draft}
use Rattle.plcr_workers.specs.declared.worker.Worker.{Worker}
use Rattle.plcr_workers.specs.Log.{threads_log}
use Rattle.plcr_workers.specs.inner.Hired.{AreNew, AreNumbered, IsGone, IsHired}
use Rattle.plcr_workers.specs.inner.Outputs.{AreDone, HasOpenFor, IsDraftOf, in_order, outputs_of}
use Rattle.plcr_workers.specs.inner.Stages.{AreLinesOf, LogEnds, items_of, job_of}
use Rattle.plcr_workers.proofs.Opened.{opens_none}
use Rattle.plcr_workers.proofs.Staged.{lent_whole, run_cut, run_goes, run_kept, run_stands, run_unkept, worked_by, worked_ok, worked_open}
use Rattle.plcr_workers.proofs.Wholly.{whole_kept}
use Rattle.plcr_workers.proofs.Made.{ok_of}
use Rattle.plcr_workers.proofs.Told.{kept_any, run_reports}
use Rattle.plcr_workers.proofs.stage.run_stage.Goals as goal

pub work-made-requires-clause-new : goal.work-made-requires-clause-new
work-made-requires-clause-new g c = λ κs within. subst (λ (l : List (Worker g.row.D-Out.Denot)). AreNew c.args.scripts.now l) (sym c.as_mut_slice.ensures.value) c.requires.stage.new

pub work-made-requires-clause-hired : goal.work-made-requires-clause-hired
work-made-requires-clause-hired g c = λ κs within.
    subst (λ (l : List (Worker g.row.D-Out.Denot)). All (λ w. IsHired c.args.stage.queue.table.shared.table_id c.args.stage.list c.args.scripts.now w) l) (sym c.as_mut_slice.ensures.value) c.requires.stage.hired

pub end_workers-ran-requires-clause-numbers : goal.end_workers-ran-requires-clause-numbers
end_workers-ran-requires-clause-numbers g c = subst (λ (l : List (Worker g.row.D-Out.Denot)). AreNumbered l) (sym (lent_whole c.args.stage.workers.len c.work-made.new.workers c.args.stage.workers.items (c.work-made.ensures.count ∙ sym c.requires.stage.count ∙ c.args.stage.workers.ok.0) (sym c.args.stage.workers.ok.0))) c.work-made.ensures.numbers

pub end_workers-ran-requires-clause-gone : goal.end_workers-ran-requires-clause-gone
end_workers-ran-requires-clause-gone g c =
    subst (λ (l : List (Worker g.row.D-Out.Denot)). All (λ w. IsGone c.args.stage.queue.table.shared.table_id c.args.stage.list c.args.scripts.now w) l) (sym (lent_whole c.args.stage.workers.len c.work-made.new.workers c.args.stage.workers.items (c.work-made.ensures.count ∙ sym c.requires.stage.count ∙ c.args.stage.workers.ok.0) (sym c.args.stage.workers.ok.0))) c.work-made.ensures.gone

pub end_workers-ran-requires-clause-images_room : goal.end_workers-ran-requires-clause-images_room
end_workers-ran-requires-clause-images_room g c = let none = c.requires.stage.images.0 in let room = c.requires.stage.images.1 in let count = c.requires.stage.count in omega (arith, none, room, count)

pub end_workers-ran-requires-clause-drafts_room : goal.end_workers-ran-requires-clause-drafts_room
end_workers-ran-requires-clause-drafts_room g c = let none = c.requires.stage.drafts.0 in let room = c.requires.stage.drafts.1 in let count = c.requires.stage.count in omega (arith, none, room, count)

pub end_workers-ran-requires-clause-others_room : goal.end_workers-ran-requires-clause-others_room
end_workers-ran-requires-clause-others_room g c = let none = c.requires.stage.others.0 in let room = c.requires.stage.others.1 in let count = c.requires.stage.count in omega (arith, none, room, count)

pub end_workers-ran-requires-clause-none : goal.end_workers-ran-requires-clause-none
end_workers-ran-requires-clause-none g c = (c.requires.stage.images.0, c.requires.stage.drafts.0, c.requires.stage.others.0)

pub settle-requires-clause-drafts : goal.settle-requires-clause-drafts
settle-requires-clause-drafts g c = λ made.
    let done = worked_ok g.D.Out.Sink.faults c.args.scripts.now c.work-made.new.workers (g.D.Desk.told c.args.desk.now) (g.D.Desk.told c.work-made.new.desk) c.work-made.result (worked_by g.D.Out.Sink.faults c.args.scripts.now c.work-made.new.workers (g.D.Desk.told c.args.desk.now) (g.D.Desk.told c.work-made.new.desk) c.work-made.result c.work-made.ensures.ok c.work-made.ensures.err) made in
    subst (λ (l : List (Draft g.row.D-Out.Denot)). All (IsDraftOf c.args.scripts.now) l) (sym (c.end_workers-ran.ensures.drafts ∙ ap (λ (l : List (Worker g.row.D-Out.Denot)). outputs_of l) (lent_whole c.args.stage.workers.len c.work-made.new.workers c.args.stage.workers.items (c.work-made.ensures.count ∙ sym c.requires.stage.count ∙ c.args.stage.workers.ok.0) (sym c.args.stage.workers.ok.0)))) done.are

pub settle-requires-clause-done : goal.settle-requires-clause-done
settle-requires-clause-done g c = λ made.
    let done = worked_ok g.D.Out.Sink.faults c.args.scripts.now c.work-made.new.workers (g.D.Desk.told c.args.desk.now) (g.D.Desk.told c.work-made.new.desk) c.work-made.result (worked_by g.D.Out.Sink.faults c.args.scripts.now c.work-made.new.workers (g.D.Desk.told c.args.desk.now) (g.D.Desk.told c.work-made.new.desk) c.work-made.result c.work-made.ensures.ok c.work-made.ensures.err) made in
    subst (λ (l : List (Draft g.row.D-Out.Denot)). AreDone g.D.Out.Sink.faults l) (sym (c.end_workers-ran.ensures.drafts ∙ ap (λ (l : List (Worker g.row.D-Out.Denot)). outputs_of l) (lent_whole c.args.stage.workers.len c.work-made.new.workers c.args.stage.workers.items (c.work-made.ensures.count ∙ sym c.requires.stage.count ∙ c.args.stage.workers.ok.0) (sym c.args.stage.workers.ok.0)))) done.done

pub settle-requires-clause-open : goal.settle-requires-clause-open
settle-requires-clause-open g c =
    subst (λ (l : List (Draft g.row.D-Out.Denot)). HasOpenFor (length l) (g.D.Desk.told c.work-made.new.desk)) (sym (c.end_workers-ran.ensures.drafts ∙ ap (λ (l : List (Worker g.row.D-Out.Denot)). outputs_of l) (lent_whole c.args.stage.workers.len c.work-made.new.workers c.args.stage.workers.items (c.work-made.ensures.count ∙ sym c.requires.stage.count ∙ c.args.stage.workers.ok.0) (sym c.args.stage.workers.ok.0))))
    (worked_open g.D.Out.Sink.faults c.args.scripts.now c.work-made.new.workers (g.D.Desk.told c.args.desk.now) (g.D.Desk.told c.work-made.new.desk) c.work-made.result (worked_by g.D.Out.Sink.faults c.args.scripts.now c.work-made.new.workers (g.D.Desk.told c.args.desk.now) (g.D.Desk.told c.work-made.new.desk) c.work-made.result c.work-made.ensures.ok c.work-made.ensures.err) (opens_none (g.D.Desk.told c.args.desk.now) (g.met.D.Desk.balances c.args.desk.now)))

pub print_log-requires-clause-journal : goal.print_log-requires-clause-journal
print_log-requires-clause-journal g c = subst (All (λ (l : ChangeLine). l.script < length c.args.scripts.now)) (sym c.as_slice-applied.ensures.value) c.end_workers-ran.ensures.journal

pub print_log-requires-clause-others : goal.print_log-requires-clause-others
print_log-requires-clause-others g c = subst (AreLinesOf c.args.scripts.now) (sym c.as_slice-rest.ensures.value) c.end_workers-ran.ensures.others

pub returns-in-Ok-clause-ends : goal.returns-in-Ok-clause-ends
returns-in-Ok-clause-ends g c =
    run_kept g.D.Out.Sink.written g.D.Out.Sink.faults (job_of c.args.core.now c.args.scripts.now) c.work-made.new.workers _ (lent_whole c.args.stage.workers.len c.work-made.new.workers c.args.stage.workers.items (c.work-made.ensures.count ∙ sym c.requires.stage.count ∙ c.args.stage.workers.ok.0) (sym c.args.stage.workers.ok.0))
    (in_order c.end_workers-ran.result.drafts.items) c.end_workers-ran.ensures.drafts (g.D.Desk.told c.args.desk.now) (g.D.Desk.told c.work-made.new.desk) (g.D.Desk.told c.settle.new.desk) (g.L.Sink.written c.args.lines.now) (g.L.Sink.written c.print_log.new.lines) (g.L.Sink.faults c.args.lines.now) (g.L.Sink.faults c.print_log.new.lines)
    c.work-made.result c.end_workers-ran.result.writer c.end_workers-ran.result.journal.items
    (worked_by g.D.Out.Sink.faults c.args.scripts.now c.work-made.new.workers (g.D.Desk.told c.args.desk.now) (g.D.Desk.told c.work-made.new.desk) c.work-made.result c.work-made.ensures.ok c.work-made.ensures.err)
    c.work-made.ensures.own c.end_workers-ran.ensures.writer c.end_workers-ran.ensures.tells
    c.settle.result c.in-Ok.field-0 (items_of c.end_workers-ran.result.others.items) c.print_log.result c.in-Ok.is c.settle.ensures.settles
    (subst (λ (text : List ℕ). LogEnds (g.L.Sink.written c.args.lines.now) (g.L.Sink.written c.print_log.new.lines) text (g.L.Sink.faults c.args.lines.now) (g.L.Sink.faults c.print_log.new.lines) c.print_log.result)
    (λ i. threads_log c.args.scripts.now (c.as_slice-applied.ensures.value i) (items_of (c.as_slice-rest.ensures.value i))) c.print_log.ensures.ends)

pub returns-in-Ok-clause-goes_on : goal.returns-in-Ok-clause-goes_on
returns-in-Ok-clause-goes_on g c = record {
  desk = run_goes g.D.Out.Sink.written g.D.Out.Sink.faults (job_of c.args.core.now c.args.scripts.now) c.work-made.new.workers _ (lent_whole c.args.stage.workers.len c.work-made.new.workers c.args.stage.workers.items (c.work-made.ensures.count ∙ sym c.requires.stage.count ∙ c.args.stage.workers.ok.0) (sym c.args.stage.workers.ok.0))
      (in_order c.end_workers-ran.result.drafts.items) c.end_workers-ran.ensures.drafts (g.D.Desk.told c.args.desk.now) (g.D.Desk.told c.work-made.new.desk) (g.D.Desk.told c.settle.new.desk) (g.L.Sink.written c.args.lines.now) (g.L.Sink.written c.print_log.new.lines) (g.L.Sink.faults c.args.lines.now) (g.L.Sink.faults c.print_log.new.lines)
      c.work-made.result c.end_workers-ran.result.writer c.end_workers-ran.result.journal.items
      (worked_by g.D.Out.Sink.faults c.args.scripts.now c.work-made.new.workers (g.D.Desk.told c.args.desk.now) (g.D.Desk.told c.work-made.new.desk) c.work-made.result c.work-made.ensures.ok c.work-made.ensures.err)
      c.work-made.ensures.own c.end_workers-ran.ensures.writer c.end_workers-ran.ensures.tells
      c.settle.result c.settle.ensures.settles;
  line_faults = c.print_log.ensures.later;
}

pub print_failed-requires-clause-stands : goal.print_failed-requires-clause-stands
print_failed-requires-clause-stands g c =
    run_stands g.D.Out.Sink.written g.D.Out.Sink.faults (job_of c.args.core.now c.args.scripts.now) c.work-made.new.workers _ (lent_whole c.args.stage.workers.len c.work-made.new.workers c.args.stage.workers.items (c.work-made.ensures.count ∙ sym c.requires.stage.count ∙ c.args.stage.workers.ok.0) (sym c.args.stage.workers.ok.0))
    (in_order c.end_workers-ran.result.drafts.items) c.end_workers-ran.ensures.drafts (g.D.Desk.told c.args.desk.now) (g.D.Desk.told c.work-made.new.desk) (g.D.Desk.told c.settle.new.desk) (g.L.Sink.written c.args.lines.now) (g.L.Sink.written c.args.lines.now) (g.L.Sink.faults c.args.lines.now) (g.L.Sink.faults c.args.lines.now)
    c.work-made.result c.end_workers-ran.result.writer c.end_workers-ran.result.journal.items
    (worked_by g.D.Out.Sink.faults c.args.scripts.now c.work-made.new.workers (g.D.Desk.told c.args.desk.now) (g.D.Desk.told c.work-made.new.desk) c.work-made.result c.work-made.ensures.ok c.work-made.ensures.err)
    c.work-made.ensures.own c.end_workers-ran.ensures.writer c.end_workers-ran.ensures.tells
    c.settle.result c.in-Err.unwritten c.in-Err.is c.settle.ensures.settles

pub returns-clause-ends : goal.returns-clause-ends
returns-clause-ends g c =
    run_cut g.D.Out.Sink.written g.D.Out.Sink.faults (job_of c.args.core.now c.args.scripts.now) c.work-made.new.workers _ (lent_whole c.args.stage.workers.len c.work-made.new.workers c.args.stage.workers.items (c.work-made.ensures.count ∙ sym c.requires.stage.count ∙ c.args.stage.workers.ok.0) (sym c.args.stage.workers.ok.0))
    (in_order c.end_workers-ran.result.drafts.items) c.end_workers-ran.ensures.drafts (g.D.Desk.told c.args.desk.now) (g.D.Desk.told c.work-made.new.desk) (g.D.Desk.told c.settle.new.desk) (g.L.Sink.written c.args.lines.now) (g.L.Sink.written c.print_failed.new.lines) (g.L.Sink.faults c.args.lines.now) (g.L.Sink.faults c.print_failed.new.lines)
    c.work-made.result c.end_workers-ran.result.writer c.end_workers-ran.result.journal.items
    (worked_by g.D.Out.Sink.faults c.args.scripts.now c.work-made.new.workers (g.D.Desk.told c.args.desk.now) (g.D.Desk.told c.work-made.new.desk) c.work-made.result c.work-made.ensures.ok c.work-made.ensures.err)
    c.work-made.ensures.own c.end_workers-ran.ensures.writer c.end_workers-ran.ensures.tells
    c.settle.result c.in-Err.unwritten c.in-Err.is c.settle.ensures.settles c.print_failed.ensures.printed

pub returns-clause-goes_on : goal.returns-clause-goes_on
returns-clause-goes_on g c = record {
  desk = run_goes g.D.Out.Sink.written g.D.Out.Sink.faults (job_of c.args.core.now c.args.scripts.now) c.work-made.new.workers _ (lent_whole c.args.stage.workers.len c.work-made.new.workers c.args.stage.workers.items (c.work-made.ensures.count ∙ sym c.requires.stage.count ∙ c.args.stage.workers.ok.0) (sym c.args.stage.workers.ok.0))
      (in_order c.end_workers-ran.result.drafts.items) c.end_workers-ran.ensures.drafts (g.D.Desk.told c.args.desk.now) (g.D.Desk.told c.work-made.new.desk) (g.D.Desk.told c.settle.new.desk) (g.L.Sink.written c.args.lines.now) (g.L.Sink.written c.print_failed.new.lines) (g.L.Sink.faults c.args.lines.now) (g.L.Sink.faults c.print_failed.new.lines)
      c.work-made.result c.end_workers-ran.result.writer c.end_workers-ran.result.journal.items
      (worked_by g.D.Out.Sink.faults c.args.scripts.now c.work-made.new.workers (g.D.Desk.told c.args.desk.now) (g.D.Desk.told c.work-made.new.desk) c.work-made.result c.work-made.ensures.ok c.work-made.ensures.err)
      c.work-made.ensures.own c.end_workers-ran.ensures.writer c.end_workers-ran.ensures.tells
      c.settle.result c.settle.ensures.settles;
  line_faults = c.print_failed.ensures.later;
}

pub returns-in-Ok-clause-ran : goal.returns-in-Ok-clause-ran
returns-in-Ok-clause-ran g c =
    whole_kept g.D.Out.Sink.written g.D.Out.Sink.faults (job_of c.args.core.now c.args.scripts.now) c.work-made.new.workers _ (lent_whole c.args.stage.workers.len c.work-made.new.workers c.args.stage.workers.items (c.work-made.ensures.count ∙ sym c.requires.stage.count ∙ c.args.stage.workers.ok.0) (sym c.args.stage.workers.ok.0))
    (in_order c.end_workers-ran.result.drafts.items) c.end_workers-ran.ensures.drafts (g.D.Desk.told c.args.desk.now) (g.D.Desk.told c.work-made.new.desk) (g.D.Desk.told c.settle.new.desk) (g.L.Sink.written c.args.lines.now) (g.L.Sink.written c.print_log.new.lines) (g.L.Sink.faults c.args.lines.now) (g.L.Sink.faults c.print_log.new.lines)
    c.end_workers-ran.result.writer c.end_workers-ran.result.journal.items (items_of c.end_workers-ran.result.others.items) c.work-made.ensures.own c.end_workers-ran.ensures.tells c.end_workers-ran.ensures.runs
    c.work-made.result c.settle.result c.in-Ok.field-0 c.print_log.result
    (worked_by g.D.Out.Sink.faults c.args.scripts.now c.work-made.new.workers (g.D.Desk.told c.args.desk.now) (g.D.Desk.told c.work-made.new.desk) c.work-made.result c.work-made.ensures.ok c.work-made.ensures.err)
    c.work-made.ensures.acted c.in-Ok.is c.settle.ensures.settles
    (subst (λ (text : List ℕ). LogEnds (g.L.Sink.written c.args.lines.now) (g.L.Sink.written c.print_log.new.lines) text (g.L.Sink.faults c.args.lines.now) (g.L.Sink.faults c.print_log.new.lines) c.print_log.result)
    (λ i. threads_log c.args.scripts.now (c.as_slice-applied.ensures.value i) (items_of (c.as_slice-rest.ensures.value i))) c.print_log.ensures.ends)

pub returns-clause-ran : goal.returns-clause-ran
returns-clause-ran g c = λ may.
    inl (run_unkept g.D.Out.Sink.written g.D.Out.Sink.faults (job_of c.args.core.now c.args.scripts.now) c.work-made.new.workers _ (lent_whole c.args.stage.workers.len c.work-made.new.workers c.args.stage.workers.items (c.work-made.ensures.count ∙ sym c.requires.stage.count ∙ c.args.stage.workers.ok.0) (sym c.args.stage.workers.ok.0))
    (in_order c.end_workers-ran.result.drafts.items) c.end_workers-ran.ensures.drafts (g.D.Desk.told c.args.desk.now) (g.D.Desk.told c.work-made.new.desk) (g.D.Desk.told c.settle.new.desk) (g.L.Sink.written c.args.lines.now) (g.L.Sink.written c.print_failed.new.lines) (g.L.Sink.faults c.args.lines.now) (g.L.Sink.faults c.print_failed.new.lines)
    c.work-made.result c.end_workers-ran.result.writer c.end_workers-ran.result.journal.items
    (worked_by g.D.Out.Sink.faults c.args.scripts.now c.work-made.new.workers (g.D.Desk.told c.args.desk.now) (g.D.Desk.told c.work-made.new.desk) c.work-made.result c.work-made.ensures.ok c.work-made.ensures.err)
    c.work-made.ensures.own c.end_workers-ran.ensures.writer c.end_workers-ran.ensures.tells
    c.settle.result c.in-Err.unwritten c.in-Err.is c.settle.ensures.settles c.print_failed.ensures.printed)

pub returns-in-Ok-clause-kept : goal.returns-in-Ok-clause-kept
returns-in-Ok-clause-kept g c =
    kept_any _ _ _ _ c.print_log.result
    (run_reports g.D.Out.Sink.written g.D.Out.Sink.faults (job_of c.args.core.now c.args.scripts.now) c.work-made.new.workers _ (lent_whole c.args.stage.workers.len c.work-made.new.workers c.args.stage.workers.items (c.work-made.ensures.count ∙ sym c.requires.stage.count ∙ c.args.stage.workers.ok.0) (sym c.args.stage.workers.ok.0))
    (in_order c.end_workers-ran.result.drafts.items) c.end_workers-ran.ensures.drafts (g.D.Desk.told c.args.desk.now) (g.D.Desk.told c.work-made.new.desk) (g.D.Desk.told c.settle.new.desk) (g.L.Sink.written c.args.lines.now) (g.L.Sink.written c.print_log.new.lines) (g.L.Sink.faults c.args.lines.now) (g.L.Sink.faults c.print_log.new.lines)
    c.work-made.result c.end_workers-ran.result.writer
    (worked_by g.D.Out.Sink.faults c.args.scripts.now c.work-made.new.workers (g.D.Desk.told c.args.desk.now) (g.D.Desk.told c.work-made.new.desk) c.work-made.result c.work-made.ensures.ok c.work-made.ensures.err)
    c.end_workers-ran.ensures.reported (λ is. ok_of is c.work-made.ensures.reports) c.settle.result c.settle.ensures.settles)

pub returns-clause-kept : goal.returns-clause-kept
returns-clause-kept g c =
    run_reports g.D.Out.Sink.written g.D.Out.Sink.faults (job_of c.args.core.now c.args.scripts.now) c.work-made.new.workers _ (lent_whole c.args.stage.workers.len c.work-made.new.workers c.args.stage.workers.items (c.work-made.ensures.count ∙ sym c.requires.stage.count ∙ c.args.stage.workers.ok.0) (sym c.args.stage.workers.ok.0))
    (in_order c.end_workers-ran.result.drafts.items) c.end_workers-ran.ensures.drafts (g.D.Desk.told c.args.desk.now) (g.D.Desk.told c.work-made.new.desk) (g.D.Desk.told c.settle.new.desk) (g.L.Sink.written c.args.lines.now) (g.L.Sink.written c.print_failed.new.lines) (g.L.Sink.faults c.args.lines.now) (g.L.Sink.faults c.print_failed.new.lines)
    c.work-made.result c.end_workers-ran.result.writer
    (worked_by g.D.Out.Sink.faults c.args.scripts.now c.work-made.new.workers (g.D.Desk.told c.args.desk.now) (g.D.Desk.told c.work-made.new.desk) c.work-made.result c.work-made.ensures.ok c.work-made.ensures.err)
    c.end_workers-ran.ensures.reported (λ is. ok_of is c.work-made.ensures.reports) c.settle.result c.settle.ensures.settles
