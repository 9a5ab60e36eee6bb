use Rattle.std.proofs.Common.{refl}
use Rattle.crossbeam_queue.specs.Passes.{view}
use Rattle.plcr_script.specs.Meanings.{meanings}
use Rattle.plcr_turns.specs.Lines.{asked_by}
use Rattle.plcr_workers.specs.Asking.{asked_in}
use Rattle.plcr_workers.specs.inner.Places.{walker_of}
use Rattle.plcr_workers.proofs.Going.{next_of}
use Rattle.plcr_workers.proofs.Owned.{adds_line}
use Rattle.plcr_workers.proofs.Moved.{acts_heard, acts_moved, applied_by, no_file}
use Rattle.plcr_workers.proofs.acting.take_statement.Goals as goal

pub apply-place-requires-clause-left : goal.apply-place-requires-clause-left
apply-place-requires-clause-left g c = next_of (asked_in c.args.statement.now) (asked_by c.in-Some.request) (view c.args.turns.now) c.in-Some.ensures.some.asked c.requires.left

pub returns-in-Some-clause-own : goal.returns-in-Some-clause-own
returns-in-Some-clause-own g c =
    adds_line (meanings (g.P.Process.image_fault c.args.process.now) (g.P.Process.report c.args.process.now c.args.context.now)) c.args.script c.args.line c.in-Some.request c.args.statement.now (view c.args.turns.now) (view c.apply-place.new.turns)
    (walker_of c.args.place).history (walker_of c.apply-place.result).history (walker_of c.apply-place.result).names c.apply-place.ensures.applies c.in-Some.ensures.some

pub returns-in-Some-clause-acts : goal.returns-in-Some-clause-acts
returns-in-Some-clause-acts g c =
    acts_heard g.K.Sink.written (g.P.Process.report c.args.process.now c.args.context.now) c.args.statement.now (asked_by c.in-Some.request) c.args.place c.apply-place.result c.args.next c.args.drafts.now.items c.args.drafts.now.items c.in-Some.ensures.some.asked c.apply-place.ensures.hears

pub returns-in-Some-clause-applies : goal.returns-in-Some-clause-applies
returns-in-Some-clause-applies g c =
    applied_by c.args.script c.args.line c.in-Some.request c.args.statement.now (view c.args.turns.now) (view c.apply-place.new.turns) (walker_of c.args.place).history (walker_of c.apply-place.result).history (walker_of c.apply-place.result).names c.apply-place.ensures.applies c.in-Some.ensures.some.asked

pub returns-clause-acts : goal.returns-clause-acts
returns-clause-acts g c =
    acts_moved g.K.Sink.written (g.P.Process.report c.args.process.now c.args.context.now) c.args.statement.now c.args.place c.move_on.result.0 c.move_on.result.1 c.args.next c.args.drafts.now.items c.args.drafts.now.items
    (c.move_on.ensures.moves (c.in_default.ensures.none refl) (no_file c.args.statement.now c.if-is_report.ensures))
