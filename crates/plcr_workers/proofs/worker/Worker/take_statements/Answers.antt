use Rattle.std.proofs.Common.{◌+◌, length, refl, ap, ◌∙◌, subst, sym, arith}
use Rattle.crossbeam_queue.specs.Passes.{view}
use Rattle.plcr_script.specs.Meanings.{meanings}
use Rattle.plcr_run.proofs.Composed.{numbered_at}
use Rattle.plcr_turns.specs.Lines.{lines_of}
use Rattle.plcr_workers.specs.Asking.{change_lines}
use Rattle.plcr_workers.specs.inner.Places.{walker_of}
use Rattle.plcr_workers.proofs.Going.{left_if_asked, so_far_next, take_past}
use Rattle.plcr_script.specs.Reading.{file_of}
use Rattle.plcr_workers.specs.inner.Reports.{HasReport}
use Rattle.plcr_workers.proofs.Reported.{none_reported, reported_on, reported_cut, all_reported}
use Rattle.plcr_workers.proofs.Outputs.{output_left, taken_on, cut_at, none_taken, all_done}
use Rattle.plcr_workers.proofs.Owned.{own_next, nothing_own}
use Rattle.plcr_workers.proofs.Passing.{stays, again}
use Rattle.plcr_workers.proofs.Tracing.{nothing_traced, traced_on}
use Rattle.plcr_workers.specs.inner.Traces.{HasTraced}
use Rattle.std.proofs.lemmas.List.{nil_from_length}
use Rattle.plcr_workers.proofs.worker.Worker.take_statements.Goals as goal

pub take_statement-moved-requires-clause-left : goal.take_statement-moved-requires-clause-left
take_statement-moved-requires-clause-left g c κs within =
    left_if_asked c.loop-at.self.script c.args.list.now c.args.script.now.statements c.loop-at.at c.line.result c.statement.result.now (view c.loop-at.self.turns) c.loop-at.invariant.so_far
    (numbered_at c.args.script.now c.loop-at.at c.line.result c.statement.result.now c.line.ensures c.statement.ensures)

pub take_statement-moved-requires-clause-next : goal.take_statement-moved-requires-clause-next
take_statement-moved-requires-clause-next g c κs within =
    output_left c.args.script.now.statements c.loop-at.at c.line.result c.loop-at.next c.statement.result.now c.loop-at.self.drafts.items
    (numbered_at c.args.script.now c.loop-at.at c.line.result c.statement.result.now c.line.ensures c.statement.ensures) c.loop-at.invariant.all c.loop-at.invariant.outputs.counted

pub loop-at-init : goal.loop-at-init
loop-at-init g c = record {
  number = refl;
  pass = c.requires.begins.pass;
  so_far = c.requires.begins.so_far;
  place = c.requires.place;
  goes = stays (walker_of c.args.place);
  own = nothing_own (meanings (g.P.Process.image_fault c.args.process.now) (g.P.Process.report c.args.process.now c.args.context.now)) c.args.script.now.statements (walker_of c.args.place).names
      (lines_of c.args.self.now.script (view c.args.self.now.turns).journal) c.requires.begins.so_far.lines;
  lines = (λ k d less. absurd (let none = c.requires.begins.none in omega (arith, less, none)));
  fits = (let none = c.requires.begins.none in omega arith);
  room = c.requires.begins.room;
  all = c.requires.outputs.count;
  reported = none_reported g.K.Sink.written (g.P.Process.report c.args.process.now c.args.context.now) (walker_of c.args.place) c.args.self.now.drafts.items;
  traced = nothing_traced g.K.Sink.written (g.P.Process.report c.args.process.now c.args.context.now) c.args.self.now.script c.args.place (view c.args.self.now.turns) c.args.self.now.lines.items c.args.self.now.drafts.items (nil_from_length c.args.self.now.lines.items (let none = c.requires.begins.none in omega (arith, none)));
  outputs = none_taken g.K.Sink.faults c.args.script.now.statements c.args.self.now.drafts.items c.requires.outputs.waiting;
}

pub returns-in-None-clause-goes : goal.returns-in-None-clause-goes
returns-in-None-clause-goes g c = record {
  number = c.loop-at.invariant.number;
  pass = (c.take_statement-moved.ensures.queue.0 ∙ c.loop-at.invariant.pass.0, c.take_statement-moved.ensures.queue.2 ∙ c.loop-at.invariant.pass.1);
  count = c.loop-at.at + 1;
  so_far = so_far_next c.loop-at.self.script c.args.list.now c.args.script.now.statements c.loop-at.at c.line.result c.statement.result.now (view c.loop-at.self.turns) (view c.take_statement-moved.new.turns) c.loop-at.invariant.so_far
      (numbered_at c.args.script.now c.loop-at.at c.line.result c.statement.result.now c.line.ensures c.statement.ensures) c.take_statement-moved.ensures.advances c.take_statement-moved.ensures.working;
  lines = c.add_line.ensures.lines (length c.args.script.now.statements) (let less = c.loop-at-test.true in omega arith) c.loop-at.invariant.lines;
}

pub returns-in-None-clause-taken : goal.returns-in-None-clause-taken
returns-in-None-clause-taken g c =
    let cut = cut_at g.K.Sink.faults (HasReport g.K.Sink.written (g.P.Process.report c.args.process.now c.args.context.now) (walker_of c.take_statement-moved.result.0)) c.args.script.now.statements c.loop-at.at c.line.result c.loop-at.next c.statement.result.now c.take_statement-moved.result.1 c.args.self.now.drafts.items c.loop-at.self.drafts.items c.take_statement-moved.new.drafts.items
    (numbered_at c.args.script.now c.loop-at.at c.line.result c.statement.result.now c.line.ensures c.statement.ensures) c.loop-at.invariant.all c.loop-at.invariant.outputs c.take_statement-moved.ensures.outputs (sym c.in-None.ensures.next) in
    record { number = c.loop-at.invariant.number; places = cut.places; done = cut.done }

pub returns-in-None-clause-reports : goal.returns-in-None-clause-reports
returns-in-None-clause-reports g c =
    reported_cut g.K.Sink.written (g.P.Process.report c.args.process.now c.args.context.now) (walker_of c.loop-at.place) (walker_of c.take_statement-moved.result.0) g.K.Sink.faults c.loop-at.next (file_of c.statement.result.now) c.take_statement-moved.result.1
    c.args.self.now.drafts.items c.loop-at.self.drafts.items c.take_statement-moved.new.drafts.items c.take_statement-moved.ensures.goes
    (output_left c.args.script.now.statements c.loop-at.at c.line.result c.loop-at.next c.statement.result.now c.loop-at.self.drafts.items
    (numbered_at c.args.script.now c.loop-at.at c.line.result c.statement.result.now c.line.ensures c.statement.ensures) c.loop-at.invariant.all c.loop-at.invariant.outputs.counted) c.loop-at.invariant.reported c.take_statement-moved.ensures.outputs (sym c.in-None.ensures.next)

pub returns-clause-reports : goal.returns-clause-reports
returns-clause-reports g c =
    all_reported g.K.Sink.written (g.P.Process.report c.args.process.now c.args.context.now) (walker_of c.loop-at.place) c.loop-at.next c.args.self.now.drafts.items c.loop-at.self.drafts.items c.loop-at.invariant.reported

pub returns-in-None-clause-whole : goal.returns-in-None-clause-whole
returns-in-None-clause-whole g c = λ all.
    absurd ((cut_at g.K.Sink.faults (HasReport g.K.Sink.written (g.P.Process.report c.args.process.now c.args.context.now) (walker_of c.take_statement-moved.result.0)) c.args.script.now.statements c.loop-at.at c.line.result c.loop-at.next c.statement.result.now c.take_statement-moved.result.1 c.args.self.now.drafts.items c.loop-at.self.drafts.items c.take_statement-moved.new.drafts.items
    (numbered_at c.args.script.now c.loop-at.at c.line.result c.statement.result.now c.line.ensures c.statement.ensures) c.loop-at.invariant.all c.loop-at.invariant.outputs c.take_statement-moved.ensures.outputs (sym c.in-None.ensures.next)).failed all)

pub returns-clause-whole : goal.returns-clause-whole
returns-clause-whole g c = λ all. c.loop-at.invariant.so_far.lines ∙ ap change_lines (take_past c.loop-at.at c.args.script.now.statements (let past = c.loop-at-test.false in omega arith))

pub returns-in-None-clause-traced : goal.returns-in-None-clause-traced
returns-in-None-clause-traced g c = λ all.
    absurd ((cut_at g.K.Sink.faults (HasReport g.K.Sink.written (g.P.Process.report c.args.process.now c.args.context.now) (walker_of c.take_statement-moved.result.0)) c.args.script.now.statements c.loop-at.at c.line.result c.loop-at.next c.statement.result.now c.take_statement-moved.result.1 c.args.self.now.drafts.items c.loop-at.self.drafts.items c.take_statement-moved.new.drafts.items
    (numbered_at c.args.script.now c.loop-at.at c.line.result c.statement.result.now c.line.ensures c.statement.ensures) c.loop-at.invariant.all c.loop-at.invariant.outputs c.take_statement-moved.ensures.outputs (sym c.in-None.ensures.next)).failed all)

pub returns-clause-traced : goal.returns-clause-traced
returns-clause-traced g c = λ all. (
  c.loop-at.next,
  subst (λ n. HasTraced g.K.Sink.written (g.P.Process.report c.args.process.now c.args.context.now) n c.args.script.now.statements c.args.place (view c.args.self.now.turns) c.loop-at.place (view c.loop-at.self.turns) c.loop-at.self.lines.items c.loop-at.next c.args.self.now.drafts.items c.loop-at.self.drafts.items) c.loop-at.invariant.number
      (subst (λ l. HasTraced g.K.Sink.written (g.P.Process.report c.args.process.now c.args.context.now) c.loop-at.self.script l c.args.place (view c.args.self.now.turns) c.loop-at.place (view c.loop-at.self.turns) c.loop-at.self.lines.items c.loop-at.next c.args.self.now.drafts.items c.loop-at.self.drafts.items)
      (take_past c.loop-at.at c.args.script.now.statements (let past = c.loop-at-test.false in omega arith)) c.loop-at.invariant.traced),
)

pub returns-in-None-clause-own : goal.returns-in-None-clause-own
returns-in-None-clause-own g c =
    own_next (meanings (g.P.Process.image_fault c.args.process.now) (g.P.Process.report c.args.process.now c.args.context.now)) c.args.script.now.statements c.loop-at.at c.line.result c.statement.result.now c.loop-at.self.script
    (view c.loop-at.self.turns) (view c.take_statement-moved.new.turns) (walker_of c.loop-at.place).names (walker_of c.take_statement-moved.result.0).names c.requires.apart
    (numbered_at c.args.script.now c.loop-at.at c.line.result c.statement.result.now c.line.ensures c.statement.ensures) c.take_statement-moved.ensures.goes.went c.loop-at.invariant.own c.take_statement-moved.ensures.own

pub returns-clause-taken : goal.returns-clause-taken
returns-clause-taken g c = record {
  number = c.loop-at.invariant.number;
  places = c.loop-at.invariant.outputs.places;
  done = all_done g.K.Sink.faults c.args.script.now.statements c.loop-at.at c.loop-at.next c.args.self.now.drafts.items c.loop-at.self.drafts.items c.loop-at.invariant.all (let past = c.loop-at-test.false in omega arith) c.loop-at.invariant.outputs;
}

pub loop-at-preserved : goal.loop-at-preserved
loop-at-preserved g c = record {
  number = c.loop-at.invariant.number;
  pass = (c.take_statement-moved.ensures.queue.0 ∙ c.loop-at.invariant.pass.0, c.take_statement-moved.ensures.queue.2 ∙ c.loop-at.invariant.pass.1);
  so_far = so_far_next c.loop-at.self.script c.args.list.now c.args.script.now.statements c.loop-at.at c.line.result c.statement.result.now (view c.loop-at.self.turns) (view c.take_statement-moved.new.turns) c.loop-at.invariant.so_far
      (numbered_at c.args.script.now c.loop-at.at c.line.result c.statement.result.now c.line.ensures c.statement.ensures) c.take_statement-moved.ensures.advances c.take_statement-moved.ensures.working;
  place = c.take_statement-moved.ensures.list;
  goes = again (walker_of c.args.place) (walker_of c.loop-at.place) (walker_of c.take_statement-moved.result.0) c.loop-at.invariant.goes c.take_statement-moved.ensures.goes;
  own = own_next (meanings (g.P.Process.image_fault c.args.process.now) (g.P.Process.report c.args.process.now c.args.context.now)) c.args.script.now.statements c.loop-at.at c.line.result c.statement.result.now c.loop-at.self.script
      (view c.loop-at.self.turns) (view c.take_statement-moved.new.turns) (walker_of c.loop-at.place).names (walker_of c.take_statement-moved.result.0).names c.requires.apart
      (numbered_at c.args.script.now c.loop-at.at c.line.result c.statement.result.now c.line.ensures c.statement.ensures) c.take_statement-moved.ensures.goes.went c.loop-at.invariant.own c.take_statement-moved.ensures.own;
  lines = c.add_line.ensures.lines (length c.args.script.now.statements) (let less = c.loop-at-test.true in omega arith) c.loop-at.invariant.lines;
  fits = (let l = c.add_line.ensures.len in let f = c.loop-at.invariant.fits in omega arith);
  room = (let l = c.add_line.ensures.capacity in let f = c.loop-at.invariant.room in omega arith);
  all = (let n = (taken_on g.K.Sink.faults (HasReport g.K.Sink.written (g.P.Process.report c.args.process.now c.args.context.now) (walker_of c.take_statement-moved.result.0)) c.args.script.now.statements c.loop-at.at c.line.result c.loop-at.next c.in-Some.more c.statement.result.now c.take_statement-moved.result.1 c.args.self.now.drafts.items c.loop-at.self.drafts.items c.take_statement-moved.new.drafts.items
      (numbered_at c.args.script.now c.loop-at.at c.line.result c.statement.result.now c.line.ensures c.statement.ensures) c.loop-at.invariant.all c.loop-at.invariant.outputs c.take_statement-moved.ensures.outputs (sym c.in-Some.ensures.next)).places.count in n ∙ c.requires.outputs.count);
  reported = reported_on g.K.Sink.written (g.P.Process.report c.args.process.now c.args.context.now) (walker_of c.loop-at.place) (walker_of c.take_statement-moved.result.0) g.K.Sink.faults c.loop-at.next c.in-Some.more (file_of c.statement.result.now) c.take_statement-moved.result.1
      c.args.self.now.drafts.items c.loop-at.self.drafts.items c.take_statement-moved.new.drafts.items c.take_statement-moved.ensures.goes
      (output_left c.args.script.now.statements c.loop-at.at c.line.result c.loop-at.next c.statement.result.now c.loop-at.self.drafts.items
      (numbered_at c.args.script.now c.loop-at.at c.line.result c.statement.result.now c.line.ensures c.statement.ensures) c.loop-at.invariant.all c.loop-at.invariant.outputs.counted) c.loop-at.invariant.reported c.take_statement-moved.ensures.outputs (sym c.in-Some.ensures.next);
  traced = traced_on g.K.Sink.written (g.P.Process.report c.args.process.now c.args.context.now) g.K.Sink.faults (HasReport g.K.Sink.written (g.P.Process.report c.args.process.now c.args.context.now) (walker_of c.take_statement-moved.result.0)) c.loop-at.self.script c.args.script.now.statements c.loop-at.at c.line.result c.loop-at.next c.in-Some.more c.statement.result.now c.take_statement-moved.result.1
      c.args.place (view c.args.self.now.turns) c.loop-at.place (view c.loop-at.self.turns) c.take_statement-moved.result.0 (view c.take_statement-moved.new.turns) c.loop-at.self.lines.items c.add_line.new.lines.items c.args.self.now.drafts.items c.loop-at.self.drafts.items c.take_statement-moved.new.drafts.items
      (numbered_at c.args.script.now c.loop-at.at c.line.result c.statement.result.now c.line.ensures c.statement.ensures) c.add_line.ensures.said
      (output_left c.args.script.now.statements c.loop-at.at c.line.result c.loop-at.next c.statement.result.now c.loop-at.self.drafts.items
      (numbered_at c.args.script.now c.loop-at.at c.line.result c.statement.result.now c.line.ensures c.statement.ensures) c.loop-at.invariant.all c.loop-at.invariant.outputs.counted)
      c.loop-at.invariant.reported.same c.take_statement-moved.ensures.outputs (sym c.in-Some.ensures.next) c.take_statement-moved.ensures.acts c.take_statement-moved.ensures.applies c.take_statement-moved.ensures.goes c.loop-at.invariant.traced;
  outputs = taken_on g.K.Sink.faults (HasReport g.K.Sink.written (g.P.Process.report c.args.process.now c.args.context.now) (walker_of c.take_statement-moved.result.0)) c.args.script.now.statements c.loop-at.at c.line.result c.loop-at.next c.in-Some.more c.statement.result.now c.take_statement-moved.result.1 c.args.self.now.drafts.items c.loop-at.self.drafts.items c.take_statement-moved.new.drafts.items
      (numbered_at c.args.script.now c.loop-at.at c.line.result c.statement.result.now c.line.ensures c.statement.ensures) c.loop-at.invariant.all c.loop-at.invariant.outputs c.take_statement-moved.ensures.outputs (sym c.in-Some.ensures.next);
}

pub returns-in-None-clause-image : goal.returns-in-None-clause-image
returns-in-None-clause-image g c = again (walker_of c.args.place) (walker_of c.loop-at.place) (walker_of c.take_statement-moved.result.0) c.loop-at.invariant.goes c.take_statement-moved.ensures.goes
