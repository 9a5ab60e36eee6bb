use Rattle.std.proofs.Common.{Result, refl, subst, ◌∙◌, arith}
use Rattle.std.specs.Prelude.{OnOk}
use Rattle.plcr_script.specs.Meanings.{meanings}
use Rattle.plcr_command.specs.Seen.{seen}
use Rattle.plcr_run.specs.declared.stepping.Stop.{Stop}
use Rattle.plcr_run.specs.inner.Stepping.{Steps, MovesOnly}
use Rattle.plcr_run.proofs.Composed.{so_far_none, so_far_next, all_done, stopped_at, numbered_at}
use Rattle.plcr_run.proofs.Standing.{fit_at, may_stand}
use Rattle.plcr_run.proofs.running.run.Goals as goal

pub loop-i-init : goal.loop-i-init
loop-i-init g c = record {
  tokens = c.requires.tokens;
  so_far = so_far_none _ _ _ _ _ c.requires.fresh;
  mark = refl;
}

pub take_step-next-requires-clause-fit : goal.take_step-next-requires-clause-fit
take_step-next-requires-clause-fit g c = fit_at c.args.script.now c.loop-i.i c.line.result c.statement.result.now c.requires.lawful (numbered_at c.args.script.now c.loop-i.i c.line.result c.statement.result.now c.line.ensures c.statement.ensures)

pub take_step-next-requires-clause-stands : goal.take_step-next-requires-clause-stands
take_step-next-requires-clause-stands g c =
    let so = c.loop-i.invariant.so_far in
    let at = numbered_at c.args.script.now c.loop-i.i c.line.result c.statement.result.now c.line.ensures c.statement.ensures in
    let placed = c.requires.lawful.places c.loop-i.i _ at in
    may_stand _ _ _ c.statement.result.now _ c.args.script.now.passes c.loop-i.invariant.tokens so.passes so.places placed.0 placed.1

pub returns-in-Err-clause-stopped : goal.returns-in-Err-clause-stopped
returns-in-Err-clause-stopped g c =
    let P : Result (Unit {0}) Stop → Type 0 = λ r. Steps (meanings (g.P.Process.image_fault c.args.process.now) (g.P.Process.report c.args.process.now c.args.context.now)) c.line.result c.statement.result.now c.loop-i.writing c.loop-i.slots
    (seen (g.D.Desk.told c.loop-i.desk) (g.L.Sink.written c.loop-i.lines) (g.L.Sink.faults c.loop-i.lines)) c.take_step-next.result.0 c.take_step-next.new.slots
    (seen (g.D.Desk.told c.take_step-next.new.desk) (g.L.Sink.written c.take_step-next.new.lines) (g.L.Sink.faults c.take_step-next.new.lines)) r in
    stopped_at _ _ c.loop-i.i c.line.result c.statement.result.now _ _ _ c.loop-i.writing _ c.loop-i.slots _ c.in-Err.stop c.line.ensures c.statement.ensures c.loop-i.invariant.so_far (subst P c.in-Err.is c.take_step-next.ensures.steps)

pub loop-i-preserved : goal.loop-i-preserved
loop-i-preserved g c =
    let P : Result (Unit {0}) Stop → Type 0 = λ r. Steps (meanings (g.P.Process.image_fault c.args.process.now) (g.P.Process.report c.args.process.now c.args.context.now)) c.line.result c.statement.result.now c.loop-i.writing c.loop-i.slots
    (seen (g.D.Desk.told c.loop-i.desk) (g.L.Sink.written c.loop-i.lines) (g.L.Sink.faults c.loop-i.lines)) c.take_step-next.result.0 c.take_step-next.new.slots
    (seen (g.D.Desk.told c.take_step-next.new.desk) (g.L.Sink.written c.take_step-next.new.lines) (g.L.Sink.faults c.take_step-next.new.lines)) r in
    let Q : Result (Unit {0}) Stop → Type 0 = λ r. OnOk r (MovesOnly c.statement.result.now c.loop-i.slots c.take_step-next.new.slots) in
    record {
      tokens = c.take_step-next.ensures.tokens;
      so_far = so_far_next _ _ c.loop-i.i c.line.result c.statement.result.now _ _ _ c.loop-i.writing _ c.loop-i.slots _ c.line.ensures c.statement.ensures c.loop-i.invariant.so_far (subst P c.in_default.is c.take_step-next.ensures.steps) (subst Q c.in_default.is c.take_step-next.ensures.moves) c.take_step-next.ensures.goes_on;
      mark = c.take_step-next.ensures.mark ∙ c.loop-i.invariant.mark;
    }

pub returns-clause-done : goal.returns-clause-done
returns-clause-done g c = all_done _ _ c.loop-i.i _ _ _ _ (omega arith) c.loop-i.invariant.so_far
