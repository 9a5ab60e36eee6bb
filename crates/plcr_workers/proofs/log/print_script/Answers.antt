use Rattle.std.proofs.Common.{ℕ, Some, List, slice_get, get_or, subst, ap, ◌∙◌, arith}
use Rattle.std.specs.Io.KnownBytes.{append_known}
use Rattle.std.proofs.lemmas.Result.{err_from_is_err_and}
use Rattle.plcr_base.specs.Told.{AppendsProperFront}
use Rattle.plcr_script.specs.Log.{log_line}
use Rattle.plcr_script.specs.declared.statements.NumberedStatement.{NumberedStatement}
use Rattle.plcr_workers.specs.declared.lines.PassSaid.TheVariants.{Entered}
use Rattle.plcr_workers.specs.declared.lines.PassLine.{PassLine}
use Rattle.plcr_workers.specs.Log.{line_of, file_of, pass_outcome}
use Rattle.plcr_workers.proofs.Printed.{printed_cut, printed_more, line_printed}
use Rattle.plcr_workers.proofs.log.print_script.Goals as goal

abbrev no_line : PassLine
no_line = record { at = 0; said = Entered }

abbrev text_of : ℕ → List NumberedStatement → PassLine → List ℕ
text_of number statements l = log_line (Some number) (line_of (slice_get statements l.at)) (pass_outcome (file_of (slice_get statements l.at)) l.said)

pub returns-in_err-write_outcome-clause-err : goal.returns-in_err-write_outcome-clause-err
returns-in_err-write_outcome-clause-err g c =
    let p = err_from_is_err_and c.from_residual.result c.from_residual.ensures.1 in
    let l = get_or c.args.told.now c.loop-line.line-index no_line in
    rw (p.1)
    (printed_cut (text_of c.args.number c.args.script.now.statements) c.args.told.now c.loop-line.line-index no_line (g.L.Sink.written c.args.lines.now) (g.L.Sink.written c.loop-line.lines) (g.L.Sink.written c.write_outcome.new.sink)
    c.loop-line-test.true c.loop-line.invariant.0
    (subst (AppendsProperFront (g.L.Sink.written c.loop-line.lines) (g.L.Sink.written c.write_outcome.new.sink))
    (line_printed (slice_get c.args.script.now.statements l.at) c.line.result c.statement.result.now c.file_of-file.result.now c.outcome_of_pass-outcome.result l.said c.args.number
    c.line.ensures c.statement.ensures c.file_of-file.ensures c.outcome_of_pass-outcome.ensures)
    c.in_err-write_outcome.ensures.err))

pub loop-line-preserved : goal.loop-line-preserved
loop-line-preserved g c =
    let l = get_or c.args.told.now c.loop-line.line-index no_line in (
      printed_more (text_of c.args.number c.args.script.now.statements) c.args.told.now c.loop-line.line-index no_line (g.L.Sink.written c.args.lines.now) (g.L.Sink.written c.loop-line.lines) (g.L.Sink.written c.write_outcome.new.sink)
          c.loop-line-test.true c.loop-line.invariant.0
          (c.in_ok-write_outcome.ensures.ok
          ∙ ap (append_known (g.L.Sink.written c.loop-line.lines))
          (line_printed (slice_get c.args.script.now.statements l.at) c.line.result c.statement.result.now c.file_of-file.result.now c.outcome_of_pass-outcome.result l.said c.args.number
          c.line.ensures c.statement.ensures c.file_of-file.ensures c.outcome_of_pass-outcome.ensures)),
      (let more = c.write_outcome.ensures.later in let before = c.loop-line.invariant.1 in omega arith),
      c.write_outcome.ensures.mark ∙ c.loop-line.invariant.2,
    )
