use Rattle.std.proofs.Common.{◌+◌, Some, get_or, subst}
use Rattle.std.proofs.lemmas.Result.{err_from_is_err_and}
use Rattle.plcr_base.specs.Told.{AppendsProperFront}
use Rattle.plcr_script.specs.declared.outcomes.Outcome.{Outcome}
use Rattle.plcr_script.specs.Log.{log_line}
use Rattle.plcr_turns.specs.declared.lines.Asked.TheVariants.{Load}
use Rattle.plcr_turns.specs.declared.lines.Said.TheVariants.{NotImage}
use Rattle.plcr_turns.specs.declared.lines.ChangeLine.{ChangeLine}
use Rattle.plcr_workers.specs.Outcomes.{outcome_of}
use Rattle.plcr_workers.proofs.Printed.{printed_cut}
use Rattle.plcr_workers.proofs.log.print_journal.Goals as goal

abbrev no_line : ChangeLine
no_line = record { script = 0; wanted = record { line = 0; asked = Load 0 }; said = NotImage 0 }

pub returns-in_err-write_outcome-clause-err : goal.returns-in_err-write_outcome-clause-err
returns-in_err-write_outcome-clause-err g c =
    let p = err_from_is_err_and c.from_residual.result c.from_residual.ensures.1 in
    rw (p.1)
    (printed_cut (λ (l : ChangeLine). log_line (Some (l.script + 1)) l.wanted.line (outcome_of l.said)) c.args.journal.now c.loop-line.line-index no_line (g.L.Sink.written c.args.lines.now) (g.L.Sink.written c.loop-line.lines)
    (g.L.Sink.written c.write_outcome.new.sink) c.loop-line-test.true c.loop-line.invariant.0
    (subst (λ (o : Outcome). AppendsProperFront (g.L.Sink.written c.loop-line.lines) (g.L.Sink.written c.write_outcome.new.sink) (log_line (Some ((get_or c.args.journal.now c.loop-line.line-index no_line).script + 1)) (get_or c.args.journal.now c.loop-line.line-index no_line).wanted.line o)) c.outcome_of-outcome.ensures c.in_err-write_outcome.ensures.err))
