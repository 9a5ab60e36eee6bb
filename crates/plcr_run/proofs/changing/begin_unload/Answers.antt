use Rattle.std.proofs.Common.{Ok, Err, sym, subst}
use Rattle.plcr_script.specs.RunTurns.{unload_turn, left_open}
use Rattle.plcr_run.specs.declared.writing.Writing.{Writing}
use Rattle.plcr_run.specs.declared.writing.Writing.TheVariants.{Resting}
use Rattle.plcr_run.specs.inner.Changes.{WriterTurns}
use Rattle.plcr_run.proofs.WriterTurned.{BeginUnloadAnswers, begin_unload_ok, begin_unload_err}
use Rattle.plcr_run.proofs.changing.begin_unload.Goals as goal

pub returns-in-Ok-clause-turns : goal.returns-in-Ok-clause-turns
returns-in-Ok-clause-turns c =
    let answers : BeginUnloadAnswers c.in-Resting.writer c.args.header (Ok c.in-Ok.change) = record { worn = c.in-Ok.ensures.worn; begins = c.in-Ok.ensures.begins } in
    subst (λ (w : Writing). WriterTurns c.args.list.now w (λ n p. unload_turn left_open c.args.header) c.begun.result.0 c.begun.result.1) (sym c.in-Resting.is)
    (begin_unload_ok c.args.list.now c.in-Resting.writer c.args.header c.in-Ok.change c.begun.result.0 c.begun.result.1 answers c.in-Ok.ensures.lists c.begun.ensures.change c.begun.ensures.outcome)

pub returns-in-Err-clause-turns : goal.returns-in-Err-clause-turns
returns-in-Err-clause-turns c =
    let answers : BeginUnloadAnswers c.in-Resting.writer c.args.header (Err (c.in-Err.writer, c.in-Err.refused)) = record { worn = c.in-Err.ensures.worn; begins = c.in-Err.ensures.begins } in
    subst (λ (w : Writing). WriterTurns c.args.list.now w (λ n p. unload_turn left_open c.args.header) (Resting c.in-Err.writer) c.unload_refused.result) (sym c.in-Resting.is)
    (begin_unload_err c.args.list.now c.in-Resting.writer c.in-Err.writer c.args.header c.in-Err.refused c.unload_refused.result answers c.in-Err.ensures.back.1 c.unload_refused.ensures)
