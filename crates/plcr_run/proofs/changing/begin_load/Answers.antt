use Rattle.std.proofs.Common.{◌≡◌, None, Ok, Err, sym, ◌∙◌, subst}
use Rattle.plcr_script.specs.Meanings.{meanings}
use Rattle.plcr_script.specs.RunTurns.{load_turn, left_open}
use Rattle.plcr_run.specs.declared.writing.Writing.{Writing}
use Rattle.plcr_run.specs.declared.writing.Writing.TheVariants.{Resting}
use Rattle.plcr_run.specs.inner.Changes.{WriterTurns}
use Rattle.plcr_run.proofs.WriterTurned.{BeginAnswers, begin_ok, begin_err}
use Rattle.plcr_run.proofs.changing.begin_load.Goals as goal

pub returns-in-Ok-clause-turns : goal.returns-in-Ok-clause-turns
returns-in-Ok-clause-turns g c = λ report.
    let process = meanings (g.P.Process.image_fault c.args.process.now) report in
    let none : process.fault c.args.header ≡ None = sym c.fault.ensures ∙ c.in-None.is in
    let answers : BeginAnswers c.in-Resting.writer c.args.header c.args.name.now (Ok c.in-Ok.change) = record { worn = c.in-Ok.ensures.worn; long = c.in-Ok.ensures.long; begins = c.in-Ok.ensures.begins } in
    subst (λ (w : Writing). WriterTurns c.args.list.now w (λ n p. load_turn process n p left_open c.args.header c.args.name.now) c.begun.result.0 c.begun.result.1) (sym c.in-Resting.is)
    (begin_ok c.args.list.now process c.in-Resting.writer c.args.header c.args.name.now c.in-Ok.change c.begun.result.0 c.begun.result.1 none answers c.in-Ok.ensures.lists c.begun.ensures.change c.begun.ensures.outcome)

pub returns-in-Err-clause-turns : goal.returns-in-Err-clause-turns
returns-in-Err-clause-turns g c = λ report.
    let process = meanings (g.P.Process.image_fault c.args.process.now) report in
    let none : process.fault c.args.header ≡ None = sym c.fault.ensures ∙ c.in-None.is in
    let answers : BeginAnswers c.in-Resting.writer c.args.header c.args.name.now (Err (c.in-Err.writer, c.in-Err.refused)) = record { worn = c.in-Err.ensures.worn; long = c.in-Err.ensures.long; begins = c.in-Err.ensures.begins } in
    subst (λ (w : Writing). WriterTurns c.args.list.now w (λ n p. load_turn process n p left_open c.args.header c.args.name.now) (Resting c.in-Err.writer) c.load_refused.result) (sym c.in-Resting.is)
    (begin_err c.args.list.now process c.in-Resting.writer c.in-Err.writer c.args.header c.args.name.now c.in-Err.refused c.load_refused.result none answers c.in-Err.ensures.back.1 c.load_refused.ensures)
