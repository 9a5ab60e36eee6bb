use Rattle.std.proofs.Common.{◌≡◌, None, sym, ◌∙◌, subst}
use Rattle.plcr_script.specs.Meanings.{meanings}
use Rattle.plcr_script.specs.RunTurns.{load_turn, made_whole}
use Rattle.plcr_run.specs.declared.writing.Writing.{Writing}
use Rattle.plcr_run.specs.declared.writing.Writing.TheVariants.{Resting}
use Rattle.plcr_run.specs.inner.Changes.{WriterTurns}
use Rattle.plcr_run.proofs.WriterTurned.{LoadAnswers, load_whole}
use Rattle.plcr_run.proofs.changing.load.Goals as goal

pub returns-in-None-clause-turns : goal.returns-in-None-clause-turns
returns-in-None-clause-turns g c = λ report.
    let process = meanings (g.P.Process.image_fault c.args.process.now) report in
    let none : process.fault c.args.header ≡ None = sym c.fault.ensures ∙ c.in-None.is in
    let answers : LoadAnswers c.in-Resting.writer c.args.header c.args.name.now c.load-writer.result.0 c.load-writer.result.1 = record { worn = c.load-writer.ensures.worn; long = c.load-writer.ensures.long; loads = c.load-writer.ensures.loads } in
    subst (λ (w : Writing). WriterTurns c.args.list.now w (λ n p. load_turn process n p made_whole c.args.header c.args.name.now) (Resting c.load-writer.result.0) c.load_outcome.result) (sym c.in-Resting.is)
    (load_whole c.args.list.now process c.in-Resting.writer c.load-writer.result.0 c.args.header c.args.name.now c.load-writer.result.1 c.load_outcome.result none answers c.load-writer.ensures.lists c.load-writer.ensures.rest c.load_outcome.ensures)
