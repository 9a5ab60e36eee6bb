use Rattle.std.proofs.Common.{sym, subst}
use Rattle.plcr_script.specs.RunTurns.{unload_turn, made_whole}
use Rattle.plcr_run.specs.declared.writing.Writing.{Writing}
use Rattle.plcr_run.specs.declared.writing.Writing.TheVariants.{Resting}
use Rattle.plcr_run.specs.inner.Changes.{WriterTurns}
use Rattle.plcr_run.proofs.WriterTurned.{UnloadAnswers, unload_whole}
use Rattle.plcr_run.proofs.changing.unload.Goals as goal

pub returns-in-Resting-clause-turns : goal.returns-in-Resting-clause-turns
returns-in-Resting-clause-turns c =
    let answers : UnloadAnswers c.in-Resting.writer c.args.header c.unload-writer.result.0 c.unload-writer.result.1 = record { worn = c.unload-writer.ensures.worn; unloads = c.unload-writer.ensures.unloads } in
    subst (λ (w : Writing). WriterTurns c.args.list.now w (λ n p. unload_turn made_whole c.args.header) (Resting c.unload-writer.result.0) c.unload_outcome.result) (sym c.in-Resting.is)
    (unload_whole c.args.list.now c.in-Resting.writer c.unload-writer.result.0 c.args.header c.unload-writer.result.1 c.unload_outcome.result answers c.unload-writer.ensures.lists c.unload-writer.ensures.rest c.unload_outcome.ensures)
