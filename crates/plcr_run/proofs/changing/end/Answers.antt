use Rattle.std.proofs.Common.{sym, subst}
use Rattle.plcr_script.specs.RunTurns.{where_open, stepped_through}
use Rattle.plcr_run.specs.declared.writing.Writing.{Writing}
use Rattle.plcr_run.specs.declared.writing.Writing.TheVariants.{Resting}
use Rattle.plcr_run.specs.inner.Changes.{WriterTurns}
use Rattle.plcr_run.proofs.Stepped.{end_turns}
use Rattle.plcr_run.proofs.changing.end.Goals as goal

pub returns-in-Changing-clause-turns : goal.returns-in-Changing-clause-turns
returns-in-Changing-clause-turns c =
    subst (λ (w : Writing). WriterTurns c.args.list.now w (λ n p. where_open stepped_through) (Resting c.finish-writer.result) c.made_outcome.result) (sym c.in-Changing.is)
    (end_turns c.args.list.now c.in-Changing.change c.finish-writer.result c.is_load-loads.result c.load-load.result c.made_outcome.result c.finish-writer.ensures.stepped c.finish-writer.ensures.rest c.is_load-loads.ensures c.load-load.ensures c.made_outcome.ensures)
