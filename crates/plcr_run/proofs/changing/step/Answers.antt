use Rattle.std.proofs.Common.{sym, subst}
use Rattle.plcr_script.specs.declared.outcomes.Outcome.TheVariants as outcomes
use Rattle.plcr_script.specs.RunTurns.{where_open, step_turn}
use Rattle.plcr_run.specs.declared.writing.Writing.{Writing}
use Rattle.plcr_run.specs.declared.writing.Writing.TheVariants.{Resting, Changing}
use Rattle.plcr_run.specs.inner.Changes.{WriterTurns}
use Rattle.plcr_run.proofs.Stepped.{step_done, step_more}
use Rattle.plcr_run.proofs.changing.step.Goals as goal

pub returns-in-More-clause-turns : goal.returns-in-More-clause-turns
returns-in-More-clause-turns c =
    subst (λ (w : Writing). WriterTurns c.args.list.now w (λ n p. where_open (step_turn c.args.most)) (Changing c.in-More.change) (outcomes.Stepped c.made-made.result)) (sym c.in-Changing.is)
    (step_more c.args.list.now c.in-Changing.change c.in-More.change c.args.most c.made-made.result c.in-More.ensures.stepped c.in-More.ensures.lists c.made-made.ensures)

pub returns-in-Done-clause-turns : goal.returns-in-Done-clause-turns
returns-in-Done-clause-turns c =
    subst (λ (w : Writing). WriterTurns c.args.list.now w (λ n p. where_open (step_turn c.args.most)) (Resting c.in-Done.writer) c.made_outcome.result) (sym c.in-Changing.is)
    (step_done c.args.list.now c.in-Changing.change c.args.most c.in-Done.writer c.is_load-loads.result c.load-load.result c.made_outcome.result c.in-Done.ensures.stepped c.is_load-loads.ensures c.load-load.ensures c.made_outcome.ensures)
