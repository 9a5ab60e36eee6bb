use Rattle.std.proofs.Common.{sym, subst, List}
use Rattle.plcr_run.specs.declared.slots.Slot.{Slot}
use Rattle.plcr_run.specs.declared.writing.Writing.{Writing}
use Rattle.plcr_run.specs.declared.writing.Writing.TheVariants.{Resting}
use Rattle.plcr_run.specs.inner.Tokens.{AreTokens, Goes}
use Rattle.plcr_run.specs.inner.Ending.{finished_state}
use Rattle.plcr_run.proofs.Meetings.{finish_goes, rest_goes}
use Rattle.plcr_run.proofs.ending.finish_open.Goals as goal

pub returns-in-Resting-clause-finished : goal.returns-in-Resting-clause-finished
returns-in-Resting-clause-finished c =
    subst (λ (w : Writing). (slots : List Slot) → AreTokens c.args.list.now w slots → AreTokens c.args.list.now (Resting c.in-Resting.writer) slots × Goes w slots finished_state (Resting c.in-Resting.writer) slots) (sym c.in-Resting.is)
    (λ slots tokens. (tokens, rest_goes c.in-Resting.writer slots))

pub returns-in-Changing-clause-finished : goal.returns-in-Changing-clause-finished
returns-in-Changing-clause-finished c =
    subst (λ (w : Writing). (slots : List Slot) → AreTokens c.args.list.now w slots → AreTokens c.args.list.now (Resting c.finish.result) slots × Goes w slots finished_state (Resting c.finish.result) slots) (sym c.in-Changing.is)
    (λ slots tokens. finish_goes c.args.list.now c.in-Changing.change c.finish.result slots c.finish.ensures.stepped c.finish.ensures.rest tokens)
