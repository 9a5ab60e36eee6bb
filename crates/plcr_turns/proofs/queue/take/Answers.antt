use Rattle.std.proofs.Common.{sym, subst}
use Rattle.plcr_turns.specs.Views.{IsUnspent}
use Rattle.plcr_turns.proofs.Going.{takes, must_hold}
use Rattle.plcr_turns.proofs.queue.take.Goals as goal

pub pop_as-requires-clause-rule : goal.pop_as-requires-clause-rule
pop_as-requires-clause-rule g c = let live = subst IsUnspent (sym c.loop.invariant.2) c.requires.view in (takes _ _ live, must_hold _ _ live)
