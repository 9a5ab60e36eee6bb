use Rattle.std.proofs.Common.{◌≡◌, sym, subst, refl, ap, true}
use Rattle.crossbeam_queue.specs.Passes.{view}
use Rattle.plcr_turns.specs.Views.{IsUnspent, is_unspent}
use Rattle.plcr_turns.proofs.Going.{takes, must_hold}
use Rattle.plcr_turns.proofs.queue.take_last.Goals as goal

pub pop_as-requires-clause-rule : goal.pop_as-requires-clause-rule
pop_as-requires-clause-rule g c = let live : IsUnspent (view c.args.pass.now) = ap is_unspent c.requires.chief.0 in (takes _ _ live, must_hold _ _ live)
