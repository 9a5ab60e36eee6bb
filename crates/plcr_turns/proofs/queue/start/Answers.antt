use Rattle.std.proofs.Common.{◌≡◌, ◌∷◌, [], List, sym, subst}
use Rattle.crossbeam_queue.specs.Fifo.{Pushes, Learns}
use Rattle.crossbeam_queue.specs.Passes.{view, ruled_capacity}
use Rattle.plcr_turns.specs.declared.view.View.{View}
use Rattle.plcr_turns.specs.Turns.{TurnState}
use Rattle.plcr_turns.specs.Views.{opened_view}
use Rattle.plcr_turns.specs.Rule.{IsKept}
use Rattle.plcr_turns.proofs.Beginning.{opens, opens_empty}
use Rattle.plcr_turns.proofs.queue.start.Goals as goal

pub push_as-requires-clause-rule : goal.push_as-requires-clause-rule
push_as-requires-clause-rule g c = (
  subst (λ (v : View). Pushes IsKept (ruled_capacity c.args.queue.now) c.args.pass.now.id v c.args.turn (λ w. w ≡ opened_view c.args.turn)) (sym c.requires.first) (opens _ _ _),
  subst (λ (v : View). Learns IsKept c.args.pass.now.id v (λ (items : List TurnState). items ≡ [])) (sym c.requires.first) (opens_empty _),
)
