use Rattle.plcr_turns.proofs.Going.{gives, gives_empty}
use Rattle.plcr_turns.proofs.queue.give.Goals as goal

pub push_as-requires-clause-rule : goal.push_as-requires-clause-rule
push_as-requires-clause-rule g c = (gives _ _ _ _ c.requires.may, gives_empty _ _ _ c.requires.may)
