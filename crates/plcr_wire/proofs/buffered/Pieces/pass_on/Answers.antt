-- What was held went to the sink, or a front of it.
use Rattle.plcr_wire.proofs.Gathered.{held_put}
use Rattle.plcr_wire.proofs.buffered.Pieces.pass_on.Goals as goal

pub returns-clause-given : goal.returns-clause-given
returns-clause-given g c = held_put _ _ _ _ _ _ _ _ _ _ c.put_held.ensures.parts c.put_held.ensures.later c.put_held.ensures.mark
