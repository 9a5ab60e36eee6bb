use Rattle.plcr_turns.proofs.Handed.{joins}
use Rattle.plcr_turns.proofs.handing.take_in.Goals as goal

pub absorb-requires-clause-rule : goal.absorb-requires-clause-rule
absorb-requires-clause-rule c = joins _ _ _ _ c.requires.chief.0 c.requires.chief.1 c.requires.worker.0 c.requires.worker.1
