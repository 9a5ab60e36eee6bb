use Rattle.plcr_turns.proofs.Handed.{hands}
use Rattle.plcr_turns.proofs.handing.hand_out.Goals as goal

pub another-requires-clause-rule : goal.another-requires-clause-rule
another-requires-clause-rule c = hands _ _ c.requires.chief.0 c.requires.chief.1 c.requires.script
