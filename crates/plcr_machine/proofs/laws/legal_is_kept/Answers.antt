use Rattle.plcr_machine.proofs.Reach.{legal_kept, reach_busy}
use Rattle.plcr_machine.proofs.laws.legal_is_kept.Goals as goal

pub returns-clause-kept : goal.returns-clause-kept
returns-clause-kept c = legal_kept

pub returns-clause-busy : goal.returns-clause-busy
returns-clause-busy c = reach_busy
