use Rattle.plcr_machine.proofs.Pace.{paced_prefix, paced_even, paced_rest}
use Rattle.plcr_machine.proofs.laws.paced_prefixes.Goals as goal

pub returns-clause-prefixes : goal.returns-clause-prefixes
returns-clause-prefixes c = λ past h t g. paced_even past (paced_prefix past h t g)

pub returns-clause-rest : goal.returns-clause-rest
returns-clause-rest c = paced_rest
