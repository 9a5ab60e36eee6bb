use Rattle.plcr_machine.specs.Lists.{load_number}
use Rattle.plcr_machine.specs.Changes.{load_of}
use Rattle.plcr_machine.proofs.Staying.{whole_stays, lawful_stays, lawful_wider}
use Rattle.plcr_machine.proofs.change_laws.ended_walks_stay.Goals as goal

pub returns-clause-stay : goal.returns-clause-stay
returns-clause-stay c = λ past h a b met g le. (whole_stays past h a b met g le, lawful_stays past h a b met g le)

pub returns-clause-wider : goal.returns-clause-wider
returns-clause-wider c = lawful_wider load_number

pub returns-clause-named : goal.returns-clause-named
returns-clause-named c = lawful_wider load_of
