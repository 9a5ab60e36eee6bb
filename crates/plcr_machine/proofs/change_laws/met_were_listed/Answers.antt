use Rattle.plcr_machine.proofs.Renaming.{met_named}
use Rattle.plcr_machine.proofs.Staying.{met_were_listed}
use Rattle.plcr_machine.specs.Lists.{load_number, list_after}
use Rattle.plcr_machine.proofs.Growing.{meets-grows, meets_until}
use Rattle.plcr_machine.proofs.change_laws.met_were_listed.Goals as goal

pub returns-clause-listed : goal.returns-clause-listed
returns-clause-listed c = met_were_listed

pub returns-clause-named : goal.returns-clause-named
returns-clause-named c = λ nodes passes names h a b met l f m. met_named nodes passes names h l f a b met m

pub returns-clause-stay : goal.returns-clause-stay
returns-clause-stay c = λ past h a b d met g le later m. meets_until load_number (list_after h) 0 a b d met later (meets-grows past h 0 a b met g le m)
