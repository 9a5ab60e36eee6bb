use Rattle.plcr_machine.proofs.Growing.{list_after-grows, changes_make}
use Rattle.plcr_machine.proofs.laws.lists_stay.Goals as goal

pub returns-clause-stay : goal.returns-clause-stay
returns-clause-stay c = list_after-grows

pub returns-clause-changes : goal.returns-clause-changes
returns-clause-changes c = changes_make
