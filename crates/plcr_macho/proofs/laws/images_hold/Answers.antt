use Rattle.plcr_macho.proofs.Held.{first_found, first_again, none_found}
use Rattle.plcr_macho.proofs.laws.images_hold.Goals as goal

pub returns-clause-found : goal.returns-clause-found
returns-clause-found c = first_found

pub returns-clause-only : goal.returns-clause-only
returns-clause-only c = first_again

pub returns-clause-none : goal.returns-clause-none
returns-clause-none c = none_found
