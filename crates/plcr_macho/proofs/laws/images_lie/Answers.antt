use Rattle.plcr_macho.proofs.Reading.{memory_is_plain}
use Rattle.plcr_macho.proofs.LaidOut.{images_lie, images_again, images_stop}
use Rattle.plcr_macho.proofs.laws.images_lie.Goals as goal

pub returns-clause-found : goal.returns-clause-found
returns-clause-found c = images_lie

pub returns-clause-only : goal.returns-clause-only
returns-clause-only c = images_again

pub returns-clause-first : goal.returns-clause-first
returns-clause-first c = images_stop

pub returns-clause-memory : goal.returns-clause-memory
returns-clause-memory c = memory_is_plain
