use Rattle.plcr_core.proofs.LaidOut.{cores_lie, cores_again, cores_stop}
use Rattle.plcr_core.proofs.laws.cores_lie.Goals as goal

pub returns-clause-found : goal.returns-clause-found
returns-clause-found c = cores_lie

pub returns-clause-only : goal.returns-clause-only
returns-clause-only c = cores_again

pub returns-clause-first : goal.returns-clause-first
returns-clause-first c = cores_stop
