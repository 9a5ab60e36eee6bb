use Rattle.plcr_turns.proofs.Gathered.{gathers_next, has_all_again}
use Rattle.plcr_turns.proofs.laws.workers_are_taken_in.Goals as goal

pub returns-clause-next : goal.returns-clause-next
returns-clause-next c = gathers_next

pub returns-clause-all : goal.returns-clause-all
returns-clause-all c = has_all_again
