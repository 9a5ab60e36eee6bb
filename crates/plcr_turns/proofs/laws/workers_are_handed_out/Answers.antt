use Rattle.plcr_turns.proofs.Gathered.{nothing_handed, hands_next, nobody_gathered}
use Rattle.plcr_turns.proofs.laws.workers_are_handed_out.Goals as goal

pub returns-clause-nothing : goal.returns-clause-nothing
returns-clause-nothing c = nothing_handed

pub returns-clause-next : goal.returns-clause-next
returns-clause-next c = hands_next

pub returns-clause-nobody : goal.returns-clause-nobody
returns-clause-nobody c = nobody_gathered
