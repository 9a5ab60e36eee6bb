use Rattle.plcr_loader.proofs.Lists.{lists_lie}
use Rattle.plcr_loader.proofs.laws.commands_lie.Goals as goal

pub returns-clause-found : goal.returns-clause-found
returns-clause-found c = lists_lie
