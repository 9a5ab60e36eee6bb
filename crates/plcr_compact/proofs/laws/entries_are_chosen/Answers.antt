use Rattle.plcr_compact.proofs.Choosing.{chosen_found, chosen_only}
use Rattle.plcr_compact.proofs.laws.entries_are_chosen.Goals as goal

pub returns-clause-found : goal.returns-clause-found
returns-clause-found c = chosen_found

pub returns-clause-only : goal.returns-clause-only
returns-clause-only c = chosen_only
