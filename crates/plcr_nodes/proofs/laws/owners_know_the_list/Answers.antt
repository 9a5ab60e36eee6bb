use Rattle.plcr_nodes.proofs.Pacing.{same_list, same_joined}
use Rattle.plcr_nodes.proofs.laws.owners_know_the_list.Goals as goal

pub returns : goal.returns
returns c = record { list = same_list; joined = same_joined }
