use Rattle.plcr_machine.proofs.Reach.{frees_earlier}
use Rattle.plcr_machine.proofs.laws.freed_in_order.Goals as goal

pub returns : goal.returns
returns c = frees_earlier
