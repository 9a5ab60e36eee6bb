use Rattle.plcr_machine.proofs.Makers.{finds_nobody}
use Rattle.plcr_machine.proofs.change_laws.met_finds_nobody.Goals as goal

pub returns : goal.returns
returns c = finds_nobody
