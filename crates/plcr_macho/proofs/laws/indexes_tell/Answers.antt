use Rattle.plcr_macho.proofs.Agreeing.{index_agrees}
use Rattle.plcr_macho.proofs.laws.indexes_tell.Goals as goal

pub returns : goal.returns
returns c = index_agrees
