use Rattle.plcr_imagelist.proofs.Opened.{walkers_numbered}
use Rattle.plcr_imagelist.proofs.laws.passes_are_numbered.Goals as goal

pub returns : goal.returns
returns c = walkers_numbered
