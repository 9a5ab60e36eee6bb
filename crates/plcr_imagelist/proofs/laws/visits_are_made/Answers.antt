use Rattle.plcr_imagelist.proofs.Sees.{visit_made}
use Rattle.plcr_imagelist.proofs.laws.visits_are_made.Goals as goal

pub returns : goal.returns
returns c = visit_made
