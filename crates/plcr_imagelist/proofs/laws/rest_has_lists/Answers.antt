use Rattle.plcr_imagelist.proofs.Changed.{has_lists}
use Rattle.plcr_imagelist.proofs.laws.rest_has_lists.Goals as goal

pub returns : goal.returns
returns c = λ s r. has_lists s r.known r.first
