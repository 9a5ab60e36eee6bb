use Rattle.plcr_maker.proofs.Statuses.{made_by_status}
use Rattle.plcr_maker.proofs.laws.make_by_status.Goals as goal

pub returns : goal.returns
returns c = made_by_status
