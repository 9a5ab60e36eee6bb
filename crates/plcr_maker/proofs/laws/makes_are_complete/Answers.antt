use Rattle.plcr_maker.proofs.Statuses.{makes_complete}
use Rattle.plcr_maker.proofs.laws.makes_are_complete.Goals as goal

pub returns : goal.returns
returns c = makes_complete
