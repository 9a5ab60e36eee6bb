use Rattle.plcr_race.proofs.Opened.{opened_on}
use Rattle.plcr_race.proofs.list.open.Goals as goal

pub returns-in-Ok-clause-passes : goal.returns-in-Ok-clause-passes
returns-in-Ok-clause-passes c = opened_on c.args.nodes c.args.passes _ _ _ c.in-Ok.ensures.opened.1
