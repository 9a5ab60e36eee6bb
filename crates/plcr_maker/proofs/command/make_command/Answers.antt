use Rattle.plcr_maker.proofs.Whole.{leaves_by}
use Rattle.plcr_maker.proofs.command.make_command.Goals as goal

pub returns-clause-past : goal.returns-clause-past
returns-clause-past g c = leaves_by _ _ c.made.result _ c.status.ensures c.made.ensures.leaves
