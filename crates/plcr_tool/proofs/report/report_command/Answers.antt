use Rattle.plcr_tool.proofs.Ended.{leaves_by}
use Rattle.plcr_tool.proofs.Headlined.{truly_by}
use Rattle.plcr_tool.proofs.report.report_command.Goals as goal

pub returns-clause-past : goal.returns-clause-past
returns-clause-past g c = leaves_by _ _ _ _ _ c.report.result _ c.status.ensures c.report.ensures.leaves

pub returns-clause-headline : goal.returns-clause-headline
returns-clause-headline g c = truly_by _ _ _ _ _ c.report.result _ c.status.ensures c.report.ensures.truly
