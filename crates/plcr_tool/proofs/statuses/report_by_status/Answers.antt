use Rattle.plcr_tool.proofs.Statused.{reports_by_status}
use Rattle.plcr_tool.proofs.statuses.report_by_status.Goals as goal

pub returns : goal.returns
returns c = reports_by_status
