use Rattle.plcr_tool.proofs.Statused.{shown_by_status}
use Rattle.plcr_tool.proofs.statuses.show_by_status.Goals as goal

pub returns : goal.returns
returns c = shown_by_status
