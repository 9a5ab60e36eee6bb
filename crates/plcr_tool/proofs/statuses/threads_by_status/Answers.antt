use Rattle.plcr_tool.proofs.Running.{threads_by_status}
use Rattle.plcr_tool.proofs.statuses.threads_by_status.Goals as goal

pub returns : goal.returns
returns c = threads_by_status
