use Rattle.plcr_tool.proofs.Statused.{misused_words}
use Rattle.plcr_tool.proofs.statuses.usage_by_status.Goals as goal

pub returns : goal.returns
returns c = misused_words
