use Rattle.plcr_tool.proofs.Written.{written_again}
use Rattle.plcr_tool.proofs.laws.written_reports_are_read.Goals as goal

pub returns : goal.returns
returns c = written_again
