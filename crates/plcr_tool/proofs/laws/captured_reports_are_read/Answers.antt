use Rattle.plcr_tool.proofs.Captured.{captured_again}
use Rattle.plcr_tool.proofs.laws.captured_reports_are_read.Goals as goal

pub returns : goal.returns
returns c = captured_again
