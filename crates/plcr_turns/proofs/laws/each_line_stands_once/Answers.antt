use Rattle.plcr_turns.proofs.Gathered.{each_once}
use Rattle.plcr_turns.proofs.laws.each_line_stands_once.Goals as goal

pub returns : goal.returns
returns c = each_once
