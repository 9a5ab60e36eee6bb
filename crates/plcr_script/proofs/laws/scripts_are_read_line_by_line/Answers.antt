use Rattle.plcr_script.proofs.WholeScripts.{script_refused}
use Rattle.plcr_script.proofs.SaidScripts.{script_said}
use Rattle.plcr_script.proofs.laws.scripts_are_read_line_by_line.Goals as goal

pub returns : goal.returns
returns c = record {
  said = script_said;
  refused = script_refused;
}
