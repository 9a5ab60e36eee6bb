use Rattle.plcr_make.proofs.ReadScripts.{made_script_read}
use Rattle.plcr_make.proofs.laws.made_scripts_are_read.Goals as goal

pub returns : goal.returns
returns c = made_script_read
