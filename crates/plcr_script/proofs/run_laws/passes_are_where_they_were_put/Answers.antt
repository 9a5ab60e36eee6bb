use Rattle.plcr_script.proofs.PlacedRuns.{run_placed}
use Rattle.plcr_script.proofs.run_laws.passes_are_where_they_were_put.Goals as goal

pub returns : goal.returns
returns c = run_placed
