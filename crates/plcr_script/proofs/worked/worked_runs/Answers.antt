use Rattle.plcr_script.proofs.WorkedRuns.{worked_scripts, worked_runs}
use Rattle.plcr_script.proofs.worked.worked_runs.Goals as goal

pub returns : goal.returns
returns c = record {
  scripts = worked_scripts;
  runs = worked_runs;
}
