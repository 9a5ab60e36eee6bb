use Rattle.plcr_script.proofs.PrefixRuns.{runs_go_on, stopped_prefix}
use Rattle.plcr_script.proofs.run_laws.stopped_runs_are_prefixes.Goals as goal

pub returns : goal.returns
returns c = record { go_on = runs_go_on; prefix = stopped_prefix }
