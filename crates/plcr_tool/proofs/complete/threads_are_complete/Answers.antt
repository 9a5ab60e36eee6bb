use Rattle.plcr_tool.proofs.Running.{threads_complete, threads_cores, threads_scripts, threads_long}
use Rattle.plcr_tool.proofs.complete.threads_are_complete.Goals as goal

pub returns-clause-complete : goal.returns-clause-complete
returns-clause-complete c = threads_complete

pub returns-clause-no_core : goal.returns-clause-no_core
returns-clause-no_core c = threads_cores

pub returns-clause-no_script : goal.returns-clause-no_script
returns-clause-no_script c = threads_scripts

pub returns-clause-too_long : goal.returns-clause-too_long
returns-clause-too_long c = threads_long
