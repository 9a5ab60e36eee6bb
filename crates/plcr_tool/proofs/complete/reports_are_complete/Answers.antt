use Rattle.plcr_tool.proofs.Completed.{reports_complete, core_refusals, script_refusals, long_jobs}
use Rattle.plcr_tool.proofs.complete.reports_are_complete.Goals as goal

pub returns-clause-complete : goal.returns-clause-complete
returns-clause-complete c = reports_complete

pub returns-clause-no_core : goal.returns-clause-no_core
returns-clause-no_core c = core_refusals

pub returns-clause-no_script : goal.returns-clause-no_script
returns-clause-no_script c = script_refusals

pub returns-clause-too_long : goal.returns-clause-too_long
returns-clause-too_long c = long_jobs
