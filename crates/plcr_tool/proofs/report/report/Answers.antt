use Rattle.plcr_command.proofs.Takings.{still_refused}
use Rattle.plcr_tool.proofs.Ended.{reports_run, run_left}
use Rattle.plcr_tool.proofs.Headlined.{run_truly}
use Rattle.plcr_tool.proofs.report.report.Goals as goal

pub returns-in-Ok-clause-did : goal.returns-in-Ok-clause-did
returns-in-Ok-clause-did g c =
    reports_run _ _ c.in-Ok.job _ c.run_job.result _ _ _ _ _ _ _ c.in-Ok.ensures.read c.read_job.ensures.nothing c.run_job.ensures.goes_on.desk.taken c.run_job.ensures.ends

pub returns-in-Ok-clause-leaves : goal.returns-in-Ok-clause-leaves
returns-in-Ok-clause-leaves g c =
    run_left _ _ c.in-Ok.job _ c.run_job.result _ _ _ _ _ _ _ c.in-Ok.ensures.read c.run_job.ensures.goes_on.desk.taken c.run_job.ensures.ends

pub returns-in-Err-clause-did : goal.returns-in-Err-clause-did
returns-in-Err-clause-did g c = record {
  cause = still_refused _ _ c.in-Err.refusal c.refuse.result _ _ c.in-Err.ensures.read c.refuse.ensures.refusal;
  nothing = c.read_job.ensures.nothing;
  printed = c.refuse.ensures.printed;
  silent = c.refuse.ensures.silent;
}

pub returns-in-Ok-clause-truly : goal.returns-in-Ok-clause-truly
returns-in-Ok-clause-truly g c =
    run_truly _ _ c.in-Ok.job _ c.run_job.result _ _ _ _ _ _ _ c.in-Ok.ensures.read c.in-Ok.ensures.lawful c.read_job.ensures.nothing c.run_job.ensures.goes_on.desk.taken c.run_job.ensures.ends
