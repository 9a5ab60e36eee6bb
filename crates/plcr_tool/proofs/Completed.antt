-- What `report` answers where its files are told.
use Rattle.std.proofs.Common.{inl, inr, sym, subst, ◌∙◌}
use Rattle.plcr_command.specs.Jobs.{IsJob, JobMisread}
use Rattle.plcr_command.proofs.Exact.{core_exact, job_wants, one_job, scripts_exact}
use Rattle.plcr_command.proofs.Offered.{Found, completed, found, long_refused}
use Rattle.plcr_tool.specs.declared.report.TheConstants.{ALONE}
use Rattle.plcr_run.specs.Runs.{IsDone, IsStopped}
use Rattle.plcr_tool.specs.Report.{Ran, report_files}
use Rattle.plcr_tool.specs.Complete.{ReportsAreComplete, CoreRefusalsAreExact, ScriptRefusalsAreExact, LongJobsAreRefused}

pub reports_complete : ReportsAreComplete
reports_complete core script contents job old new status can read outs lines does =
    elim (completed (IsJob ALONE) (JobMisread ALONE) (report_files core script) (Ran IsDone) (Ran IsStopped) contents job old new does.ending can
    (λ other is. one_job ALONE contents other job is read)
    (λ refusal is. job_wants ALONE contents job refusal read is)
    (λ other ran. elim ran.ends.how [ inl keep ↦ outs keep.stop.cause | inr log ↦ lines log.cause ])
    does.did) [
      | inl all ↦ inl (does.number ∙ all.0, all.1, all.2)
      | inr want ↦ inr (does.number ∙ want)
    ]

pub core_refusals : CoreRefusalsAreExact
core_refusals core script contents old new status can does =
    core_exact ALONE contents status (subst (Found (IsJob ALONE) (JobMisread ALONE) contents) (sym does.number) (found (IsJob ALONE) (JobMisread ALONE) (report_files core script) (Ran IsDone) (Ran IsStopped) contents old new does.ending can does.did))

pub script_refusals : ScriptRefusalsAreExact
script_refusals core script contents old new status can does =
    scripts_exact ALONE contents status (subst (Found (IsJob ALONE) (JobMisread ALONE) contents) (sym does.number) (found (IsJob ALONE) (JobMisread ALONE) (report_files core script) (Ran IsDone) (Ran IsStopped) contents old new does.ending can does.did))

pub long_jobs : LongJobsAreRefused
long_jobs core script file old new status first does =
    elim (long_refused (IsJob ALONE) (JobMisread ALONE) (report_files core script) (Ran IsDone) (Ran IsStopped) file old new does.ending first does.did) [
      | inl long ↦ inl (does.number ∙ long.0, long.1)
      | inr want ↦ inr (does.number ∙ want)
    ]
