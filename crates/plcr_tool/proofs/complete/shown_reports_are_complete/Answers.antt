use Rattle.plcr_tool.proofs.Shown.{shown_reports_complete, report_refusals, long_reports}
use Rattle.plcr_tool.proofs.complete.shown_reports_are_complete.Goals as goal

pub returns-clause-complete : goal.returns-clause-complete
returns-clause-complete c = shown_reports_complete

pub returns-clause-no_report : goal.returns-clause-no_report
returns-clause-no_report c = report_refusals

pub returns-clause-too_long : goal.returns-clause-too_long
returns-clause-too_long c = long_reports
