use Rattle.plcr_dwarf_expr.proofs.WholeRuns.{value_has_run, run_has_value, fault_has_run, run_has_fault}
use Rattle.plcr_dwarf_expr.proofs.laws.runs_have_values.Goals as goal

pub returns-clause-value : goal.returns-clause-value
returns-clause-value c = value_has_run

pub returns-clause-only_value : goal.returns-clause-only_value
returns-clause-only_value c = run_has_value

pub returns-clause-fault : goal.returns-clause-fault
returns-clause-fault c = fault_has_run

pub returns-clause-only_fault : goal.returns-clause-only_fault
returns-clause-only_fault c = run_has_fault
