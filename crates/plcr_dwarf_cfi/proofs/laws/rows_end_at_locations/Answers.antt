use Rattle.plcr_dwarf_cfi.proofs.RunsFound.{fail_found, fault_found, run_found, stop_found, until_found, whole_found}
use Rattle.plcr_dwarf_cfi.proofs.laws.rows_end_at_locations.Goals as goal

pub returns-clause-found : goal.returns-clause-found
returns-clause-found c = run_found

pub returns-clause-whole : goal.returns-clause-whole
returns-clause-whole c = whole_found

pub returns-clause-until : goal.returns-clause-until
returns-clause-until c = until_found

pub returns-clause-fault : goal.returns-clause-fault
returns-clause-fault c = fault_found

pub returns-clause-stops : goal.returns-clause-stops
returns-clause-stops c = stop_found

pub returns-clause-fails : goal.returns-clause-fails
returns-clause-fails c = fail_found
