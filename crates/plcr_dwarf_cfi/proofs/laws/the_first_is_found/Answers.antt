use Rattle.plcr_dwarf_cfi.proofs.FoundFirst.{fault_is_nowhere, first_is_found, found_is_first, nowhere_is_fault}
use Rattle.plcr_dwarf_cfi.proofs.laws.the_first_is_found.Goals as goal

pub returns-clause-found : goal.returns-clause-found
returns-clause-found c = found_is_first

pub returns-clause-only : goal.returns-clause-only
returns-clause-only c = first_is_found

pub returns-clause-fault : goal.returns-clause-fault
returns-clause-fault c = fault_is_nowhere

pub returns-clause-only_fault : goal.returns-clause-only_fault
returns-clause-only_fault c = nowhere_is_fault
