use Rattle.plcr_frameptr.proofs.Called.{caller_found, caller_only}
use Rattle.plcr_frameptr.proofs.laws.callers_rise.Goals as goal

pub returns-clause-found : goal.returns-clause-found
returns-clause-found c = caller_found

pub returns-clause-only : goal.returns-clause-only
returns-clause-only c = caller_only
