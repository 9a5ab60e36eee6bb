use Rattle.plcr_run.proofs.Taken.{line_done, line_unprinted}
use Rattle.plcr_run.proofs.stepping.tell.Goals as goal

pub returns-in-Ok-clause-ends : goal.returns-in-Ok-clause-ends
returns-in-Ok-clause-ends g c = λ desk. line_done _ desk _ _ _ _ c.in-Ok.ensures.ok

pub returns-in-Err-clause-ends : goal.returns-in-Err-clause-ends
returns-in-Err-clause-ends g c = λ desk. line_unprinted _ desk _ _ _ _ c.in-Err.ensures.err c.in-Err.ensures.cause
