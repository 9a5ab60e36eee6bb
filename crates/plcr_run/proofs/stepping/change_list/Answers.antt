use Rattle.plcr_script.specs.RunTurns.{turn_of}
use Rattle.plcr_run.proofs.stepping.change_list.Goals as goal

pub returns-in-Load-clause-turns : goal.returns-in-Load-clause-turns
unfolding turn_of
returns-in-Load-clause-turns g c = λ report. rw c.in-Load.is (rw c.as_slice.ensures at (c.load.ensures.turns report))

pub returns-in-Unload-clause-turns : goal.returns-in-Unload-clause-turns
unfolding turn_of
returns-in-Unload-clause-turns g c = λ report. rw c.in-Unload.is c.unload.ensures.turns

pub returns-in-BeginLoad-clause-turns : goal.returns-in-BeginLoad-clause-turns
unfolding turn_of
returns-in-BeginLoad-clause-turns g c = λ report. rw c.in-BeginLoad.is (rw c.as_slice-in-BeginLoad.ensures at (c.begin_load.ensures.turns report))

pub returns-in-BeginUnload-clause-turns : goal.returns-in-BeginUnload-clause-turns
unfolding turn_of
returns-in-BeginUnload-clause-turns g c = λ report. rw c.in-BeginUnload.is c.begin_unload.ensures.turns

pub returns-in-Step-clause-turns : goal.returns-in-Step-clause-turns
unfolding turn_of
returns-in-Step-clause-turns g c = λ report. rw c.in-Step.is c.step.ensures.turns

pub returns-in-End-clause-turns : goal.returns-in-End-clause-turns
unfolding turn_of
returns-in-End-clause-turns g c = λ report. rw c.in-End.is c.end.ensures.turns
