use Rattle.std.proofs.Common.{refl}
use Rattle.plcr_script.specs.declared.outcomes.Outcome.TheVariants.{Left}
use Rattle.plcr_script.specs.RunTurns.{turn_of}
use Rattle.plcr_run.proofs.stepping.move_pass.Goals as goal

pub returns-in-Enter-clause-turns : goal.returns-in-Enter-clause-turns
unfolding turn_of
returns-in-Enter-clause-turns c = λ fault report. rw c.in-Enter.is (record { goes = c.enter.ensures.goes; outcome = λ all state is. refl })

pub returns-in-Walk-clause-turns : goal.returns-in-Walk-clause-turns
unfolding turn_of
returns-in-Walk-clause-turns c = λ fault report. rw c.in-Walk.is c.walk_on.ensures.turns

pub returns-in-Leave-clause-turns : goal.returns-in-Leave-clause-turns
unfolding turn_of
returns-in-Leave-clause-turns c = λ fault report. rw c.in-Leave.is (record {
  goes = c.leave-met.ensures.goes;
  outcome = λ all state is. let t = c.leave-met.ensures.told all state is in λ i. Left c.in-Leave.pass (t.0 i) (t.1 i) (t.2 i);
})
