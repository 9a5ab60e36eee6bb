use Rattle.std.proofs.Common.{◌∙◌, add-one}
use Rattle.plcr_run.proofs.changing.step_on.Goals as goal

pub loop-turn-preserved : goal.loop-turn-preserved
loop-turn-preserved c = record {
  steps = rw add-one (c.loop-turn.change, c.loop-turn.invariant.steps, c.in-More.ensures.step);
  list = c.in-More.ensures.list ∙ c.loop-turn.invariant.list;
  lists = λ k. c.in-More.ensures.lists;
}
