use Rattle.std.proofs.Common.{◌≡◌, ◌-◌, ℕ}
use Rattle.plcr_imagelist.specs.States.{steps_of}
use Rattle.plcr_run.specs.inner.Changes.{MakesSteps}
use Rattle.plcr_run.proofs.changing.finish.Given as goal

abbrev pub invariant-loop-next : goal.invariant-loop-next
invariant-loop-next l = record {
  steps : (count : ℕ) × MakesSteps count l.fn.change l.change;
  list : l.change.writer.table ≡ l.list;
  doing : l.change.doing ≡ l.fn.change.doing;
}

abbrev pub decreases-loop-next : goal.decreases-loop-next
decreases-loop-next l = steps_of l.fn.change.doing - l.change.made
