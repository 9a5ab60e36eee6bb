use Rattle.std.proofs.Common.{◌≡◌}
use Rattle.plcr_imagelist.specs.Listing.{HasLists}
use Rattle.plcr_run.specs.inner.Changes.{MakesSteps}
use Rattle.plcr_run.proofs.changing.step_on.Given as goal

abbrev pub invariant-loop-turn : goal.invariant-loop-turn
invariant-loop-turn l = record {
  steps : MakesSteps l.turn l.fn.change l.change;
  list : l.change.writer.table ≡ l.list;
  lists : HasLists l.fn.change.writer → HasLists l.change.writer;
}
