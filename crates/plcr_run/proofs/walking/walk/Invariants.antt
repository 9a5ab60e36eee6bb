use Rattle.std.proofs.Common.{◌≡◌}
use Rattle.plcr_imagelist.specs.Holds.{IsWalking}
use Rattle.plcr_imagelist.specs.Carrying.{OnlySees}
use Rattle.plcr_run.specs.Walks.{Meeting}
use Rattle.plcr_run.proofs.walking.walk.Given as goal

abbrev pub invariant-loop-turn : goal.invariant-loop-turn
invariant-loop-turn l = record {
  meeting : Meeting l.turn l.fn.hold l.hold;
  sees : OnlySees l.fn.hold.walker l.hold.walker;
  walking : IsWalking l.hold;
  list : l.hold.walker.table ≡ l.list;
}
