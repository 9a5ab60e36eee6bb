use Rattle.std.proofs.Common.{◌≡◌, ℕ, ◌-◌, length}
use Rattle.plcr_imagelist.specs.Holds.{IsWalking}
use Rattle.plcr_imagelist.specs.Carrying.{OnlySees}
use Rattle.plcr_run.specs.Walks.{Meeting}
use Rattle.plcr_run.proofs.walking.walk_to_end.Given as goal

abbrev pub invariant-loop : goal.invariant-loop
invariant-loop l = record {
  meeting : (count : ℕ) × Meeting count l.fn.hold l.hold;
  sees : OnlySees l.fn.hold.walker l.hold.walker;
  walking : IsWalking l.hold;
  list : l.hold.walker.table ≡ l.list;
}

abbrev pub decreases-loop : goal.decreases-loop
decreases-loop l = l.fn.hold.walker.nodes - length l.hold.met
