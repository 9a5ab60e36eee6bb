use Rattle.std.proofs.Common.{◌≡◌, ◌-◌, length}
use Rattle.plcr_imagelist.specs.Holds.{IsWalking}
use Rattle.plcr_race.proofs.Walked.{IsIn}
use Rattle.plcr_race.proofs.walks.walk_once.Given as goal

abbrev pub invariant-loop-met : goal.invariant-loop-met
invariant-loop-met l = IsIn l.fn.pass l.hold × IsWalking l.hold × (l.met ≡ length l.hold.met)

abbrev pub decreases-loop-met : goal.decreases-loop-met
decreases-loop-met l = l.hold.walker.nodes - l.met
