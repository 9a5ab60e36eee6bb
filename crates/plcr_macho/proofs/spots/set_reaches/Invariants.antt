use Rattle.std.specs.Prelude.{◌≡◌}
use Rattle.plcr_macho.specs.Spots.{extents_of}
use Rattle.plcr_macho.proofs.Reached.{ReachesUpTo}
use Rattle.plcr_macho.proofs.spots.set_reaches.Given as goal

abbrev pub invariant-loop-i : goal.invariant-loop-i
invariant-loop-i l = (extents_of l.spots ≡ extents_of l.fn.spots) × ReachesUpTo l.spots l.i l.reach
