use Rattle.std.proofs.Common.{◌≡◌, ◌≤◌, length, drop}
use Rattle.plcr_macho.specs.Index.{least_over}
use Rattle.plcr_macho.specs.Spots.{extents_of}
use Rattle.plcr_macho.proofs.spots.least_in.Given as goal

-- the spots from here on hold what was found, and those before start by the address
abbrev pub invariant-loop-left : goal.invariant-loop-left
invariant-loop-left l = (l.found ≡ least_over (extents_of (drop l.left l.spots)) l.address) × (l.left ≤ length l.spots)

abbrev pub decreases-loop-left : goal.decreases-loop-left
decreases-loop-left l = l.left
