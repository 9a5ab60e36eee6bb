use Rattle.std.specs.Prelude.{◌≤◌, ◌-◌}
use Rattle.plcr_macho.specs.inner.Keeping.{bytes_there}
use Rattle.plcr_macho.proofs.Sectioned.{PartsSoFar}
use Rattle.plcr_macho.proofs.sections.parts_at.Given as goal

abbrev pub invariant-loop-index : goal.invariant-loop-index
invariant-loop-index l = PartsSoFar l.count l.index (bytes_there l.memory l.at l.size) l.found × (l.index ≤ l.count)

abbrev pub decreases-loop-index : goal.decreases-loop-index
decreases-loop-index l = l.count - l.index
