use Rattle.std.specs.Prelude.{◌≤◌, take}
use Rattle.plcr_macho.specs.Images.{all_listed}
use Rattle.plcr_macho.specs.Spots.{extents_of}
use Rattle.plcr_macho.proofs.Indexing.{IsFront}
use Rattle.plcr_macho.proofs.list.index_plain.Given as goal

abbrev pub invariant-loop-position : goal.invariant-loop-position
invariant-loop-position l = IsFront l.fn.memory l.fn.arch (all_listed l.fn.images) l.position (extents_of (take l.filled l.room)) × (l.filled ≤ l.position)
