use Rattle.std.specs.Prelude.{◌≡◌, length}
use Rattle.plcr_macho.proofs.FirstOver.{FirstFrom}
use Rattle.plcr_macho.proofs.search.containing.Given as goal

abbrev pub invariant-loop-index : goal.invariant-loop-index
invariant-loop-index g l =
    FirstFrom l.memory l.arch l.address (g.I.Images.images l.initial.images) l.index × (g.I.Images.images l.images ≡ g.I.Images.images l.initial.images)
    × (g.I.Images.extents l.images ≡ g.I.Images.extents l.initial.images) × g.I.Images.follows l.initial.images l.images × (l.index-end ≡ length (g.I.Images.images l.initial.images))
