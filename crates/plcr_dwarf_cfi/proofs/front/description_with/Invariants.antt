use Rattle.plcr_dwarf_cfi.specs.inner.Fronts.{Walking}
use Rattle.plcr_dwarf_cfi.specs.inner.Settings.{section}
use Rattle.plcr_dwarf_cfi.proofs.front.description_with.Given as goal

abbrev pub invariant-loop-left : goal.invariant-loop-left
invariant-loop-left g l =
    Walking (section (g.C.Cells.cells l.cells) l.around) l.address l.left l.place l.recent l.run l.runs

abbrev pub decreases-loop-left : goal.decreases-loop-left
decreases-loop-left g l = l.left
