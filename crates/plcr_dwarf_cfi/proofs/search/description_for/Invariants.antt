use Rattle.std.proofs.Common.{◌-◌, ◌+◌}
use Rattle.plcr_dwarf_cfi.specs.inner.Settings.{section}
use Rattle.plcr_dwarf_cfi.proofs.Searches.{Going}
use Rattle.plcr_dwarf_cfi.proofs.search.description_for.Given as goal

abbrev pub invariant-loop-done : goal.invariant-loop-done
invariant-loop-done g l =
    Going (section (g.C.Cells.cells l.cells) l.around) l.address (l.around.size + 1 - l._done) l.place l.recent
