use Rattle.std.proofs.Common.{◌≡◌, ◌-◌}
use Rattle.plcr_dwarf_cfi.specs.Rows.{instructed}
use Rattle.plcr_dwarf_cfi.specs.inner.Settings.{section}
use Rattle.plcr_dwarf_cfi.proofs.Tables.{run_from}
use Rattle.plcr_dwarf_cfi.proofs.unwind.instruct.Given as goal

abbrev pub invariant-loop-done : goal.invariant-loop-done
invariant-loop-done g l =
    run_from (section (g.C.Cells.cells l.cells) l.around) l.common l.count l.address l.extent (l.around.size - l._done) l.place l.table
    ≡ instructed (section (g.C.Cells.cells l.fn.cells) l.fn.around) l.fn.common l.fn.count l.fn.address l.fn.extent l.fn.table
