use Rattle.std.proofs.Common.{◌≡◌}
use Rattle.plcr_dwarf_expr.specs.Effects.{moment}
use Rattle.plcr_dwarf_expr.specs.Runs.{run_from, value_of}
use Rattle.plcr_dwarf_expr.specs.inner.Settings.{setting}
use Rattle.plcr_dwarf_expr.proofs.Running.{left}
use Rattle.plcr_dwarf_expr.proofs.evaluate.run.Given as goal

abbrev pub invariant-loop-done : goal.invariant-loop-done
invariant-loop-done g l =
    run_from (setting (g.C.Cells.cells l.code) l.around) (left l._done) (moment l.place l.stack)
    ≡ value_of (setting (g.C.Cells.cells l.fn.code) l.fn.around) l.fn.start
