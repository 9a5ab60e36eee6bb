use Rattle.std.proofs.Common.{◌≡◌, ◌∙◌, ℕ, ap, sym, arith}
use Rattle.plcr_dwarf_expr.specs.declared.limits.TheConstants.{MOST_OPERATIONS}
use Rattle.plcr_dwarf_expr.specs.Effects.{moment}
use Rattle.plcr_dwarf_expr.specs.Runs.{Setting, run_from}
use Rattle.plcr_dwarf_expr.specs.inner.Settings.{setting}
use Rattle.plcr_dwarf_expr.proofs.Running.{left, run_fails, run_out}
use Rattle.plcr_dwarf_expr.proofs.evaluate.run.Goals as goal

pub returns-in-Err : goal.returns-in-Err
returns-in-Err g c =
    let s : Setting = setting (g.C.Cells.cells c.args.code.now) c.args.around.now in
    sym (run_fails s c.loop-done._done c.loop-done.place c.loop-done.stack c.in-Err.fault c.loop-done-test.true c.if-place-around.false (sym c.in-Err.ensures))
    ∙ c.loop-done.invariant

pub returns-else-place-around-2 : goal.returns-else-place-around-2
returns-else-place-around-2 g c =
    let s : Setting = setting (g.C.Cells.cells c.args.code.now) c.args.around.now in
    let all : c.loop-done._done ≡ MOST_OPERATIONS = omega arith in
    sym (ap (λ (done : ℕ). run_from s (left done) (moment c.loop-done.place c.loop-done.stack)) all ∙ run_out s c.loop-done.place c.loop-done.stack c.if-place-around-2.false)
    ∙ c.loop-done.invariant
