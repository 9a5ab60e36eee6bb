use Rattle.std.proofs.Common.{◌∙◌, sym}
use Rattle.plcr_dwarf_cfi.proofs.Texts.{text_ends, text_fails, text_start}
use Rattle.plcr_dwarf_cfi.specs.inner.Settings.{section}
use Rattle.plcr_dwarf_cfi.proofs.augmented.text_at.Goals as goal

pub returns-in-Ok-None : goal.returns-in-Ok-None
returns-in-Ok-None g c =
    c.until.ensures
    ∙ sym (text_ends (g.C.Cells.cells c.args.cells.now) c.loop-done.form c.args.around.now.size c.loop-done._done c.loop-done.place c.loop-done-test.true (sym (rw c.in-Ok-None.field-0-is at c.in-Ok-None.ensures.letter)))
    ∙ c.loop-done.invariant

pub returns-in-Err : goal.returns-in-Err
returns-in-Err g c =
    sym (text_fails (g.C.Cells.cells c.args.cells.now) c.loop-done.form c.args.around.now.size c.loop-done._done c.loop-done.place c.in-Err.fault c.loop-done-test.true (sym c.in-Err.ensures.letter))
    ∙ c.loop-done.invariant

pub loop-done-init : goal.loop-done-init
loop-done-init g c = text_start (section (g.C.Cells.cells c.args.cells.now) c.args.around.now) c.args.start
