use Rattle.std.proofs.Common.{◌≡◌, ◌-◌}
use Rattle.plcr_base.specs.Chains.{result_map}
use Rattle.plcr_dwarf_cfi.specs.Entries.{augmentation_text, letter_at}
use Rattle.plcr_dwarf_cfi.specs.Lists.{listed}
use Rattle.plcr_dwarf_cfi.specs.inner.Settings.{section}
use Rattle.plcr_dwarf_cfi.specs.inner.Texts.{summarized, summary}
use Rattle.plcr_dwarf_cfi.proofs.augmented.text_at.Given as goal

abbrev pub invariant-loop-done : goal.invariant-loop-done
invariant-loop-done g l =
    summarized l.form l.place (listed (letter_at (g.C.Cells.cells l.cells)) (l.around.size - l._done) l.place)
    ≡ result_map summary (augmentation_text (section (g.C.Cells.cells l.fn.cells) l.fn.around) l.fn.start)
