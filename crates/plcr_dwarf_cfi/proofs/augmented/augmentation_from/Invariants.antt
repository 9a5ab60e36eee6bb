use Rattle.std.proofs.Common.{◌≡◌, ◌-◌}
use Rattle.plcr_dwarf_cfi.specs.Entries.{augmentation_from, letter_at}
use Rattle.plcr_dwarf_cfi.specs.Lists.{listed}
use Rattle.plcr_dwarf_cfi.specs.inner.Settings.{section}
use Rattle.plcr_dwarf_cfi.proofs.Texts.{letters_from}
use Rattle.plcr_dwarf_cfi.proofs.augmented.augmentation_from.Given as goal

abbrev pub invariant-loop-done : goal.invariant-loop-done
invariant-loop-done g l =
    letters_from (section (g.C.Cells.cells l.cells) l.around) (l.around.size - l._done) l.place l.a
    ≡ augmentation_from (section (g.C.Cells.cells l.fn.cells) l.fn.around) (listed (letter_at (g.C.Cells.cells l.fn.cells)) l.fn.around.size l.fn.text).items l.fn.data_at
