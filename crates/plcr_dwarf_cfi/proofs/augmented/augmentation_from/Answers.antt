use Rattle.std.proofs.Common.{◌≡◌, ◌∙◌, Ok, Some, sym}
use Rattle.plcr_dwarf_cfi.specs.Entries.{letter_at}
use Rattle.plcr_dwarf_cfi.specs.Sections.{Section}
use Rattle.plcr_dwarf_cfi.specs.inner.Settings.{section}
use Rattle.plcr_dwarf_cfi.proofs.Texts.{letters_fail, letters_go}
use Rattle.plcr_dwarf_cfi.proofs.augmented.augmentation_from.Goals as goal

pub returns-in-Err-read_letter : goal.returns-in-Err-read_letter
returns-in-Err-read_letter g c =
    let s : Section = section (g.C.Cells.cells c.args.cells.now) c.args.around.now in
    let step : letter_at s.cells c.loop-done.place ≡ Ok (Some (c.in-Ok-Some.letter, c.in-Ok-Some.next)) = cc in
    sym (letters_fail s c.args.around.now.size c.loop-done._done c.loop-done.place c.in-Ok-Some.letter c.in-Ok-Some.next c.loop-done.a c.in-Err-read_letter.fault c.loop-done-test.true step (sym c.in-Err-read_letter.ensures))
    ∙ c.loop-done.invariant

pub loop-done-preserved : goal.loop-done-preserved
loop-done-preserved g c =
    let s : Section = section (g.C.Cells.cells c.args.cells.now) c.args.around.now in
    let step : letter_at s.cells c.loop-done.place ≡ Ok (Some (c.in-Ok-Some.letter, c.in-Ok-Some.next)) = cc in
    sym (letters_go s c.args.around.now.size c.loop-done._done c.loop-done.place c.in-Ok-Some.letter c.in-Ok-Some.next c.loop-done.a c.in-Ok.read c.loop-done-test.true step (sym c.in-Ok.ensures))
    ∙ c.loop-done.invariant
