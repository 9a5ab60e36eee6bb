use Rattle.std.proofs.Common.{◌≡◌, ◌-◌, ◌∙◌, Ok, false, ap, refl, sym}
use Rattle.std.specs.Prelude.{◌&&◌, nat_le, nat_lt}
use Rattle.plcr_leb128.specs.Cells.{Source}
use Rattle.plcr_dwarf_cfi.specs.Entries.{description_in}
use Rattle.plcr_dwarf_cfi.specs.Sections.{Section, front_of, within}
use Rattle.plcr_dwarf_cfi.specs.inner.Fronts.{described}
use Rattle.plcr_dwarf_cfi.specs.inner.Settings.{section}
use Rattle.plcr_dwarf_cfi.proofs.Running.{passed_is}
use Rattle.plcr_dwarf_cfi.proofs.passing.passed_at.Goals as goal

pub returns : goal.returns
returns g c =
    let s : Section = section (g.C.Cells.cells c.args.cells.now) c.args.around.now in
    let front : front_of c.new.result.end (g.C.Cells.cells c.new.result.cells.now) ≡ front_of c.in_ok-extent.extent.end (g.C.Cells.cells c.args.cells.now) = rw (c.new.ensures.cells, c.new.ensures.end) refl in
    let there : Ok (described c.in_ok-extent.extent c.in_ok-common.common.now c.in-Ok.code) ≡ description_in (within s c.in_ok-extent.extent) c.in_ok-extent.extent c.in_ok-common.common.now =
    c.in-Ok.ensures ∙ ap (λ (cells : Source). description_in (section cells c.args.around.now) c.in_ok-extent.extent c.in_ok-common.common.now) front in
    let apart : (nat_le c.in-Ok.code.start c.args.address && nat_lt (c.args.address - c.in-Ok.code.start) c.in-Ok.code.range) ≡ false = sym c.has.ensures ∙ c.if-has.false in
    passed_is s c.args.place c.args.address c.in_ok-extent.extent c.in_ok-extent.id c.in_ok-common.common.now c.in-Ok.code c.in_ok-extent.ensures.named c.in_ok-common.ensures there apart
