use Rattle.std.proofs.Common.{◌≡◌, ◌<◌, ◌∙◌, ℕ, ◌+◌, ◌-◌, ap, sym, arith}
use Rattle.plcr_dwarf_cfi.specs.Sections.{Section}
use Rattle.plcr_dwarf_cfi.specs.inner.Settings.{section}
use Rattle.plcr_dwarf_cfi.proofs.Searches.{search_fails, search_out, search_start}
use Rattle.plcr_dwarf_cfi.specs.inner.Fronts.{found_from}
use Rattle.plcr_dwarf_cfi.proofs.search.description_for.Goals as goal

pub loop-done-init : goal.loop-done-init
loop-done-init g c = record { same = search_start (section (g.C.Cells.cells c.args.cells.now) c.args.around.now) c.args.address; last = tt }

pub returns-in-Err : goal.returns-in-Err
returns-in-Err g c =
    let s : Section = section (g.C.Cells.cells c.args.cells.now) c.args.around.now in
    let more : c.loop-done._done < s.size + 1 = omega arith in
    sym (search_fails s c.args.address (s.size + 1) c.loop-done._done c.loop-done.place c.in-Err.fault more (sym c.in-Err.ensures.entry))
    ∙ c.loop-done.invariant.same

pub returns : goal.returns
returns g c =
    let s : Section = section (g.C.Cells.cells c.args.cells.now) c.args.around.now in
    let all : c.loop-done._done ≡ s.size + 1 = omega arith in
    sym (ap (λ (done : ℕ). found_from s c.args.address (s.size + 1 - done) c.loop-done.place) all ∙ search_out s c.args.address (s.size + 1) c.loop-done.place)
    ∙ c.loop-done.invariant.same
