use Rattle.std.proofs.Common.{◌≡◌, sym, subst, ap}
use Rattle.plcr_dwarf_cfi.specs.declared.front.Run.{Run}
use Rattle.plcr_dwarf_cfi.specs.Sections.{Section}
use Rattle.plcr_dwarf_cfi.specs.inner.Fronts.{IsRun, with_code}
use Rattle.plcr_dwarf_cfi.specs.inner.Settings.{section}
use Rattle.plcr_dwarf_cfi.proofs.Running.{run_grows_over}
use Rattle.plcr_dwarf_cfi.proofs.front.grown_over.Goals as goal

pub returns : goal.returns
returns g c =
    let s : Section = section (g.C.Cells.cells c.args._cells.now) c.args._around.now in
    let h : IsRun s c.in_ok-run.run' × (c.in_ok-run.run'.to ≡ c.args._place) = rw c.in_ok-run.was at c.requires.growing in
    let longer : IsRun s (with_code c.in_ok-run.run' c.args.passed.now.start c.args.passed.now.range c.args.passed.now.next) = run_grows_over s c.in_ok-run.run' c.args._place c.args._address c.args.passed.now h.0 h.1 c.requires.passed in
    (subst (λ (r : Run). IsRun s r) (sym c.with_code.ensures) longer, ap (λ (r : Run). r.to) c.with_code.ensures)
