use Rattle.std.proofs.Common.{◌<◌, ◌+◌, ◌∙◌, ℕ, sym, subst, ap, arith}
use Rattle.plcr_dwarf_cfi.specs.declared.front.Run.{Run}
use Rattle.plcr_dwarf_cfi.specs.Sections.{Section}
use Rattle.plcr_dwarf_cfi.specs.inner.Fronts.{IsRun, found_from}
use Rattle.plcr_dwarf_cfi.specs.inner.Settings.{section}
use Rattle.plcr_dwarf_cfi.proofs.Running.{run_empty, walk_fails, walk_starts}
use Rattle.plcr_dwarf_cfi.proofs.front.description_with.Goals as goal

pub loop-left-init : goal.loop-left-init
loop-left-init g c =
    let s : Section = section (g.C.Cells.cells c.args.cells.now) c.args.around.now in
    record {
      same = ap (λ (k : ℕ). found_from s c.args.address (k + 1) 0) c.from-left.ensures ∙ walk_starts s c.args.address;
      last = tt;
      growing = (subst (λ (r : Run). IsRun s r) (sym c.at.ensures) (run_empty s 0), ap (λ (r : Run). r.to) c.at.ensures);
      known = c.requires;
    }

pub returns-in-Err-clause-found : goal.returns-in-Err-clause-found
returns-in-Err-clause-found g c =
    let s : Section = section (g.C.Cells.cells c.args.cells.now) c.args.around.now in
    let more : 0 < c.loop-left.left = omega (arith, c.loop-left-test.true) in
    sym (walk_fails s c.args.address c.loop-left.left c.loop-left.place c.in-Err.fault more (sym c.in-Err.ensures.entry)) ∙ c.loop-left.invariant.same
