use Rattle.std.proofs.Common.{subst, sym}
use Rattle.std.proofs.lemmas.List.{get_or-replicate}
use Rattle.plcr_dwarf_cfi.specs.declared.front.Run.{Run}
use Rattle.plcr_dwarf_cfi.specs.declared.front.TheConstants.{FRONT_RUNS}
use Rattle.plcr_dwarf_cfi.specs.Sections.{Section, section_at}
use Rattle.plcr_dwarf_cfi.specs.inner.Fronts.{IsRun}
use Rattle.plcr_dwarf_cfi.proofs.Running.{run_empty}
use Rattle.plcr_dwarf_cfi.proofs.known.no_runs.Goals as goal

pub returns : goal.returns
returns c k d within =
    let s : Section = section_at c.args.memory.now c.args.part.at c.args.part.size in
    let empty : IsRun s c.at.result = subst (λ (r : Run). IsRun s r) (sym c.at.ensures) (run_empty s 0) in
    subst (λ (r : Run). IsRun s r) (sym (get_or-replicate FRONT_RUNS k c.at.result d within)) empty
