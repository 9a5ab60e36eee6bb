use Rattle.std.proofs.Common.{◌≡◌, ◌∙◌, ℕ, ◌-◌, Ok, Err, Some, true, sym, ap, arith}
use Rattle.plcr_dwarf_cfi.specs.Instructions.{instruction_before}
use Rattle.plcr_dwarf_cfi.specs.Rows.{applied, is_past}
use Rattle.plcr_dwarf_cfi.specs.Sections.{Section, within}
use Rattle.plcr_dwarf_cfi.specs.inner.Settings.{section}
use Rattle.plcr_dwarf_cfi.proofs.Tables.{run_cut, run_fails, run_from, run_out, run_start, run_stops}
use Rattle.plcr_dwarf_cfi.proofs.unwind.instruct.Goals as goal

pub loop-done-init : goal.loop-done-init
loop-done-init g c =
    run_start (section (g.C.Cells.cells c.args.cells.now) c.args.around.now) c.args.common.now c.args.count c.args.address c.args.extent c.args.table.now

pub returns-then-is_past : goal.returns-then-is_past
returns-then-is_past g c =
    let s : Section = section (g.C.Cells.cells c.args.cells.now) c.args.around.now in
    let step : instruction_before (within s c.args.extent) c.args.common.now.pointers c.args.extent.end c.loop-done.place ≡ Ok (Some (c.in-Ok-Some.instruction, c.in-Ok-Some.next)) = cc in
    let goes : applied c.args.common.now c.args.count c.in-Ok-Some.instruction c.loop-done.table ≡ Ok c.apply.new.self = sym c.in-Ok.ensures in
    let past : is_past c.args.address c.apply.new.self ≡ true = cc in
    sym (run_stops s c.args.common.now c.args.count c.args.address c.args.extent s.size c.loop-done._done c.loop-done.place c.in-Ok-Some.next c.loop-done.table c.apply.new.self c.in-Ok-Some.instruction c.loop-done-test.true step goes past)
    ∙ c.loop-done.invariant

pub returns-in-Err-apply : goal.returns-in-Err-apply
returns-in-Err-apply g c =
    let s : Section = section (g.C.Cells.cells c.args.cells.now) c.args.around.now in
    let step : instruction_before (within s c.args.extent) c.args.common.now.pointers c.args.extent.end c.loop-done.place ≡ Ok (Some (c.in-Ok-Some.instruction, c.in-Ok-Some.next)) = cc in
    let fails : applied c.args.common.now c.args.count c.in-Ok-Some.instruction c.loop-done.table ≡ Err c.in-Err-apply.fault = sym c.in-Err-apply.ensures in
    sym (run_fails s c.args.common.now c.args.count c.args.address c.args.extent s.size c.loop-done._done c.loop-done.place c.in-Ok-Some.next c.loop-done.table c.in-Ok-Some.instruction c.in-Err-apply.fault c.loop-done-test.true step fails)
    ∙ c.loop-done.invariant

pub returns-in-Err : goal.returns-in-Err
returns-in-Err g c =
    let s : Section = section (g.C.Cells.cells c.args.cells.now) c.args.around.now in
    let step : instruction_before (within s c.args.extent) c.args.common.now.pointers c.args.extent.end c.loop-done.place ≡ Err c.in-Err.fault = cc in
    sym (run_cut s c.args.common.now c.args.count c.args.address c.args.extent s.size c.loop-done._done c.loop-done.place c.loop-done.table c.in-Err.fault c.loop-done-test.true step)
    ∙ c.loop-done.invariant

pub returns : goal.returns
returns g c =
    let s : Section = section (g.C.Cells.cells c.args.cells.now) c.args.around.now in
    let all : c.loop-done._done ≡ s.size = omega arith in
    sym (ap (λ (done : ℕ). run_from s c.args.common.now c.args.count c.args.address c.args.extent (s.size - done) c.loop-done.place c.loop-done.table) all
    ∙ run_out s c.args.common.now c.args.count c.args.address c.args.extent s.size c.loop-done.place c.loop-done.table)
    ∙ c.loop-done.invariant
