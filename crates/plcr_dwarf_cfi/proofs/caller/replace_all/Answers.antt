use Rattle.std.proofs.Common.{◌≡◌, ◌<◌, ◌∙◌, length, slice_index_or, None, Err, sym, arith}
use Rattle.plcr_dwarf_cfi.specs.Caller.{replaced_by}
use Rattle.plcr_dwarf_cfi.proofs.Callers.{replaced_fails}
use Rattle.plcr_dwarf_cfi.proofs.caller.replace_all.Goals as goal

pub returns-in-Err : goal.returns-in-Err
returns-in-Err c =
    let more : c.loop-number.number < length c.args.row.now.rules = grind arith in
    let fails : replaced_by c.args.memory.now c.args.state.now c.args.cfa c.loop-number.number (slice_index_or c.args.row.now.rules c.loop-number.number None) c.loop-number.values ≡ Err c.in-Err.fault = sym c.in-Err.ensures in
    sym (replaced_fails c.args.memory.now c.args.state.now c.args.cfa c.args.row.now.rules c.loop-number.number c.loop-number.values c.in-Err.fault more fails)
    ∙ c.loop-number.invariant
