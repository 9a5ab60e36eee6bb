use Rattle.std.proofs.Common.{◌≡◌}
use Rattle.plcr_dwarf_cfi.specs.Caller.{replaced}
use Rattle.plcr_dwarf_cfi.proofs.Callers.{replaced_from}
use Rattle.plcr_dwarf_cfi.proofs.caller.replace_all.Given as goal

abbrev pub invariant-loop-number : goal.invariant-loop-number
invariant-loop-number l =
    replaced_from l.memory l.state l.cfa l.row.rules l.number l.values
    ≡ replaced l.fn.memory l.fn.state l.fn.cfa 0 l.fn.row.rules l.fn.values
