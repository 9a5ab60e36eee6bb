use Rattle.plcr_symbols.proofs.Zeros.{unmapped_past}
use Rattle.std.proofs.Common.{arith}
use Rattle.plcr_symbols.proofs.names.piece_behind.Goals as goal

pub returns-in_default : goal.returns-in_default
returns-in_default c =
    unmapped_past c.args.memory.now c.args.at c.args.done c.from-in_default.result c.args.size c.is_mapped-mapped.result c.is_mapped-mapped.ensures.mapped c.is_mapped-mapped.ensures.within c.from-in_default.ensures
    (λ h. c.in_default.ensures (omega (arith, h, c.from.ensures))) c.requires.mapped c.requires.least
