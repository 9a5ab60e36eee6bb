use Rattle.std.proofs.Common.{◌≤◌, arith}
use Rattle.plcr_compact.proofs.Emptied.{piece_zeros}
use Rattle.plcr_compact.proofs.zeros.PieceSectionCells.zeros.Goals as goal

pub returns-then-is_mapped : goal.returns-then-is_mapped
returns-then-is_mapped c k n some le =
    let p = c.args.self.now in
    let few : c.min-zeros.result ≤ c.zeros_from.result = omega (arith, c.min-zeros.ensures) in
    piece_zeros p.memory.now p.at p.size c.args.place c.min-zeros.result (omega arith) (omega (arith, c.min-zeros.ensures)) c.if-is_mapped.ensures.within
    (λ j lt. c.zeros_from.ensures.zeros j (omega (arith, few, lt))) k n le
