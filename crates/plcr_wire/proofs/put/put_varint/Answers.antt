-- At each exit what was put is what the loop keeps, and what the last byte added to it.
use Rattle.std.proofs.Common.{arith}
use Rattle.std.proofs.lemmas.Result.{err_from_is_err_and}
use Rattle.plcr_wire.proofs.Puttings.{varint_last, varint_cut}
use Rattle.plcr_wire.proofs.put.put_varint.Goals as goal

pub returns-in_err-byte-clause-err : goal.returns-in_err-byte-clause-err
returns-in_err-byte-clause-err g c =
    let p = err_from_is_err_and c.from_residual.result c.from_residual.ensures.1 in
    rw (p.1) (varint_cut _ _ _ _ _ c.loop-rest.invariant c.in_err-byte.ensures.err)

pub returns-in_err-byte-2-clause-err : goal.returns-in_err-byte-2-clause-err
returns-in_err-byte-2-clause-err g c =
    let p = err_from_is_err_and c.from_residual-in_err-byte-2.result c.from_residual-in_err-byte-2.ensures.1 in
    rw (p.1) (varint_cut _ _ _ _ _ c.loop-rest.invariant c.in_err-byte-2.ensures.err)

pub returns-clause-ok : goal.returns-clause-ok
returns-clause-ok g c = varint_last _ _ _ _ _ c.loop-rest.invariant c.in_ok-byte-2.ensures.ok (omega arith)
