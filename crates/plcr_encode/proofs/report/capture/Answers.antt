use Rattle.std.proofs.Common.{rules, arith}
use Rattle.plcr_report.specs.Spelling.{spelling_of}
use Rattle.plcr_wire.proofs.Ends.{given_ended, given_cut}
use Rattle.plcr_wire.proofs.Writing.{wrote_twice}
use Rattle.plcr_encode.proofs.report.capture.Goals as goal

pub returns-in_err-finish-clause-err : goal.returns-in_err-finish-clause-err
unfolding spelling_of
returns-in_err-finish-clause-err g c =
    let root = rw c.index.ensures.same at c.put_root-length.ensures.wrote in
    let cut = given_cut _ _ _ _ _ _ _ _ c.new-buffered.ensures.pen (wrote_twice _ _ _ _ _ c.put_head-head.ensures.wrote root) c.in_err-finish.ensures.err in
    search rules

pub returns-clause-written : goal.returns-clause-written
unfolding spelling_of
returns-clause-written g c =
    let root = rw c.index.ensures.same at c.put_root-length.ensures.wrote in
    let ended = given_ended _ _ _ _ _ _ _ _ c.new-buffered.ensures.pen (wrote_twice _ _ _ _ _ c.put_head-head.ensures.wrote root) c.in_ok-finish.ensures.ok in
    search rules

pub returns-clause-length : goal.returns-clause-length
unfolding spelling_of
returns-clause-length g c = let size = rw c.index.ensures.same at c.put_root-length.ensures.size in let head = c.put_head-head.ensures.size in omega (arith, size, head)
