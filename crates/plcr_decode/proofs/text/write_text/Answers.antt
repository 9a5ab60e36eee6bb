-- What the buffer was given is what the sink has in the end, or a front of it.
use Rattle.std.proofs.Common.{rules}
use Rattle.plcr_wire.proofs.Ends.{given_ended, given_cut}
use Rattle.plcr_decode.proofs.text.write_text.Goals as goal

pub returns-in_err-finish-clause-err : goal.returns-in_err-finish-clause-err
returns-in_err-finish-clause-err g c =
    let cut = given_cut _ _ _ _ _ _ _ _ c.new-buffered.ensures.pen c.put_report.ensures c.in_err-finish.ensures.err in
    search rules

pub returns-clause-written : goal.returns-clause-written
returns-clause-written g c =
    let ended = given_ended _ _ _ _ _ _ _ _ c.new-buffered.ensures.pen c.put_report.ensures c.in_ok-finish.ensures.ok in
    search rules
