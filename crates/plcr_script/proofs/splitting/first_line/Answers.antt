use Rattle.std.proofs.Common.{◌==◌}
use Rattle.plcr_script.proofs.Cutting.{lines_cut}
use Rattle.plcr_script.proofs.splitting.first_line.Goals as goal

pub returns-in-Some-clause-lines : goal.returns-in-Some-clause-lines
returns-in-Some-clause-lines c =
    let cut = rw c.in-Some.is at c.cut.ensures.parts in
    lines_cut (λ b. b == 10) c.args.bytes.now c.cut.result.0.now c.in-Some.rest.now cut
