use Rattle.std.proofs.Common.{◌==◌, sym}
use Rattle.plcr_script.proofs.Cutting.{split_here, split_nowhere}
use Rattle.plcr_script.proofs.splitting.cut.Goals as goal

pub returns-in-None-clause-parts : goal.returns-in-None-clause-parts
returns-in-None-clause-parts c = split_nowhere (λ b. b == c.args.separator) c.args.bytes.now (sym c.in-None.ensures)

pub returns-in-Some-clause-parts : goal.returns-in-Some-clause-parts
returns-in-Some-clause-parts c = rw (c.split_at.ensures.front, c.split_at-in-Some.ensures.back) (split_here (λ b. b == c.args.separator) c.args.bytes.now c.in-Some.i (sym c.in-Some.ensures))
