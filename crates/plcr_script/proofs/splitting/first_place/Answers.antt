use Rattle.std.proofs.Common.{◌==◌}
use Rattle.plcr_script.proofs.Cutting.{first_place_is}
use Rattle.plcr_script.proofs.splitting.first_place.Goals as goal

pub returns : goal.returns
returns c = first_place_is (λ b. b == c.args.separator) c.args.bytes.now c.memchr.result c.memchr.ensures
