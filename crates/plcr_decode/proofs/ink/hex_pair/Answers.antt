use Rattle.std.proofs.Common.{arith}
use Rattle.plcr_decode.proofs.Lines.{pair_is}
use Rattle.plcr_decode.proofs.ink.hex_pair.Goals as goal

pub returns : goal.returns
returns c = pair_is c.args.byte c.hex_digit.result c.hex_digit-2.result (omega arith) c.hex_digit.ensures c.hex_digit-2.ensures
