use Rattle.std.proofs.Common.{length}
use Rattle.plcr_decode.proofs.reader.+behind.Given as goal

abbrev pub decreases-behind : goal.decreases-behind
decreases-behind l = length l.text.now
