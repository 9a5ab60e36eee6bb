use Rattle.std.proofs.Common.{arith}
use Rattle.plcr_decode.proofs.Lines.{wrote_item}
use Rattle.plcr_decode.proofs.written.put_each.Goals as goal

pub loop-i-preserved : goal.loop-i-preserved
loop-i-preserved g c = wrote_item g.T.Written.text _ _ _ c.args.items.now c.loop-i.i c.index-items-i.result (omega arith) c.index-items-i.is c.loop-i.invariant c.put.ensures
