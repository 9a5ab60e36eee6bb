use Rattle.std.proofs.Common.{arith, subst}
use Rattle.plcr_wire.specs.Pen.{Wrote}
use Rattle.plcr_decode.specs.Text.{hex}
use Rattle.plcr_decode.proofs.Lines.{wrote_next}
use Rattle.plcr_decode.proofs.ink.put_hex_bytes.Goals as goal

pub loop-i-preserved : goal.loop-i-preserved
loop-i-preserved g c = wrote_next (λ n b. hex 2 b) _ _ _ c.args.bytes.now c.loop-i.i 0 (omega arith) c.loop-i.invariant (subst (Wrote (g.W.Put.pen c.loop-i.ink) (g.W.Put.pen c.raw.new.self)) c.hex_pair.ensures c.raw.ensures)
