use Rattle.std.proofs.Common.{take}
use Rattle.plcr_wire.specs.Pen.{Wrote}
use Rattle.plcr_decode.specs.Text.{all_from}
use Rattle.plcr_decode.proofs.written.put_each.Given as goal

-- those before i are written
abbrev pub invariant-loop-i : goal.invariant-loop-i
invariant-loop-i g l = Wrote (g.W.Put.pen l.initial.ink) (g.W.Put.pen l.ink) (all_from g.T.Written.text 0 (take l.i l.items))
