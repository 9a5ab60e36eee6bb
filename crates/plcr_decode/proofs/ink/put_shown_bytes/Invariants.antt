use Rattle.std.proofs.Common.{length}
use Rattle.plcr_decode.specs.inner.Escapes.{EscapesUpTo}
use Rattle.plcr_decode.proofs.ink.put_shown_bytes.Given as goal

-- a front is written, and the rest is left
abbrev pub invariant-loop-rest : goal.invariant-loop-rest
invariant-loop-rest g l = EscapesUpTo (g.W.Put.pen l.initial.ink) (g.W.Put.pen l.ink) l.text l.rest

abbrev pub decreases-loop-rest : goal.decreases-loop-rest
decreases-loop-rest g l = length l.rest
