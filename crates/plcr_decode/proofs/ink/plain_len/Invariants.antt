use Rattle.std.proofs.Common.{◌≡◌, take}
use Rattle.plcr_decode.specs.inner.Escapes.{escaped}
use Rattle.plcr_decode.proofs.ink.plain_len.Given as goal

-- the bytes so far stand as they are
abbrev pub invariant-loop-i : goal.invariant-loop-i
invariant-loop-i l = escaped (take l.i l.text) ≡ take l.i l.text
