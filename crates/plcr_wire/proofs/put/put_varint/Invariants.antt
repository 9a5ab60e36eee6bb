use Rattle.plcr_wire.specs.Varint.{varint}
use Rattle.plcr_wire.proofs.Puttings.{PutsUpTo}
use Rattle.plcr_wire.proofs.put.put_varint.Given as goal

-- the groups so far were put, and those of the rest are left
abbrev pub invariant-loop-rest : goal.invariant-loop-rest
invariant-loop-rest g l = PutsUpTo (g.P.Put.pen l.initial.p) (g.P.Put.pen l.p) (varint l.value) (varint l.rest)

abbrev pub decreases-loop-rest : goal.decreases-loop-rest
decreases-loop-rest g l = l.rest
