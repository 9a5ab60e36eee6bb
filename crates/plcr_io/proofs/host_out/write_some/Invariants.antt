use Rattle.plcr_io.specs.inner.Tries.{Interrupts}
use Rattle.plcr_io.proofs.host_out.write_some.Given as goal

abbrev pub invariant-loop : goal.invariant-loop
invariant-loop g l = Interrupts g.W.Write.contents l.piece l.counter l.initial.writer l.writer
