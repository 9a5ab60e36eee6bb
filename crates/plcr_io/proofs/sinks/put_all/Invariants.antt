use Rattle.std.proofs.Common.{◌≡◌, ◌≤◌, length}
use Rattle.plcr_base.specs.Told.{AppendsUpTo}
use Rattle.plcr_io.proofs.sinks.put_all.Given as goal

abbrev pub invariant-loop-rest : goal.invariant-loop-rest
invariant-loop-rest g l = record {
  written : AppendsUpTo (g.K.Sink.written l.initial.sink) (g.K.Sink.written l.sink) l.bytes l.rest;
  later : g.K.Sink.faults l.initial.sink ≤ g.K.Sink.faults l.sink;
  mark : g.K.Sink.mark l.sink ≡ g.K.Sink.mark l.initial.sink;
}

abbrev pub decreases-loop-rest : goal.decreases-loop-rest
decreases-loop-rest g l = length l.rest
