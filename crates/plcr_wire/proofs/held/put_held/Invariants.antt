use Rattle.std.proofs.Common.{◌≡◌, ◌≤◌, length}
use Rattle.plcr_base.specs.Told.{AppendsUpTo}
use Rattle.plcr_wire.proofs.held.put_held.Given as goal

-- a front was put, and the rest is held
abbrev pub invariant-loop-sink : goal.invariant-loop-sink
invariant-loop-sink g l = record {
  parts : AppendsUpTo (g.K.Sink.written l.initial.sink) (g.K.Sink.written l.sink) l.initial.held.items l.held.items;
  later : g.K.Sink.faults l.initial.sink ≤ g.K.Sink.faults l.sink;
  mark : g.K.Sink.mark l.sink ≡ g.K.Sink.mark l.initial.sink;
}

abbrev pub decreases-loop-sink : goal.decreases-loop-sink
decreases-loop-sink g l = length l.held.items
