use Rattle.std.proofs.Common.{◌≡◌, ◌+◌, length}
use Rattle.plcr_wire.proofs.Puttings.{PutsUpTo}
use Rattle.plcr_wire.specs.Pen.{Pen, sink_pen}
use Rattle.plcr_wire.proofs.buffered.Pieces.gather.Given as goal

-- a front was put, and the rest is left; what is held and the room for more make up a piece
abbrev pub invariant-loop-room : goal.invariant-loop-room
invariant-loop-room g l =
    let old : Pen = sink_pen l.initial.self.sink.ghost_name (g.K.Sink.written l.initial.self.sink.now) (g.K.Sink.faults l.initial.self.sink.now) (g.K.Sink.mark l.initial.self.sink.now) l.initial.self.held.items l.initial.self.failed in
    let new : Pen = sink_pen l.self.sink.ghost_name (g.K.Sink.written l.self.sink.now) (g.K.Sink.faults l.self.sink.now) (g.K.Sink.mark l.self.sink.now) l.self.held.items l.self.failed in
    record {
      put : PutsUpTo old new l.bytes l.rest;
      room : l.room + length l.self.held.items ≡ g.row.ROOM;
      same_sink : l.self.sink.ghost_name ≡ l.initial.self.sink.ghost_name;
    }

abbrev pub decreases-loop-room : goal.decreases-loop-room
decreases-loop-room g l = length l.rest + length l.self.held.items
