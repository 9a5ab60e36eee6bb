-- The borrow of the sink that stands behind a buffer.
use Rattle.std.specs.Prelude.{ℕ}
use Rattle.std.specs.Borrow.{GName}
use Rattle.plcr_io.specs.declared.sinks.Sink.{Ghosts}
use Rattle.plcr_wire.specs.declared.buffered.Pieces.{Pieces}

-- the borrow by its name
abbrev pub sink_of : {K : Type 0} {g : Ghosts K} {ROOM : ℕ} → Pieces K ROOM g → GName
sink_of b = b.sink.ghost_name

-- what is behind the borrow, by what a buffer that ended leaves: of its fields, one after the
-- other, the sink is the first
abbrev pub ended_sink : {Sink Others : Type 0} → Sink × Others → Sink
ended_sink left = left.0
