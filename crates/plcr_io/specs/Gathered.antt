-- A sink that gathers bytes before another: the borrow behind it, and what the other has at the end.
use Rattle.std.specs.Prelude.{◌≡◌, ℕ, List, Option}
use Rattle.std.specs.Io.KnownBytes.{append_known}
use Rattle.std.specs.Borrow.{GName}
use Rattle.plcr_io.specs.declared.gathered.Gathered.{Gathered}

-- the borrow by its name
abbrev pub sink_of : {K : Type 0} → Gathered K → GName
sink_of gathered = gathered.sink.ghost_name

-- what is behind the borrow, by what a sink that ended leaves: of its fields, one after the other,
-- the other sink is the first
abbrev pub ended_sink : {Sink Others : Type 0} → Sink × Others → Sink
ended_sink left = left.0

-- what was written is short of what was put by some bytes, or by none
abbrev pub IsShort : Option (List ℕ) → Option (List ℕ) → Type 0
IsShort written put = (lost : List ℕ) × (append_known written lost ≡ put)
