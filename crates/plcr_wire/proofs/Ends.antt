-- What a sink has of what its buffer was given from the beginning.
use Rattle.std.proofs.Common.{◌≡◌, ℕ, List, [], Option, false}
use Rattle.std.specs.Borrow.{GName}
use Rattle.std.specs.Io.KnownBytes.{append_known}
use Rattle.plcr_base.specs.Told.{AppendsProperFront}
use Rattle.plcr_base.proofs.Appended.{up_to_start}
use Rattle.plcr_wire.specs.Pen.{Pen, PenShows, Wrote, sink_pen, Ended, Lost}

-- a pen that was given nothing yet
begun : (pen : Pen) (name : GName) (base : Option (List ℕ)) (faults : ℕ) (mark : List ℕ) → pen ≡ sink_pen name base faults mark [] false → PenShows pen.failed pen.page base []
begun pen name base faults mark e = rw e (up_to_start base [])

-- the sink has all
pub given_ended : (pen end : Pen) (name : GName) (base told : Option (List ℕ)) (faults : ℕ) (mark bytes : List ℕ) → pen ≡ sink_pen name base faults mark [] false → Wrote pen end bytes → Ended end told → told ≡ append_known base bytes
given_ended pen end name base told faults mark bytes e wrote ended = ended base bytes (wrote.each base [] (begun pen name base faults mark e))

-- the sink has a front, and not all
pub given_cut : (pen end : Pen) (name : GName) (base told : Option (List ℕ)) (faults : ℕ) (mark bytes : List ℕ) → pen ≡ sink_pen name base faults mark [] false → Wrote pen end bytes → Lost end told → AppendsProperFront base told bytes
given_cut pen end name base told faults mark bytes e wrote lost = lost base bytes (wrote.each base [] (begun pen name base faults mark e))
