-- What a command sees of its desk and of the sink of its lines.
use Rattle.std.specs.Prelude.{ℕ, List, Option}
use Rattle.plcr_io.specs.Desk.{Told}

-- what the desk tells, what the sink of the lines has written, where it tells that, and its count
-- of faults
pub record Seen : Type 0 where
  pub desk : Told
  pub lines : Option (List ℕ)
  pub line_faults : ℕ

abbrev pub seen : Told → Option (List ℕ) → ℕ → Seen
seen desk lines line_faults = record { desk = desk; lines = lines; line_faults = line_faults }
