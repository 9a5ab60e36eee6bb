-- Calls that are numbered from 1, some of which are to fail.
use Rattle.std.specs.Prelude.{◌⊎◌, ◌<◌, ℕ, List, length, Contains}
use Rattle.plcr_io.specs.declared.limits.TheConstants.{FILE_NAME_BYTES}
use Rattle.plcr_io.specs.Counting.{next}

-- after this many calls, the number of the next is one of those that fail
abbrev pub FailsNext : List ℕ → ℕ → Type 0
FailsNext failing calls = Contains failing (next calls)

-- the next call fails, whatever it is: its number is one of those that fail, or its name is above
-- the limit
abbrev pub CallFails : List ℕ → ℕ → List ℕ → Type 0
CallFails failing calls name = FailsNext failing calls ⊎ (FILE_NAME_BYTES < length name)
