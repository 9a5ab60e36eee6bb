-- What the passes of a race do, each on a thread of its own.
use Rattle.std.specs.Prelude.{ℕ, ◌<◌, List, length, slice_index_or}
use Rattle.plcr_imagelist.specs.Holds.{WalkerState}
use Rattle.plcr_race.specs.Counting.{AreWalks}

-- each of the passes made so many walks, and came out so, with so many images met in all
abbrev pub WalkEach : ℕ → List WalkerState → List (WalkerState × ℕ) → Type 0
WalkEach walks passes ends = (i : ℕ) (pass : WalkerState) (end : WalkerState × ℕ) →
    i < length passes
    → AreWalks (slice_index_or passes i pass) walks (slice_index_or ends i end).1
    (slice_index_or ends i end).0
