-- Counts of 64 bits, and when a count of failures rises.
use Rattle.std.specs.Prelude.{ℕ, ◌+◌, ◌-◌, ◌^◌, min, Result, Ok, Err}

-- a count, one higher; at its greatest value it stays
abbrev pub next : ℕ → ℕ
next count = min (count + 1) (2 ^ 64 - 1)

-- a count of failures after a call with this answer: one higher where the call failed, and else as
-- it was
abbrev pub count_after : {A E : Type 0} → ℕ → Result A E → ℕ
count_after count (Ok value) = count
count_after count (Err error) = next count
