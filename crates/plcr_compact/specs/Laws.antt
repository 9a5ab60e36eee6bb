-- What the choice among entries and the numbers of orders mean, above how they are computed.
use Rattle.std.specs.Prelude.{◌≡◌, ◌<◌, ◌≤◌, ℕ, zero, suc, ◌-◌, ◌*◌, List, length, slice_get, Option, Some}
use Rattle.plcr_compact.specs.declared.section.Entry.{Entry}
use Rattle.plcr_compact.specs.declared.encoding.SavedRegister.{SavedRegister}
use Rattle.plcr_compact.specs.Permutations.{saved_registers}

-- the entry stands in the list and isn't above the offset; each other that isn't above it has a
-- smaller offset, or the same and stands earlier
pub record IsChosen (offset : ℕ) (entries : List Entry) (entry : Entry) : Type 0 where
  pub index : ℕ
  pub stands : slice_get entries index ≡ Some entry
  pub below : entry.function ≤ offset
  pub greatest : (k : ℕ) (other : Entry) → slice_get entries k ≡ Some other →
      other.function ≤ offset → other.function ≤ entry.function
  pub last : (k : ℕ) (other : Entry) → slice_get entries k ≡ Some other → index < k →
      other.function ≤ offset → other.function < entry.function

-- so many of the six registers, no two of them the same
pub record IsOrder (count : ℕ) (registers : List SavedRegister) : Type 0 where
  pub size : length registers ≡ count
  pub apart : (i j : ℕ) (register : SavedRegister) → slice_get registers i ≡ Some register →
      slice_get registers j ≡ Some register → i ≡ j

-- the registers of an order, by its number among all orders of so many
abbrev pub order_by : ℕ → ℕ → Option (List SavedRegister)
order_by count number = saved_registers (record { count = count; number = number })

-- in how many orders so many of a number of things can stand: the first is one of all, and those
-- behind it are orders of the others
abbrev pub arrangements : ℕ → ℕ → ℕ
arrangements all zero = 1
arrangements all (suc count) = all * arrangements (all - 1) count

-- in how many orders so many of the six registers can stand
abbrev pub orders_of : ℕ → ℕ
orders_of count = arrangements 6 count
