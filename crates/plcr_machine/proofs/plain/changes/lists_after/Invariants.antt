use Rattle.std.proofs.Common.{◌≡◌, ℕ, ◌<◌, length, reverse, take}
use Rattle.plcr_machine.specs.Changes.{list_of, lists_at}
use Rattle.plcr_machine.proofs.plain.changes.lists_after.Given as goal

abbrev pub invariant-loop-change : goal.invariant-loop-change
invariant-loop-change l = (length l.lists.items ≡ l.change-index) × (l.last.items ≡ list_of (reverse (take l.change-index l.changes))) × ((j : ℕ) → j < l.change-index → lists_at l.lists.items j ≡ list_of (reverse (take j l.changes)))
