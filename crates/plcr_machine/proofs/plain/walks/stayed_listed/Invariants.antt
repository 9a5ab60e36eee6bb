use Rattle.std.proofs.Common.{ℕ, ◌<◌, ◌≤◌, Contains}
use Rattle.plcr_machine.specs.Changes.{lists_at}
use Rattle.plcr_machine.proofs.plain.walks.stayed_listed.Given as goal

abbrev pub invariant-loop-at : goal.invariant-loop-at
invariant-loop-at l = (j : ℕ) → l.from ≤ j → j < l.at → Contains (lists_at l.lists j) l.image
