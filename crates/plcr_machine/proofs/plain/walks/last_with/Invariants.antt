use Rattle.std.proofs.Common.{◌≡◌, ◌≤◌}
use Rattle.plcr_machine.specs.Walks.{last_with}
use Rattle.plcr_machine.specs.Changes.{load_of, lists_at}
use Rattle.plcr_machine.proofs.plain.walks.last_with.Given as goal

abbrev pub invariant-loop-at : goal.invariant-loop-at
invariant-loop-at l = (l.last ≡ last_with load_of (lists_at l.lists) l.load l.at) × (l.last ≤ l.at)
