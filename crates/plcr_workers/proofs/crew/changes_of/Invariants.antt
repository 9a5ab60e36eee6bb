use Rattle.std.proofs.Common.{◌≡◌, length, take}
use Rattle.plcr_workers.specs.Asking.{change_lines}
use Rattle.plcr_workers.proofs.crew.changes_of.Given as goal

abbrev pub invariant-loop-at : goal.invariant-loop-at
invariant-loop-at l = l.count ≡ length (change_lines (take l.at l.script.statements))
