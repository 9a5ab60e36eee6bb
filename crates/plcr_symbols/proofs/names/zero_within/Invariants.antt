use Rattle.std.specs.Prelude.{◌≤◌, ◌+◌, ◌-◌}
use Rattle.plcr_symbols.specs.declared.limits.TheConstants.{NAME_PIECE}
use Rattle.plcr_symbols.proofs.Looked.{Looked}
use Rattle.plcr_symbols.proofs.names.zero_within.Given as goal

abbrev pub invariant-loop-done : goal.invariant-loop-done
invariant-loop-done l = Looked l.memory l.at l.most l.done × (1 ≤ l.size) × (l.size ≤ NAME_PIECE)

abbrev pub decreases-loop-done : goal.decreases-loop-done
decreases-loop-done l = (l.most - l.done) + l.size
