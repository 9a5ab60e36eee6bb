use Rattle.std.proofs.Common.{◌≤◌, ◌-◌, length}
use Rattle.plcr_memory.proofs.Ranges.{Stand}
use Rattle.plcr_memory.proofs.memory.Memory.copy_across.Given as goal

abbrev pub invariant-loop-done : goal.invariant-loop-done
invariant-loop-done l = (l.done ≤ length l.into) × Stand l.self l.at l.done l.into

abbrev pub decreases-loop-done : goal.decreases-loop-done
decreases-loop-done l = length l.initial.into - l.done
