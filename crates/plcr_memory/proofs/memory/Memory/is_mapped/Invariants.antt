use Rattle.std.proofs.Common.{◌≤◌, ◌+◌, ◌-◌, ◌^◌}
use Rattle.plcr_memory.proofs.Ranges.{AreMapped}
use Rattle.plcr_memory.proofs.memory.Memory.is_mapped.Given as goal

abbrev pub invariant-loop-done : goal.invariant-loop-done
invariant-loop-done l = (l.done ≤ l.size) × (l.at + l.done ≤ 2 ^ 64) × AreMapped l.self l.at l.done

abbrev pub decreases-loop-done : goal.decreases-loop-done
decreases-loop-done l = l.size - l.done
