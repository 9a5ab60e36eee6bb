use Rattle.std.proofs.Common.{◌≡◌, ◌≤◌, ◌*◌}
use Rattle.plcr_race.specs.Counting.{MakesChanges}
use Rattle.plcr_race.proofs.changes.change.Given as goal

abbrev pub invariant-loop-round : goal.invariant-loop-round
invariant-loop-round l = (l.writer.table ≡ l.list) × (l.made ≤ 2 * l.round) × MakesChanges l.fn.writer l.made l.writer
