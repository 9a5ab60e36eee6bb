use Rattle.std.proofs.Common.{◌≡◌, ◌≤◌, ◌*◌}
use Rattle.plcr_race.specs.Counting.{MakesChanges}
use Rattle.plcr_race.proofs.walks.change_until.Given as goal

abbrev pub invariant-loop : goal.invariant-loop
invariant-loop l = (l.writer.table ≡ l.list) × (l.made ≤ 2 * l.counter) × MakesChanges l.fn.writer l.made l.writer
