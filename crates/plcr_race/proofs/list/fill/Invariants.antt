use Rattle.std.proofs.Common.{◌≡◌, ◌≤◌}
use Rattle.plcr_race.specs.Counting.{MakesLoads}
use Rattle.plcr_race.proofs.list.fill.Given as goal

abbrev pub invariant-loop-done : goal.invariant-loop-done
invariant-loop-done l = (l.writer.table ≡ l.list) × (l.made ≤ l.done) × MakesLoads l.fn.writer l.made l.writer
