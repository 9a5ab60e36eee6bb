use Rattle.std.proofs.Common.{◌≡◌, ◌≤◌, ◌*◌}
use Rattle.plcr_machine.specs.declared.limits.TheConstants.{MOST_NODES}
use Rattle.plcr_race.specs.Counting.{AreWalks}
use Rattle.plcr_race.proofs.walks.walk.Given as goal

abbrev pub invariant-loop : goal.invariant-loop
invariant-loop l = (l.pass.table ≡ l.list) × (l.met ≤ MOST_NODES * l.counter) × AreWalks l.fn.pass l.counter l.met l.pass
