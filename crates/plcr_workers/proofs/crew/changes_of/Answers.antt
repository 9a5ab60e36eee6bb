use Rattle.std.proofs.Common.{arith}
use Rattle.plcr_workers.proofs.Going.{counted_next}
use Rattle.plcr_workers.proofs.crew.changes_of.Goals as goal

pub loop-at-preserved : goal.loop-at-preserved
loop-at-preserved c =
    let next = counted_next c.args.script.now.statements c.loop-at.at c.statement.result.now c.statement.ensures in
    let was = c.loop-at.invariant in
    let one = c.asks.ensures in
    let sum = c.in-Some.ensures in
    omega arith
