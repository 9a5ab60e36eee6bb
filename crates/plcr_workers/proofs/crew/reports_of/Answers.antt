use Rattle.std.proofs.Common.{arith}
use Rattle.plcr_workers.proofs.Made.{files_count}
use Rattle.plcr_workers.proofs.crew.reports_of.Goals as goal

pub loop-at-preserved : goal.loop-at-preserved
loop-at-preserved c = record {
  count = let next = files_count c.args.script.now.statements c.loop-at.at c.statement.result.now c.statement.ensures in let was = c.loop-at.invariant.count in let one = c.writes-count.ensures.one in omega (arith, next, was, one);
  few = let one = c.writes-count.ensures.few in let was = c.loop-at.invariant.few in omega (arith, one, was);
}
