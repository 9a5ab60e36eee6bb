use Rattle.plcr_nodes.proofs.Joining.{counted_counts}
use Rattle.plcr_nodes.proofs.tests.count_one.Goals as goal

pub returns-clause-counts : goal.returns-clause-counts
returns-clause-counts c = counted_counts _ _ _ c.count.ensures.counted
