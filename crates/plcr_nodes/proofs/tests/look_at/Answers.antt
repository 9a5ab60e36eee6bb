use Rattle.plcr_nodes.proofs.Joining.{looked_counts, looked_follows}
use Rattle.plcr_nodes.proofs.tests.look_at.Goals as goal

pub returns-clause-counts : goal.returns-clause-counts
returns-clause-counts c = looked_counts _ _ _ _ c.look.ensures.looked

pub returns-clause-follows : goal.returns-clause-follows
returns-clause-follows c = λ before node f. looked_follows before node _ _ _ _ c.look.ensures.looked f
