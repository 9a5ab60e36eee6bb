use Rattle.std.proofs.Common.{reverse}
use Rattle.plcr_machine.proofs.Freedom.{listed_by, unlisted_by}
use Rattle.plcr_machine.proofs.plain.nodes.is_listed.Goals as goal

pub returns-then-not-is_new : goal.returns-then-not-is_new
returns-then-not-is_new c =
    listed_by c.args.node (reverse c.args.history.now) c.is_new.result c.is_removed.result c.is_new.ensures c.is_removed.ensures c.if-not-is_new.true

pub returns-else-not-is_new : goal.returns-else-not-is_new
returns-else-not-is_new c = unlisted_by c.args.node (reverse c.args.history.now) c.is_new.result c.is_new.ensures c.if-not-is_new.false
