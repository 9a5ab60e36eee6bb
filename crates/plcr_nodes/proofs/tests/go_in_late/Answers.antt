use Rattle.std.proofs.Common.{◌∙◌}
use Rattle.plcr_nodes.proofs.Going.{glanced_seen, glanced_announced, announced_out, entered_inside}
use Rattle.plcr_nodes.proofs.tests.go_in_late.Goals as goal

pub announce-requires-clause-retired : goal.announce-requires-clause-retired
announce-requires-clause-retired c = glanced_announced _ _ _ c.glance-seen.ensures.seen ∙ c.requires.fresh.1

pub announce-requires-clause-seen : goal.announce-requires-clause-seen
announce-requires-clause-seen c = glanced_seen _ _ _ c.glance-seen.ensures.seen

pub enter-requires-clause-announced : goal.enter-requires-clause-announced
enter-requires-clause-announced c = (announced_out _ _ _ c.announce.ensures.entry).0

pub enter-requires-clause-out : goal.enter-requires-clause-out
enter-requires-clause-out c = (announced_out _ _ _ c.announce.ensures.entry).1

pub returns-clause-inside : goal.returns-clause-inside
returns-clause-inside c = entered_inside _ _ _ c.enter.ensures.entered
