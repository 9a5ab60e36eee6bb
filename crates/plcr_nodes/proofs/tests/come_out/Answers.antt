use Rattle.std.proofs.Common.{◌∙◌, ap}
use Rattle.plcr_nodes.specs.Tokens.{PassState}
use Rattle.plcr_nodes.proofs.Going.{left_announced, retired_quiet}
use Rattle.plcr_nodes.proofs.tests.come_out.Goals as goal

pub retire-requires-clause-announced : goal.retire-requires-clause-announced
retire-requires-clause-announced c = (left_announced _ _ _ c.leave-counted.ensures.left).0

pub retire-requires-clause-out : goal.retire-requires-clause-out
retire-requires-clause-out c = (left_announced _ _ _ c.leave-counted.ensures.left).1

pub returns-clause-fresh : goal.returns-clause-fresh
returns-clause-fresh c =
    let retired = c.retire.ensures.entry in
    (ap (λ (s : PassState). s.table) retired.now ∙ (ap (λ (s : PassState). s.table) c.leave-counted.ensures.left.entry.now ∙ c.requires.table), retired_quiet _ _ retired)
