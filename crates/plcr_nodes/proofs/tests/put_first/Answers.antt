use Rattle.std.proofs.Common.{◌∙◌, ap, arith}
use Rattle.plcr_machine.specs.Lists.{live}
use Rattle.plcr_nodes.specs.Tokens.{OwnerState}
use Rattle.plcr_nodes.proofs.Going.{linked_follows}
use Rattle.plcr_nodes.proofs.tests.put_first.Goals as goal

pub returns-clause-follows : goal.returns-clause-follows
returns-clause-follows c =
    let same = ap (λ (s : OwnerState). s.history) c.end_link.ensures.stored ∙ (ap (λ (s : OwnerState). s.history) c.fill-2.ensures.stored ∙ ap (λ (s : OwnerState). s.history) c.fill.ensures.stored) in
    linked_follows _ _ _ c.link.ensures.entry (omega arith) (ap live (same ∙ c.requires.new.1))
