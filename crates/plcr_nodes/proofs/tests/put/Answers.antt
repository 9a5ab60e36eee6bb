use Rattle.std.proofs.Common.{◌∙◌, ap, suc}
use Rattle.plcr_machine.specs.Lists.{loads}
use Rattle.plcr_machine.specs.Nodes.{is_free}
use Rattle.plcr_nodes.specs.Tokens.{OwnerState}
use Rattle.plcr_nodes.proofs.Going.{linked_last, linked_free, linked_loads}
use Rattle.plcr_nodes.proofs.tests.put.Goals as goal

pub returns-clause-tail : goal.returns-clause-tail
returns-clause-tail c = linked_last _ _ _ c.link.ensures.entry

pub returns-clause-free : goal.returns-clause-free
returns-clause-free c =
    let same = ap (λ (s : OwnerState). s.history) c.end_link.ensures.stored ∙ (ap (λ (s : OwnerState). s.history) c.fill-2.ensures.stored ∙ ap (λ (s : OwnerState). s.history) c.fill.ensures.stored) in
    let sizes = ap (λ (s : OwnerState). s.passes) c.end_link.ensures.stored ∙ (ap (λ (s : OwnerState). s.passes) c.fill-2.ensures.stored ∙ ap (λ (s : OwnerState). s.passes) c.fill.ensures.stored) in
    λ m d f. linked_free _ _ _ c.link.ensures.entry m d ((λ i. is_free (sizes i) m (same i)) ∙ f)

pub returns-clause-loads : goal.returns-clause-loads
returns-clause-loads c =
    let same = ap (λ (s : OwnerState). s.history) c.end_link.ensures.stored ∙ (ap (λ (s : OwnerState). s.history) c.fill-2.ensures.stored ∙ ap (λ (s : OwnerState). s.history) c.fill.ensures.stored) in
    linked_loads _ _ _ c.link.ensures.entry ∙ ap (λ h. suc (loads h)) same
