use Rattle.std.proofs.Common.{◌∙◌, sym, ap}
use Rattle.plcr_machine.proofs.Judging.{lists_at-get}
use Rattle.plcr_machine.proofs.plain.walks.list_at.Goals as goal

pub returns : goal.returns
returns c =
    c.deref.ensures.value ∙ ap (λ v. v.items) c.index-lists-changes.is ∙ sym (lists_at-get c.args.lists.now c.args.changes c.index-lists-changes.result c.requires)
