use Rattle.std.proofs.Common.{not, eqb, ◌∙◌, rules}
use Rattle.std.proofs.lemmas.Fn.{filter_same}
use Rattle.plcr_machine.specs.declared.image.Image.{Image}
use Rattle.plcr_machine.proofs.Prefixes.{without-filter}
use Rattle.plcr_machine.proofs.plain.lists.take_away.Goals as goal

pub returns : goal.returns
returns c =
    filter_same _ (λ (image : Image). not (eqb image.node c.args.node)) _ (λ x b f' k. search rules) _ _ c.retain.ensures.filtered
    ∙ without-filter c.args.node c.args.images.now.items
