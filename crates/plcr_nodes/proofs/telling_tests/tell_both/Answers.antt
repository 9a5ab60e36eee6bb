use Rattle.std.proofs.Common.{◌∙◌, ap}
use Rattle.plcr_nodes.specs.Tokens.{PassState}
use Rattle.plcr_nodes.proofs.Joining.{told_announced}
use Rattle.plcr_nodes.proofs.telling_tests.tell_both.Goals as goal

pub returns-clause-pass : goal.returns-clause-pass
returns-clause-pass c =
    let told = c.told-2.ensures.told in
    let fresh = c.requires.pass.0 in
    (ap (λ (s : PassState). s.table) told.now ∙ fresh.0, told_announced _ _ _ told ∙ fresh.1)
