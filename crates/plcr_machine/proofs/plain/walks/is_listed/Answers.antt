use Rattle.std.proofs.Common.{eqb, ◌∙◌, rules, tests}
use Rattle.std.proofs.lemmas.Iterator.{YieldsList-from_slice}
use Rattle.std.proofs.lemmas.Iterator.Search.{any_from_yields_List}
use Rattle.plcr_machine.specs.declared.change.Named.{Named}
use Rattle.plcr_machine.proofs.Judging.{listed-any}
use Rattle.plcr_machine.proofs.plain.walks.is_listed.Goals as goal

pub returns : goal.returns
returns c =
    any_from_yields_List (λ (x : Named). eqb x.load c.args.load) _ _ _ c.any.ensures.ran (YieldsList-from_slice c.args.list.now cc) (λ x b q k. search (rules, tests))
    ∙ listed-any c.args.load c.args.list.now
