use Rattle.std.proofs.Common.{eqb, sym, ◌∙◌, rules, tests}
use Rattle.std.proofs.lemmas.Iterator.{YieldsList-from_slice}
use Rattle.std.proofs.lemmas.Iterator.Search.{position_from_yields_List}
use Rattle.plcr_machine.specs.declared.change.Named.{Named}
use Rattle.plcr_machine.proofs.Judging.{without_first-found, without_first-none}
use Rattle.plcr_machine.proofs.plain.changes.take_first.Goals as goal

pub returns-in-Some : goal.returns-in-Some
returns-in-Some c =
    let found = position_from_yields_List (λ (x : Named). eqb x.header c.args.header) _ _ _ c.position.ensures.ran (YieldsList-from_slice c.args.list.now.items cc) (λ x b q k. search (rules, tests)) in
    c.remove.ensures.items ∙ sym (without_first-found c.args.header c.args.list.now.items _ c.in-Some.at found c.in-Some.is)

pub returns-in_default : goal.returns-in_default
returns-in_default c =
    let found = position_from_yields_List (λ (x : Named). eqb x.header c.args.header) _ _ _ c.position.ensures.ran (YieldsList-from_slice c.args.list.now.items cc) (λ x b q k. search (rules, tests)) in
    sym (without_first-none c.args.header c.args.list.now.items _ found c.in_default.is)
