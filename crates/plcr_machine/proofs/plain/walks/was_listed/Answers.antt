use Rattle.std.proofs.Common.{sym, subst, arith, List, Contains}
use Rattle.plcr_machine.specs.declared.change.Named.{Named}
use Rattle.plcr_machine.specs.Changes.{lists_at}
use Rattle.plcr_machine.proofs.Cases.{not_both}
use Rattle.plcr_machine.proofs.Judging.{up_to}
use Rattle.plcr_machine.proofs.plain.walks.was_listed.Goals as goal

pub loop-at-preserved : goal.loop-at-preserved
loop-at-preserved c =
    up_to (λ j. Contains (lists_at c.args.lists.now j) c.args.image.now → ⊥) c.args.from c.loop-at.at c.loop-at.invariant
    (λ in_it. not_both c.is_in.result (c.is_in.ensures.1 (subst (λ (l : List Named). Contains l c.args.image.now) (sym c.list_at.ensures) in_it)) c.if-is_in.false)

pub returns : goal.returns
returns c =
    ((λ t. cc), λ was. let past = c.loop-at-test.false in let upto = was.2 in absurd (c.loop-at.invariant was.0 was.1 (omega (arith, past, upto)) was.3))
