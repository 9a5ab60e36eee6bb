use Rattle.std.proofs.Common.{sym, subst, arith, List, Contains}
use Rattle.plcr_machine.specs.declared.change.Named.{Named}
use Rattle.plcr_machine.specs.Changes.{lists_at}
use Rattle.plcr_machine.proofs.Cases.{not_both}
use Rattle.plcr_machine.proofs.Judging.{up_to}
use Rattle.plcr_machine.proofs.plain.walks.stayed_listed.Goals as goal

pub returns-then-not-is_in : goal.returns-then-not-is_in
returns-then-not-is_in c = (
  (λ t. cc),
  λ stayed. let lt = c.loop-at-test.true in let low = c.loop-at.auto.at in
      not_both c.is_in.result (c.is_in.ensures.1 (subst (λ (l : List Named). Contains l c.args.image.now) (sym c.list_at.ensures) (stayed c.loop-at.at low (omega (arith, lt))))) c.if-not-is_in.true,
)

pub loop-at-preserved : goal.loop-at-preserved
loop-at-preserved c =
    up_to (λ j. Contains (lists_at c.args.lists.now j) c.args.image.now) c.args.from c.loop-at.at c.loop-at.invariant
    (subst (λ (l : List Named). Contains l c.args.image.now) c.list_at.ensures (c.is_in.ensures.0 c.if-not-is_in.false))
