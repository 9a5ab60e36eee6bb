use Rattle.std.proofs.Common.{sym, subst, List, eqb, ne_eqb}
use Rattle.std.proofs.lemmas.Bool.{not_from_false}
use Rattle.plcr_machine.specs.declared.change.Named.{Named}
use Rattle.plcr_machine.specs.inner.Judging.{NoneWasMissed}
use Rattle.plcr_machine.proofs.Cases.{not_both}
use Rattle.plcr_machine.proofs.Judging.{judged, judged_listed, judged_complete}
use Rattle.plcr_machine.proofs.plain.walks.is_lawful_walk.Goals as goal

pub returns-then-not-each_was_listed : goal.returns-then-not-each_was_listed
returns-then-not-each_was_listed c =
    ((λ t. cc), λ w. not_both c.each_was_listed.result (c.each_was_listed.ensures.1 (judged_listed c.args.lists.now c.args.from c.args.to c.args.met.now w)) c.if-not-each_was_listed.true)

pub returns-then-not-none_was_missed : goal.returns-then-not-none_was_missed
returns-then-not-none_was_missed c = (
  (λ t. cc),
  λ w.
      not_both c.none_was_missed.result
      (c.none_was_missed.ensures.1 (subst (λ (l : List Named). NoneWasMissed c.args.lists.now c.args.from c.args.to c.args.met.now l) (sym c.list_at-first.ensures)
      (judged_complete c.args.lists.now c.args.from c.args.to c.args.met.now w))) c.if-not-none_was_missed.true,
)

pub returns-then-from-to : goal.returns-then-from-to
returns-then-from-to c =
    let complete = subst (λ (l : List Named). NoneWasMissed c.args.lists.now c.args.from c.args.to c.args.met.now l) c.list_at-first.ensures (c.none_was_missed.ensures.0 c.if-not-none_was_missed.false) in (
      (λ t.
          judged c.args.lists.now c.args.from c.args.to c.args.met.now c.requires.order (c.rises.ensures.0 c.if-not-rises.false) (c.each_was_listed.ensures.0 c.if-not-each_was_listed.false) complete
          (λ e. absurd (c.if-from-to.true e))),
      λ w. not_from_false (eqb c.args.from c.args.to) (ne_eqb c.args.from c.args.to c.if-from-to.true),
    )
