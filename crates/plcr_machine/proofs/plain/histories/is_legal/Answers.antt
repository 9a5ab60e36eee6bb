use Rattle.plcr_machine.specs.declared.entry.Entry.TheVariants.{Announce}
use Rattle.plcr_machine.proofs.Cases.{not_both}
use Rattle.plcr_machine.proofs.Prefixes.{legal_at}
use Rattle.plcr_machine.proofs.plain.histories.is_legal.Goals as goal

pub returns-then-not-may_follow : goal.returns-then-not-may_follow
returns-then-not-may_follow c = (
  (λ t. cc),
  λ l. not_both c.may_follow.result
      (c.may_follow.ensures.1 (legal_at c.args.nodes c.args.passes c.args.history.now c.loop-i.i (Announce 0 0) c.loop-i-test.true l)) c.if-not-may_follow.true,
)
