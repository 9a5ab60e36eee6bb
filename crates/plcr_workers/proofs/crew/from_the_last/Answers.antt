use Rattle.std.proofs.Common.{length, sym, ap, ◌∙◌, subst, refl}
use Rattle.std.proofs.lemmas.List.{length-reverse}
use Rattle.plcr_workers.specs.inner.Hired.{AreFromTheLast}
use Rattle.plcr_workers.proofs.Crews.{turned_round}
use Rattle.plcr_workers.proofs.crew.from_the_last.Goals as goal

pub returns-clause-order : goal.returns-clause-order
returns-clause-order c = subst (AreFromTheLast (length c.args.images.items) c.args.list.now) (sym c.turned_round.ensures) (turned_round (length c.args.images.items) c.args.list.now c.args.images.items refl c.requires)

pub returns-clause-count : goal.returns-clause-count
returns-clause-count c = ap length c.turned_round.ensures ∙ length-reverse c.args.images.items
