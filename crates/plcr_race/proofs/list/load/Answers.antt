use Rattle.std.proofs.Common.{inl, inr, arith}
use Rattle.std.proofs.lemmas.Bool.{cases_eq}
use Rattle.plcr_machine.specs.declared.limits.TheConstants.{MOST_CHANGES}
use Rattle.plcr_machine.specs.Lists.{changes}
use Rattle.plcr_race.proofs.Made.{load_makes, worn_makes}
use Rattle.plcr_race.proofs.list.load.Goals as goal

pub returns-clause-counts : goal.returns-clause-counts
returns-clause-counts c =
    let old = c.args.writer in
    let new = c.load-writer.result.0 in
    rw c.is_ok.ensures.value
    (elim (cases_eq (changes old.history) MOST_CHANGES) [
      | inl worn ↦ worn_makes old new c.load-writer.result.1 _ (c.load-writer.ensures.worn worn)
      | inr fresh ↦ load_makes old c.args.header _ new c.load-writer.result.1 (c.load-writer.ensures.loads fresh (omega arith))
    ])
