use Rattle.std.proofs.Common.{inl, inr}
use Rattle.std.proofs.lemmas.Bool.{cases_eq}
use Rattle.plcr_machine.specs.declared.limits.TheConstants.{MOST_CHANGES}
use Rattle.plcr_machine.specs.Lists.{changes}
use Rattle.plcr_race.proofs.Made.{unload_makes, worn_makes}
use Rattle.plcr_race.proofs.list.unload.Goals as goal

pub returns-clause-counts : goal.returns-clause-counts
returns-clause-counts c =
    let old = c.args.writer in
    let new = c.unload-writer.result.0 in
    rw c.is_ok.ensures.value
    (elim (cases_eq (changes old.history) MOST_CHANGES) [
      | inl worn ↦ (worn_makes old new c.unload-writer.result.1 _ (c.unload-writer.ensures.worn worn)).1
      | inr fresh ↦ unload_makes old _ new c.unload-writer.result.1 (c.unload-writer.ensures.unloads fresh)
    ])
