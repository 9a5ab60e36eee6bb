use Rattle.plcr_workers.proofs.Outcomes.{known_journals_run, known_journals_are}
use Rattle.plcr_workers.proofs.laws.known_journals_run.Goals as goal

pub returns-clause-lines : goal.returns-clause-lines
returns-clause-lines c = known_journals_run

pub returns-clause-changes : goal.returns-clause-changes
returns-clause-changes c = known_journals_are
