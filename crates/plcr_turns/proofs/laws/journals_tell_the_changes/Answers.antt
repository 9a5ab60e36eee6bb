use Rattle.plcr_turns.proofs.Journaled.{journal_is, line_did}
use Rattle.plcr_turns.proofs.laws.journals_tell_the_changes.Goals as goal

pub returns-clause-changes : goal.returns-clause-changes
returns-clause-changes c = journal_is

pub returns-clause-lines : goal.returns-clause-lines
returns-clause-lines c = line_did
