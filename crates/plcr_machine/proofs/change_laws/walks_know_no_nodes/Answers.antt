use Rattle.plcr_machine.proofs.Renaming.{follow_named, whole_named}
use Rattle.plcr_machine.proofs.change_laws.walks_know_no_nodes.Goals as goal

pub returns-clause-follow : goal.returns-clause-follow
returns-clause-follow c = follow_named

pub returns-clause-lawful : goal.returns-clause-lawful
returns-clause-lawful c = whole_named
