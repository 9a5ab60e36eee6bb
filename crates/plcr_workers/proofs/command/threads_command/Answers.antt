use Rattle.plcr_workers.proofs.Commanded.{leaves_by, tells_by}
use Rattle.plcr_workers.proofs.Wholly.{whole_by}
use Rattle.plcr_workers.proofs.Told.{kept_by}
use Rattle.plcr_workers.proofs.command.threads_command.Goals as goal

pub returns-clause-past : goal.returns-clause-past
returns-clause-past g c = leaves_by _ _ _ _ _ c.threads.result _ c.status.ensures c.threads.ensures.leaves

pub returns-clause-journal : goal.returns-clause-journal
returns-clause-journal g c = tells_by _ _ _ _ _ c.threads.result _ c.status.ensures c.threads.ensures.tells

pub returns-clause-ran : goal.returns-clause-ran
returns-clause-ran g c = whole_by _ _ _ _ _ c.threads.result _ c.status.ensures c.threads.ensures.ran

pub returns-clause-kept : goal.returns-clause-kept
returns-clause-kept g c = kept_by _ _ _ _ _ c.threads.result _ c.status.ensures c.threads.ensures.kept
