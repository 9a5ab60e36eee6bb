use Rattle.plcr_command.proofs.Saved.{unsaved}
use Rattle.plcr_command.proofs.saving.save_report.Goals as goal

pub returns-in-Ok-clause-unsaved : goal.returns-in-Ok-clause-unsaved
returns-in-Ok-clause-unsaved g c =
    let made = c.in-Ok.ensures in
    let captured = c.capture_into-captured.ensures in
    unsaved _ _ _ _ _ _ _ _ _ _ _ made.listed made.kept made.dropped made.later made.empty captured.err captured.cause c.settle.ensures.settles
