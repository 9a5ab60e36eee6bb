use Rattle.std.proofs.Common.{◌≡◌}
use Rattle.plcr_maker.proofs.Saved.{unwritten}
use Rattle.plcr_maker.proofs.saving.save.Goals as goal

pub returns-in-Err-clause-stopped : goal.returns-in-Err-clause-stopped
returns-in-Err-clause-stopped g c =
    let same : c.as_bytes.result.now ≡ c.args.name.now = c.as_bytes.ensures.value in
    unwritten c.args.name.now c.args.bytes.now _ _ _ _ _ _ c.in-Err.ensures.unsaved (rw same at c.print_unwritten.ensures.printed)
