use Rattle.std.proofs.Common.{rules, ap, ◌∙◌}
use Rattle.std.specs.Io.KnownBytes.{append_known}
use Rattle.plcr_command.proofs.Saved.{lost_at_end}
use Rattle.plcr_command.proofs.gathering.capture_gathered.Goals as goal

-- the whole report was put, and its last bytes weren't written
pub returns-in_err-finish-in-Ok-clause-err : goal.returns-in_err-finish-in-Ok-clause-err
returns-in_err-finish-in-Ok-clause-err g c =
    let report = g.P.Process.report c.args.process.now c.args.context.now (g.I.Images.images c.args.images.now) in
    let cut = lost_at_end _ _ _ report c.in_err-finish-in-Ok.ensures.short (c.in-Ok.ensures.written ∙ ap (λ o. append_known o report) c.new-gathered.ensures.written) in
    search rules
