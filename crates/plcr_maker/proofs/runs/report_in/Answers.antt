use Rattle.std.proofs.Common.{◌≡◌, ℕ, List, Some, sym, ap, ◌∙◌}
use Rattle.plcr_io.specs.MemDesk.{contents, file_now}
use Rattle.plcr_make.specs.Scripts.{report_name}
use Rattle.plcr_maker.proofs.runs.report_in.Goals as goal

pub returns-in-Ok : goal.returns-in-Ok
returns-in-Ok c =
    let same = c.in-Ok.ensures.items_if_clones_equal (λ y z e. e) in
    let is : Some c.in_ok-bytes.bytes.now ≡ file_now (contents c.args.desk.now) report_name = c.in_ok-bytes.ensures in
    sym is ∙ ap (λ (bytes : List ℕ). Some bytes) (sym same)
