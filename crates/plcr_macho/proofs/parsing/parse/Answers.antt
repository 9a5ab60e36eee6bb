use Rattle.std.proofs.Common.{ℕ, Result, Err, sym, ap, ◌∙◌}
use Rattle.std.proofs.lemmas.Result.{err_from_is_err_and}
use Rattle.plcr_base.specs.Chains.{result_map}
use Rattle.plcr_memory.specs.Regions.{Contents}
use Rattle.plcr_loader.specs.declared.trouble.Trouble.{Trouble}
use Rattle.plcr_macho.specs.declared.header.Header.{Header}
use Rattle.plcr_macho.specs.declared.image.Image.{Image}
use Rattle.plcr_macho.specs.declared.image.ImageFault.{ImageFault}
use Rattle.plcr_macho.specs.declared.kept.Kept.{Kept}
use Rattle.plcr_macho.specs.inner.Keeping.{kept_of}
use Rattle.plcr_macho.proofs.Assembled.{read, no_head, no_commands, with_commands}
use Rattle.plcr_macho.proofs.parsing.parse.Goals as goal

-- what is kept behind a header in a memory
abbrev behind : ℕ → Header → Contents → Result Kept Trouble
behind address head memory = result_map kept_of (read memory address head)

pub returns-in_err-head : goal.returns-in_err-head
returns-in_err-head c =
    let p = err_from_is_err_and c.from_residual.result c.from_residual.ensures.1 in
    rw (p.1, p.2) (no_head c.args.memory.now c.args.arch c.args.header c.in_err-head.field-0.0 (sym c.in_err-head.was ∙ c.header_at.ensures))

pub returns-in-Ok : goal.returns-in-Ok
returns-in-Ok c =
    c.image_of.ensures ∙ with_commands c.args.memory.now c.args.arch c.args.header c.in_ok-head.head c.in-Ok.kept
    (sym c.in_ok-head.was ∙ c.header_at.ensures) (sym c.in-Ok.is ∙ c.kept_behind.ensures ∙ ap (behind c.args.header c.in_ok-head.head) c.new-window.ensures)

pub returns-in-Err : goal.returns-in-Err
returns-in-Err c =
    ap (λ (f : ImageFault). let r : Result Image ImageFault = Err f in r) c.fault_from.ensures
    ∙ no_commands c.args.memory.now c.args.arch c.args.header c.in_ok-head.head c.in-Err.trouble
    (sym c.in_ok-head.was ∙ c.header_at.ensures) (sym c.in-Err.is ∙ c.kept_behind.ensures ∙ ap (behind c.args.header c.in_ok-head.head) c.new-window.ensures)
