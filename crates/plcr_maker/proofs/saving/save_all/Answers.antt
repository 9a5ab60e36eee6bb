use Rattle.std.proofs.Common.{[], ◌∷◌}
use Rattle.plcr_command.proofs.Kept.{kept_none, kept_twice, goes_none, goes_twice}
use Rattle.plcr_maker.proofs.Saved.{stopped_at}
use Rattle.plcr_make.specs.Scripts.{report_name}
use Rattle.plcr_maker.proofs.saving.save_all.Goals as goal

pub returns-in-Err-clause-stopped : goal.returns-in-Err-clause-stopped
returns-in-Err-clause-stopped g c =
    let made = c.args.made.now in
    stopped_at [] ((c.args.script.now, made.script.items) ∷ (report_name, made.report.items) ∷ []) c.args.core.now made.core.items _ _ _ (kept_none _) (goes_none _) (rw c.deref.ensures.value at c.in-Err.ensures.stopped)

pub returns-in-Err-save-clause-stopped : goal.returns-in-Err-save-clause-stopped
returns-in-Err-save-clause-stopped g c =
    let made = c.args.made.now in
    stopped_at ((c.args.core.now, made.core.items) ∷ []) ((report_name, made.report.items) ∷ []) c.args.script.now made.script.items _ _ _ (rw c.deref.ensures.value at c.in-Ok.ensures.kept) c.save.ensures.goes_on (rw c.deref-2.ensures.value at c.in-Err-save.ensures.stopped)

pub returns-in-Err-save-2-clause-stopped : goal.returns-in-Err-save-2-clause-stopped
returns-in-Err-save-2-clause-stopped g c =
    let made = c.args.made.now in
    let first = rw c.deref.ensures.value at c.in-Ok.ensures.kept in
    let second = rw c.deref-2.ensures.value at c.in-Ok-save.ensures.kept in
    stopped_at ((c.args.core.now, made.core.items) ∷ (c.args.script.now, made.script.items) ∷ []) [] report_name made.report.items _ _ _ (kept_twice _ _ [] [] _ _ _ first second) (goes_twice _ _ _ c.save.ensures.goes_on c.save-2.ensures.goes_on) (rw c.deref-3.ensures.value at c.in-Err-save-2.ensures.stopped)

pub returns-in-Ok-save-2-clause-kept : goal.returns-in-Ok-save-2-clause-kept
returns-in-Ok-save-2-clause-kept g c =
    let first = rw c.deref.ensures.value at c.in-Ok.ensures.kept in
    let second = rw c.deref-2.ensures.value at c.in-Ok-save.ensures.kept in
    let third = rw c.deref-3.ensures.value at c.in-Ok-save-2.ensures.kept in
    kept_twice _ _ [] [] _ _ _ (kept_twice _ _ [] [] _ _ _ first second) third
