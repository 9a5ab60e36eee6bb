use Rattle.std.proofs.Common.{◌≡◌, ◌+◌, List, Ok, length, refl, sym, ap, subst, ◌∙◌, arith}
use Rattle.std.proofs.lemmas.List.Elements.{All-push}
use Rattle.std.proofs.lemmas.Option.{slice_get_read}
use Rattle.std.proofs.lemmas.Result.{err_from_is_err_and}
use Rattle.plcr_script.specs.Lawful.{IsLawful}
use Rattle.plcr_script.specs.Reading.{script_in}
use Rattle.plcr_script.specs.Scripts.{ScriptValue}
use Rattle.plcr_command.specs.inner.Jobs.{ScriptMisread}
use Rattle.plcr_command.proofs.Numbered.{misread_at, reads_all, reads_on}
use Rattle.plcr_command.proofs.jobs.scripts_of.Goals as goal

pub returns-in_err-script-clause-read : goal.returns-in_err-script-clause-read
returns-in_err-script-clause-read c =
    let p = err_from_is_err_and c.from_residual.result c.from_residual.ensures.1 in
    let there = slice_get_read c.args.contents.now (length c.args.contents.now) c.loop-bytes.bytes-index c.bytes-item.result refl c.loop-bytes-test.true c.bytes-item.is in
    let P : List ScriptValue → Type 0 = λ before. ScriptMisread (length before + 1) c.loop-bytes.mode before c.bytes-item.result c.in_err-script.field-0.0 in
    let misread = subst P c.as_slice.ensures.value (rw c.as_slice-in-loop-bytes.ensures at c.in_err-script.ensures.read) in
    rw (p.1, p.2) (misread_at c.args.modes c.loop-bytes.mode c.loop-bytes.scripts.items c.args.contents.now c.loop-bytes.bytes-index (length c.loop-bytes.scripts.items + 1) c.bytes-item.result c.in_err-script.field-0.0 there refl c.loop-bytes.invariant.read misread)

pub loop-bytes-preserved : goal.loop-bytes-preserved
loop-bytes-preserved c =
    let there = slice_get_read c.args.contents.now (length c.args.contents.now) c.loop-bytes.bytes-index c.bytes-item.result refl c.loop-bytes-test.true c.bytes-item.is in
    let P : List ScriptValue → Type 0 = λ before. script_in c.loop-bytes.mode before c.bytes-item.result ≡ Ok c.in_ok-script.script in
    let read = subst P c.as_slice.ensures.value (rw c.as_slice-in-loop-bytes.ensures at c.in_ok-script.ensures.read) in
    record {
      read = rw c.in_ok-push.ensures.items (sym (reads_on c.loop-bytes.mode c.args.modes.later c.loop-bytes.scripts.items c.args.contents.now c.loop-bytes.bytes-index c.bytes-item.result c.in_ok-script.script there read) ∙ c.loop-bytes.invariant.read);
      count = omega (arith, c.loop-bytes.invariant.count, c.in_ok-push.ensures.len);
      lawful = rw c.in_ok-push.ensures.items (All-push IsLawful c.loop-bytes.scripts.items c.in_ok-script.script c.loop-bytes.invariant.lawful c.in_ok-script.ensures.lawful);
    }

pub returns-clause-read : goal.returns-clause-read
returns-clause-read c =
    sym c.loop-bytes.invariant.read
    ∙ reads_all c.loop-bytes.mode c.args.modes.later c.loop-bytes.scripts.items c.args.contents.now c.loop-bytes.bytes-index c.loop-bytes-test.false
    ∙ ap (λ (scripts : List ScriptValue). Ok scripts) (sym c.new.ensures)
