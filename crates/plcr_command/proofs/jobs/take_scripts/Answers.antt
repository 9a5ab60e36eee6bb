use Rattle.std.proofs.Common.{◌+◌, ◌≤◌, ◌<◌, ◌^◌, List, [], ◌∷◌, ◌++◌, ℕ, length, subst, arith}
use Rattle.std.proofs.lemmas.List.Elements.{All-push}
use Rattle.std.proofs.lemmas.Option.{slice_get-get_or}
use Rattle.std.proofs.lemmas.Result.{err_from_is_err_and}
use Rattle.plcr_command.specs.Files.{File}
use Rattle.plcr_command.proofs.Numbered.{took_first, took_next, untaken_next}
use Rattle.plcr_command.proofs.Takings.{nothing_twice}
use Rattle.plcr_command.proofs.jobs.take_scripts.Goals as goal

pub returns-in_err-bytes-clause-taken : goal.returns-in_err-bytes-clause-taken
returns-in_err-bytes-clause-taken g c =
    let p = err_from_is_err_and c.from_residual.result c.from_residual.ensures.1 in
    let there = slice_get-get_or c.args.scripts.now c.loop-script.script-index _ c.loop-script-test.true in
    rw (p.1, p.2) (untaken_next c.args.scripts.now c.loop-script.script-index _ _ c.loop-script.taken.items c.in_err-bytes.field-0.0 _ _ _ there c.script_file.ensures c.loop-script.invariant.nothing c.loop-script.invariant.took c.in_err-bytes.ensures.taken)

pub returns-in_err-push-clause-taken : goal.returns-in_err-push-clause-taken
returns-in_err-push-clause-taken g c =
    let p = err_from_is_err_and c.from_residual-in_err-push.result c.from_residual-in_err-push.ensures.1 in
    let there = slice_get-get_or c.args.scripts.now c.loop-script.script-index _ c.loop-script-test.true in
    let took = took_next c.args.scripts.now c.loop-script.script-index _ _ c.loop-script.taken.items c.in_ok-bytes.bytes _ _ _ there c.script_file.ensures c.loop-script.invariant.nothing.files c.loop-script.invariant.took c.in_ok-bytes.ensures.taken in
    let some = took_first c.args.scripts.now (c.loop-script.script-index + 1) (c.loop-script.taken.items ++ c.in_ok-bytes.bytes ∷ []) (g.D.Desk.told c.args.desk.now) (g.D.Desk.told c.take_file.new.desk) took in
    rw (p.1, p.2) some

pub loop-script-preserved : goal.loop-script-preserved
loop-script-preserved g c =
    let there = slice_get-get_or c.args.scripts.now c.loop-script.script-index _ c.loop-script-test.true in
    let took = took_next c.args.scripts.now c.loop-script.script-index _ _ c.loop-script.taken.items c.in_ok-bytes.bytes _ _ _ there c.script_file.ensures c.loop-script.invariant.nothing.files c.loop-script.invariant.took c.in_ok-bytes.ensures.taken in
    let P : File → Type 0 = λ file. length c.in_ok-bytes.bytes ≤ file.limit in
    let fits = subst P c.script_file.ensures c.in_ok-bytes.ensures.taken.are.0.fits in
    record {
      took = rw c.in_ok-push.ensures.items took;
      count = omega (arith, c.loop-script.invariant.count, c.in_ok-push.ensures.len);
      short = rw c.in_ok-push.ensures.items (All-push (λ (bytes : List ℕ). length bytes < 2 ^ 32) c.loop-script.taken.items c.in_ok-bytes.bytes c.loop-script.invariant.short (omega (arith, fits)));
      nothing = nothing_twice _ _ _ c.loop-script.invariant.nothing c.in_ok-bytes.ensures.nothing;
    }
