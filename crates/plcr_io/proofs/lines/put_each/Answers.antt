use Rattle.std.proofs.Common.{ap, ◌∙◌, ◌++◌}
use Rattle.std.specs.Io.KnownBytes.{append_known}
use Rattle.plcr_base.proofs.Appended.{append_twice, proper_first, proper_second}
use Rattle.plcr_io.proofs.lines.put_each.Goals as goal

pub returns-in-Err-clause-err : goal.returns-in-Err-clause-err
returns-in-Err-clause-err g c =
    let h = c.args.head.now in
    let m = c.args.middle.now in
    proper_first _ _ (h ++ m) c.args.tail.now (proper_first _ _ h m c.in-Err.ensures.err)

pub returns-in-Err-put_all-clause-err : goal.returns-in-Err-put_all-clause-err
returns-in-Err-put_all-clause-err g c =
    let h = c.args.head.now in
    let m = c.args.middle.now in
    proper_first _ _ (h ++ m) c.args.tail.now (proper_second _ _ _ h m c.in-Ok.ensures.ok c.in-Err-put_all.ensures.err)

pub returns-in-Err-put_all-2-clause-err : goal.returns-in-Err-put_all-2-clause-err
returns-in-Err-put_all-2-clause-err g c =
    let h = c.args.head.now in
    let m = c.args.middle.now in
    let two = c.in-Ok-put_all.ensures.ok ∙ ap (λ o. append_known o m) c.in-Ok.ensures.ok ∙ append_twice _ h m in
    proper_second _ _ _ (h ++ m) c.args.tail.now two c.in-Err-put_all-2.ensures.err
