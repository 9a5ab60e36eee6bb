use Rattle.std.proofs.Common.{◌≡◌, ◌<◌, suc, ap, arith}
use Rattle.plcr_imagelist.specs.States.{change_step, steps_of}
use Rattle.plcr_imagelist.proofs.Finishing.{come_more, come_end}
use Rattle.plcr_imagelist.proofs.change.Change.finish.Goals as goal

pub returns-clause-finished : goal.returns-clause-finished
returns-clause-finished c =
    let stored = c.store_all.new.self in
    let changed = c.advance.new.self in
    let come = c.store_all.ensures.come in
    let step = c.advance.ensures.step in
    let last = c.store_all.ensures.last in
    let same : change_step stored.doing ≡ change_step c.args.self.doing = ap change_step come.doing in
    let still : change_step changed.doing ≡ change_step stored.doing = ap change_step step.doing in
    let made = step.made in
    let early : suc stored.made < steps_of stored.doing = omega arith in
    let end : suc changed.made ≡ steps_of changed.doing = omega arith in
    come_end c.args.self changed c.count.result (come_more c.args.self stored changed come early step) end c.count.ensures.counted c.count.ensures.rest
