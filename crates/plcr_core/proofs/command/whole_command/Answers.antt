use Rattle.std.proofs.Common.{◌≡◌, length, take, drop, arith, sym, ap, ◌∙◌}
use Rattle.std.proofs.lemmas.List.{length-drop}
use Rattle.plcr_core.proofs.FramedCommands.{framed_is}
use Rattle.plcr_core.proofs.command.whole_command.Goals as goal

pub split_at-requires : goal.split_at-requires
split_at-requires c =
    let f = framed_is c.args.file.now c.args.end c.args.index c.args.at c.in_ok-command.command (sym c.in_ok-command.was ∙ c.frame_at.ensures) in
    omega (arith, f.within)

pub split_at-requires-2 : goal.split_at-requires-2
split_at-requires-2 c =
    let f = framed_is c.args.file.now c.args.end c.args.index c.args.at c.in_ok-command.command (sym c.in_ok-command.was ∙ c.frame_at.ensures) in
    omega (arith, f.within, ap length c.split_at.ensures.back, length-drop c.args.at c.args.file.now)

pub returns-clause-frame : goal.returns-clause-frame
returns-clause-frame c =
    let f = framed_is c.args.file.now c.args.end c.args.index c.args.at c.in_ok-command.command (sym c.in_ok-command.was ∙ c.frame_at.ensures) in
    let size : length c.split_at-2.result.0.now ≡ c.in_ok-command.command.cmdsize = c.split_at-2.ensures.front_len in
    let bytes : c.split_at-2.result.0.now ≡ take c.in_ok-command.command.cmdsize (drop c.args.at c.args.file.now) =
    c.split_at-2.ensures.front ∙ ap (take c.in_ok-command.command.cmdsize) c.split_at.ensures.back in
    rw (size, bytes) (sym f.is)

pub returns-clause-long : goal.returns-clause-long
returns-clause-long c =
    let f = framed_is c.args.file.now c.args.end c.args.index c.args.at c.in_ok-command.command (sym c.in_ok-command.was ∙ c.frame_at.ensures) in
    omega (arith, f.least, c.split_at-2.ensures.front_len)
