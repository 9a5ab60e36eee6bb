use Rattle.std.proofs.Common.{◌≡◌}
use Rattle.plcr_command.specs.declared.refusals.Refusal.TheVariants.{CannotRead}
use Rattle.plcr_command.proofs.lines.refuse.Goals as goal

pub returns-in-CannotRead-clause-printed : goal.returns-in-CannotRead-clause-printed
returns-in-CannotRead-clause-printed g c =
    let is : c.args.refusal ≡ CannotRead c.in-CannotRead.word = c.in-CannotRead.is in
    let name : c.as_bytes-name.result.now ≡ c.in-CannotRead.word.name.now = c.as_bytes-name.ensures.value in
    rw (is, ← name) c.print_line.ensures.printed
