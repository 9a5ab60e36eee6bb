use Rattle.plcr_encode.proofs.ShortNames.{name_short}
use Rattle.plcr_encode.proofs.threads.register.Goals as goal

pub returns-clause-short : goal.returns-clause-short
returns-clause-short c = rw (c.name.ensures) (name_short c.args.state.now.arch c.args.i)
