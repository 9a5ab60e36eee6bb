use Rattle.plcr_macho.specs.Sources.{memory_bytes}
use Rattle.plcr_macho.specs.inner.Keeping.{command_of}
use Rattle.plcr_macho.proofs.Segments.{gain_is}
use Rattle.plcr_macho.proofs.gain.gain_at.Goals as goal

pub returns-clause-gain : goal.returns-clause-gain
returns-clause-gain c =
    gain_is (memory_bytes c.args.source.now.memory.now c.args.source.now.start) c.args.end c.args.index c.args.at c.args.before.now (command_of c.in_ok-command.command) c.in_ok-kept.kept c.in_ok-command.ensures.frame c.in_ok-kept.ensures
