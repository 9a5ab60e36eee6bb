use Rattle.plcr_macho.specs.inner.Keeping.{command_of}
use Rattle.plcr_macho.proofs.Segments.{other_kept_is}
use Rattle.plcr_macho.proofs.gain.other_kept.Goals as goal

pub returns-else-cmd-eq-LC_UUID : goal.returns-else-cmd-eq-LC_UUID
returns-else-cmd-eq-LC_UUID c =
    other_kept_is c.args.index (command_of c.args.command.now) c.nothing.result c.nothing.ensures c.requires.cmd c.if-cmd-eq-LC_SYMTAB.false c.if-cmd-eq-LC_UUID.false c.requires.least
