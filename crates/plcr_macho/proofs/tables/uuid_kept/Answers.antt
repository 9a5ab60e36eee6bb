use Rattle.plcr_macho.specs.inner.Keeping.{command_of}
use Rattle.plcr_macho.proofs.Fronts.{uuid_front}
use Rattle.plcr_macho.proofs.Segments.{uuid_kept_is}
use Rattle.plcr_macho.proofs.tables.uuid_kept.Goals as goal

pub returns : goal.returns
returns c =
    let command = command_of c.args.command.now in
    uuid_kept_is c.args.index command c.uuid_of-uuid.result c.requires.cmd c.if-command.false
    (uuid_front command.bytes c.front.result c.uuid_of-uuid.result c.front.ensures c.uuid_of-uuid.ensures)
