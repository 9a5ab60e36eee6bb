use Rattle.plcr_macho.proofs.Reading.{front_is}
use Rattle.plcr_macho.proofs.standing.Standing.front.Goals as goal

pub returns : goal.returns
returns g c =
    front_is c.args.self.now.memory.now c.args.self.now.address g.row.N c.args.self.now.cmdsize c.mapped_bytes.result c.requires.long c.requires.stands c.mapped_bytes.ensures
