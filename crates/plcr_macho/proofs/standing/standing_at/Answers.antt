use Rattle.std.proofs.Common.{sym, ◌∙◌}
use Rattle.plcr_macho.proofs.Framed.{standing_is}
use Rattle.plcr_macho.proofs.standing.standing_at.Goals as goal

pub returns : goal.returns
returns c =
    let standing = standing_is c.args.source.now.memory.now c.args.source.now.start c.args.end c.args.index c.args.at c.address.result c.in_ok-said.said (sym c.in_ok-said.was ∙ c.frame_at.ensures) c.address.ensures in
    record { frame = standing.frame; stands = standing.stands; least = standing.least; within = standing.within }
