-- The places that were computed hold what was read.
use Rattle.std.proofs.Common.{rules, arith}
use Rattle.plcr_wire.specs.Reading.{found_at}
use Rattle.plcr_wire.proofs.Places.{found_stands}
use Rattle.plcr_wire.proofs.reading.next_field.Goals as goal

pub returns-clause-stands : goal.returns-clause-stands
unfolding found_at
returns-clause-stands c = found_stands c.args.bytes.now c.args.at c.args.end _ (omega arith) c.requires.within (search rules)
