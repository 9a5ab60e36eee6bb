use Rattle.std.proofs.Common.{◌∙◌, refl, arith}
use Rattle.std.proofs.Math.Seq.{map-set_same}
use Rattle.plcr_macho.specs.declared.spot.Spot.{Spot}
use Rattle.plcr_macho.specs.Spots.{extent_of}
use Rattle.plcr_macho.proofs.Reached.{reached_more}
use Rattle.plcr_macho.proofs.spots.set_reaches.Goals as goal

pub loop-i-preserved : goal.loop-i-preserved
loop-i-preserved c =
    let none : Spot = record { start = 0; size = 0; reach = 0; position = 0 } in
    let most = c.max-reach.ensures in
    let end = c.saturating_add.ensures in
    (map-set_same extent_of c.loop-i.spots c.loop-i.i _ none refl ∙ c.loop-i.invariant.0, reached_more c.loop-i.spots c.loop-i.i c.loop-i.reach _ none c.loop-i.invariant.1 (omega arith) refl (omega arith) (omega arith))
