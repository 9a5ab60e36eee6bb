use Rattle.std.proofs.Common.{◌∙◌, List, take, ap}
use Rattle.plcr_macho.specs.declared.spot.Spot.{Spot}
use Rattle.plcr_macho.specs.Index.{least_over, ordered_from}
use Rattle.plcr_macho.specs.Spots.{extents_of}
use Rattle.plcr_macho.proofs.Least.{least_again}
use Rattle.plcr_imagelist.specs.Holds.{HoldState}
use Rattle.plcr_imagelist.proofs.hold.Hold.place_of.Goals as goal

pub returns : goal.returns
returns c =
    let h = c.self.inside in
    c.locate_in.ensures ∙ ap (λ (xs : List Spot). least_over (extents_of (take h.filled xs)) c.args.address) c.as_slice.ensures.value
    ∙ least_again c.args.address (extents_of (take h.filled h.spots.items)) (ordered_from 0 h.count (extents_of (take h.filled h.spots.items))) c.self.invariant.3.whole
    ∙ ap (λ (s : HoldState). least_over s.extents c.args.address) c.self.view_is
