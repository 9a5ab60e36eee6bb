-- The index of the images that a hold has met, and what making it leaves of the hold.
use Rattle.std.specs.Prelude.{ℕ, Bool, List, [], take}
use Rattle.plcr_macho.specs.declared.spot.Spot.{Spot}
use Rattle.plcr_macho.specs.Images.{Listed}
use Rattle.plcr_macho.specs.Index.{Extent, ordered_from}
use Rattle.plcr_macho.specs.Spots.{extents_of}
use Rattle.plcr_nodes.specs.Tokens.{PassState}
use Rattle.plcr_imagelist.specs.Holds.{HoldState}
use Rattle.plcr_imagelist.specs.inner.Holding.{walker_state, images_on, IsHolding}
use Rattle.plcr_imagelist.specs.Walk.{all_named, IsSameWalk}

-- the index of a list of so many images that lies in the first spots of a room
abbrev pub extents_in : ℕ → List Spot → ℕ → List Extent
extents_in count room filled = ordered_from 0 count (extents_of (take filled room))

-- the images on the nodes that a pass has met
abbrev pub met_on : PassState → List ℕ → List Listed
met_on pass met = all_named pass.names (images_on met pass.history)

-- the nodes are those of a hold of the pass
pub record AreHeld (pass : PassState) (met : List ℕ) : Type 0 where
  pub ended : Bool
  pub low : ℕ
  pub holding : IsHolding pass met ended low

-- what a hold of the pass was, it still is
abbrev pub hold_of : PassState → List ℕ → Bool → HoldState
hold_of pass met ended =
    record {
      walker = walker_state pass;
      met = images_on met pass.history;
      ended = ended;
      extents = [];
    }

abbrev pub StaysHeld : PassState → List ℕ → PassState → Type 0
StaysHeld old met new = (ended : Bool) (low : ℕ) → IsHolding old met ended low →
    IsHolding new met ended low × IsSameWalk (hold_of old met ended) (hold_of new met ended)
