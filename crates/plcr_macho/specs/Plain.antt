-- What contracts see of a plain list of images.
use Rattle.std.specs.Prelude.{ℕ, List, length, Option, None}
use Rattle.plcr_macho.specs.declared.list.PlainImage.{PlainImage}
use Rattle.plcr_macho.specs.declared.spot.Spot.{Spot}
use Rattle.plcr_macho.specs.Images.{Listed, all_listed}
use Rattle.plcr_macho.specs.Index.{Extent}
use Rattle.plcr_macho.specs.Spots.{index_in}

-- its images, and its index or none
pub record PlainList : Type 0 where
  pub images : List Listed
  pub extents : Option (List Extent)

abbrev pub plain_list : List PlainImage → List Spot → Option ℕ → PlainList
plain_list images room filled =
    record { images = all_listed images; extents = index_in (length images) room filled }

-- a list of these images without an index
abbrev pub unindexed : List PlainImage → PlainList
unindexed images = record { images = all_listed images; extents = None }
