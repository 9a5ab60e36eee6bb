-- The images that a hold has met, as a list with their names.
use Rattle.std.specs.Prelude.{◌≡◌, ℕ, false, List, [], ◌∷◌}
use Rattle.plcr_machine.specs.declared.image.Image.{Image}
use Rattle.plcr_machine.specs.Lists.{name_of}
use Rattle.plcr_macho.specs.Images.{Listed}
use Rattle.plcr_nodes.specs.Entries.{WentOn}
use Rattle.plcr_nodes.specs.Seeing.{AddsOthers}
use Rattle.plcr_imagelist.specs.Holds.{HoldState, IsWalking, EndedAt}
use Rattle.plcr_machine.specs.Holds.{before_enter}

-- an image with the name of its load
abbrev pub with_name : List (List ℕ) → Image → Listed
with_name names image = record { header = image.header; name = name_of image.load names }

abbrev pub all_named : List (List ℕ) → List Image → List Listed
all_named names [] = []
all_named names (image ∷ images) = with_name names image ∷ all_named names images

-- the images met, each with its header and its name
abbrev pub images_of : HoldState → List Listed
images_of s = all_named s.walker.names s.met

-- the same walk of the same pass over the same list, with the same enter and the same images met,
-- ended or not as before and at the same change, after more that its pass saw, of which no entry is
-- its own
pub record IsSameWalk (old new : HoldState) : Type 0 where
  pub list : new.walker.table ≡ old.walker.table
  pub sizes : (new.walker.nodes ≡ old.walker.nodes) × (new.walker.passes ≡ old.walker.passes)
  pub pass : new.walker.number ≡ old.walker.number
  pub met : new.met ≡ old.met
  pub named : images_of new ≡ images_of old
  pub ended : new.ended ≡ old.ended
  pub enter : before_enter new.walker.number new.walker.history
      ≡ before_enter old.walker.number old.walker.history
  pub added : AddsOthers false (old.walker.number ∷ []) old.walker.history new.walker.history
  pub went : WentOn old.walker.names new.walker.names
  pub walking : IsWalking old → IsWalking new
  pub ends : (b : ℕ) → EndedAt old b → EndedAt new b
