-- The changes of an image list by headers and names, and the lists that they leave. No node is in
-- sight. The newest change stands first, and the names of all loads too.
use Rattle.std.specs.Prelude.{◌≡◌, ℕ, zero, suc, List, Vec, [], ◌∷◌, ◌++◌, length, map, nat_le, ◌==◌, if◌then◌else◌}
use Rattle.std.specs.Global.{Global}
use Rattle.plcr_machine.specs.declared.image.Image.{Image}
use Rattle.plcr_machine.specs.declared.entry.Entry.{Entry}
use Rattle.plcr_machine.specs.declared.entry.Entry.TheVariants.{Load, Unload}
use Rattle.plcr_machine.specs.declared.change.Named.{Named}
use Rattle.plcr_machine.specs.declared.change.Change.{Change}
use Rattle.plcr_machine.specs.declared.change.Change.TheVariants.{Loads, Unloads}
use Rattle.plcr_machine.specs.Lists.{live, name_of}

-- the number of a named image's load
abbrev pub load_of : Named → ℕ
load_of image = image.load

-- an image with its name, and all images of a list
abbrev pub named : List (List ℕ) → Image → Named
named names image = record {
  load = image.load;
  header = image.header;
  name = name_of image.load names;
}

abbrev pub all_named : List (List ℕ) → List Image → List Named
all_named names images = map (named names) images

-- the node of the first image of a list with a header; 0 where none has it
abbrev pub first_node : ℕ → List Image → ℕ
first_node header [] = 0
first_node header (image ∷ images) = if image.header == header then image.node
    else first_node header images

-- the header of the image on a node; 0 where none stands there
abbrev pub header_at : ℕ → List Image → ℕ
header_at node [] = 0
header_at node (image ∷ images) = if image.node == node then image.header else header_at node images

-- each unload took the first image of the list with its header
abbrev pub TakesFirst : List Entry → Type 0
TakesFirst [] = Unit {0}
TakesFirst (Unload node ∷ past) = (first_node (header_at node (live past)) (live past) ≡ node)
    × TakesFirst past
TakesFirst (_ ∷ past) = TakesFirst past

-- the changes of a history
abbrev pub changes_of : List (List ℕ) → List Entry → List Change
changes_of names [] = []
changes_of names (Load node load header ∷ past) =
    Loads (record { load = load; header = header; name = name_of load names })
    ∷ changes_of names past
changes_of names (Unload node ∷ past) = Unloads (header_at node (live past)) ∷ changes_of names past
changes_of names (_ ∷ past) = changes_of names past

-- a list without its first image with a header
abbrev pub without_first : ℕ → List Named → List Named
without_first header [] = []
without_first header (image ∷ images) = if image.header == header then images
    else image ∷ without_first header images

-- the list that changes leave: a load puts its image at the end, an unload takes the first image
-- with its header
abbrev pub list_of : List Change → List Named
list_of [] = []
list_of (Loads image ∷ past) = list_of past ++ image ∷ []
list_of (Unloads header ∷ past) = without_first header (list_of past)

-- the first j changes; all where there are fewer
abbrev pub first_changes : ℕ → List Change → List Change
first_changes j [] = []
first_changes j (change ∷ past) = if nat_le (suc (length past)) j then change ∷ past
    else first_changes j past

-- the list after j changes
abbrev pub list_after_changes : List Change → ℕ → List Named
list_after_changes changes j = list_of (first_changes j changes)

-- the list that stands at a place, where lists stand one after the other; the empty list past the
-- end
abbrev pub lists_at : List (Vec Named Global) → ℕ → List Named
lists_at [] j = []
lists_at (list ∷ lists) zero = list.items
lists_at (list ∷ lists) (suc j) = lists_at lists j
