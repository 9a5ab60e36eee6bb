-- Where links lead. A place is a node, or 0, the head, which stands before the list; as the end of
-- a link 0 is the end. The newest entry stands first.
use Rattle.std.specs.Prelude.{ℕ, zero, suc, List, [], ◌∷◌, ◌==◌, ◌||◌, if◌then◌else◌, IsTrue, Option, Some, None}
use Rattle.plcr_machine.specs.declared.image.Image.{Image}
use Rattle.plcr_machine.specs.declared.entry.Entry.{Entry}
use Rattle.plcr_machine.specs.Lists.{has, live, loaded}

-- the node right after one place, where another place stands before the list; 0 at the end
abbrev pub after : ℕ → ℕ → List Image → ℕ
after place node [] = 0
after place node (image ∷ images) = if place == node then image.node
    else after image.node node images

-- the last place of a list that stands after a place
abbrev pub last_place : ℕ → List Image → ℕ
last_place place [] = place
last_place place (image ∷ images) = last_place image.node images

-- the head, or a node of the list
abbrev pub IsPlace : ℕ → List Entry → Type 0
IsPlace node history = IsTrue ((node == 0) || has node (live history))

-- where the link of a place leads: to its follower in the last list that had it. The head is in
-- each list
abbrev pub link_of : ℕ → List Entry → ℕ
link_of node [] = 0
link_of node (entry ∷ past) = if (node == 0) || has node (live (entry ∷ past))
    then after 0 node (live (entry ∷ past)) else link_of node past

-- the image loaded last on the node that a link leads to; none at the end
abbrev pub image_at : ℕ → List Entry → Option Image
image_at zero history = None
image_at (suc node) history = Some (loaded (suc node) history)
