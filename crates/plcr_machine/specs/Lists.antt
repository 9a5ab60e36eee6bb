-- The list of images that a history of loads and unloads leaves.
-- A history is a list of entries with the newest first, so what came before an entry is the rest of
-- the list, and a prefix of a history is a tail. The names of the loads stand in a second list,
-- newest first too.
use Rattle.std.specs.Prelude.{◌≡◌, ℕ, suc, List, [], ◌∷◌, ◌++◌, length, Bool, false, nat_le, ◌==◌, ◌||◌, if◌then◌else◌}
use Rattle.plcr_machine.specs.declared.image.Image.{Image}
use Rattle.plcr_machine.specs.declared.entry.Entry.{Entry}
use Rattle.plcr_machine.specs.declared.entry.Entry.TheVariants.{Load, Unload}

-- the history went on: the past is a prefix of it
abbrev pub Grows : List Entry → List Entry → Type 0
Grows past history = (added : List Entry) × (history ≡ added ++ past)

-- the number of an image's load
abbrev pub load_number : Image → ℕ
load_number image = image.load

-- whether an image of the list stands on a node
abbrev pub has : ℕ → List Image → Bool
has node [] = false
has node (image ∷ images) = (image.node == node) || has node images

-- the list with no image on a node
abbrev pub without : ℕ → List Image → List Image
without node [] = []
without node (image ∷ images) = if image.node == node then without node images
    else image ∷ without node images

-- the list that a history leaves: a load puts its image at the end, an unload takes the one on its
-- node
abbrev pub live : List Entry → List Image
live [] = []
live (Load node load header ∷ past) =
    live past ++ record { node = node; load = load; header = header } ∷ []
live (Unload node ∷ past) = without node (live past)
live (_ ∷ past) = live past

-- the image loaded last on a node; all 0 where none was
abbrev pub loaded : ℕ → List Entry → Image
loaded node [] = record { node = 0; load = 0; header = 0 }
loaded node (Load n load header ∷ past) =
    if n == node then record { node = n; load = load; header = header } else loaded node past
loaded node (_ ∷ past) = loaded node past

-- how many changes of the list a history has: its loads and unloads
abbrev pub changes : List Entry → ℕ
changes [] = 0
changes (Load _ _ _ ∷ past) = suc (changes past)
changes (Unload _ ∷ past) = suc (changes past)
changes (_ ∷ past) = changes past

-- how many loads a history has
abbrev pub loads : List Entry → ℕ
loads [] = 0
loads (Load _ _ _ ∷ past) = suc (loads past)
loads (_ ∷ past) = loads past

-- how many unloads a history has
abbrev pub unloads : List Entry → ℕ
unloads [] = 0
unloads (Unload _ ∷ past) = suc (unloads past)
unloads (_ ∷ past) = unloads past

-- the list after a number of changes, or after all where there are fewer
abbrev pub list_after : List Entry → ℕ → List Image
list_after [] j = []
list_after (entry ∷ past) j = if nat_le (changes (entry ∷ past)) j then live (entry ∷ past)
    else list_after past j

-- the name of a load, from the names of all loads, newest first; empty where there is no such load
abbrev pub name_of : ℕ → List (List ℕ) → List ℕ
name_of load [] = []
name_of load (name ∷ names) = if load == suc (length names) then name else name_of load names
