-- What legal histories imply. Each of these is the contract of a function of the crate.
use Rattle.std.specs.Prelude.{◌≡◌, ◌≢◌, ◌⊎◌, ℕ, suc, ◌<◌, ◌≤◌, List, ◌∷◌, length, IsTrue, IsFalse, ◌==◌, if◌then◌else◌}
use Rattle.plcr_machine.specs.declared.image.Image.{Image}
use Rattle.plcr_machine.specs.declared.entry.Entry.{Entry}
use Rattle.plcr_machine.specs.declared.entry.Entry.TheVariants.{Load, Unload}
use Rattle.plcr_machine.specs.declared.limits.TheConstants.{MOST_CHANGES}
use Rattle.plcr_machine.specs.Lists.{Grows, load_number, has, live, loaded, changes, list_after}
use Rattle.plcr_machine.specs.Parts.{change_entries}
use Rattle.plcr_machine.specs.Walks.{RisesAbove, follow, IsWholeWalk, IsLawfulWalk}
use Rattle.plcr_machine.specs.Passes.{is_inside, is_announced, stamp_of, announced_count, counts, owes_count, IsPaced}
use Rattle.plcr_machine.specs.Nodes.{is_removed, is_free, is_found_out, unloaded_at}
use Rattle.plcr_machine.specs.Histories.{IsLegal}
use Rattle.plcr_machine.specs.Holds.{may_reach, IsKept}
use Rattle.plcr_machine.specs.Links.{link_of, image_at, last_place, IsPlace}

-- in a legal history no node is loaded that a pass may still reach
abbrev pub LegalIsKept : Type 0
LegalIsKept = (nodes passes : ℕ) (history : List Entry) → IsLegal nodes passes history →
    IsKept history

-- what a pass may still reach is not free
abbrev pub ReachIsBusy : Type 0
ReachIsBusy = (nodes passes pass node : ℕ) (history : List Entry) → IsLegal nodes passes history →
    IsTrue (may_reach pass node history) → IsFalse (is_free passes node history)

-- of two removed nodes, where the one unloaded later is free, the other is free too
abbrev pub FreedInOrder : Type 0
FreedInOrder = (nodes passes earlier later : ℕ) (history : List Entry) →
    IsLegal nodes passes history → IsTrue (is_removed earlier history) →
    IsTrue (is_removed later history)
    → unloaded_at earlier history ≤ unloaded_at later history →
    IsTrue (is_free passes later history) → IsTrue (is_free passes earlier history)

-- a walk that came to its end is lawful, through any lists along which the load numbers rise
abbrev pub EndedWalkIsLawful : Type 0
EndedWalkIsLawful = (lists : ℕ → List Image) → ((j : ℕ) → RisesAbove load_number 0 (lists j)) →
    (a b : ℕ) (met : List Image)
    → IsWholeWalk load_number lists a b met → IsLawfulWalk load_number lists a b met

-- and so through the lists of a legal history
abbrev pub EndedWalkOfHistoryIsLawful : Type 0
EndedWalkOfHistoryIsLawful = (nodes passes : ℕ) (history : List Entry) →
    IsLegal nodes passes history → (a b : ℕ) (met : List Image)
    → IsWholeWalk load_number (list_after history) a b met →
    IsLawfulWalk load_number (list_after history) a b met

-- in a paced history each prefix has as many changes as counts, or one more
abbrev pub PacedPrefixes : Type 0
PacedPrefixes = (past history : List Entry) → IsPaced history → Grows past history →
    (changes past ≡ counts past) ⊎ (changes past ≡ suc (counts past))

-- and where no change is left to be counted, as many changes as counts
abbrev pub RestIsCounted : Type 0
RestIsCounted = (history : List Entry) → IsPaced history → IsFalse (owes_count history) →
    changes history ≡ counts history

-- where since the last change each pass was found with no stamp and no node is free, all nodes are
-- in the list
abbrev pub FullWhenNoneIsFree : Type 0
FullWhenNoneIsFree = (nodes passes : ℕ) (history : List Entry) →
    ((pass : ℕ) → pass < passes → IsTrue (is_found_out pass history))
    → ((node : ℕ) → 0 < node → node ≤ nodes → IsFalse (is_free passes node history))
    → (node : ℕ) → 0 < node → node ≤ nodes → IsTrue (has node (live history))

-- and in a legal history the list is then as long as there are nodes
abbrev pub FullIsAsLong : Type 0
FullIsAsLong = (nodes passes : ℕ) (history : List Entry) → IsLegal nodes passes history →
    ((pass : ℕ) → pass < passes → IsTrue (is_found_out pass history))
    → ((node : ℕ) → 0 < node → node ≤ nodes → IsFalse (is_free passes node history)) →
    length (live history) ≡ nodes

-- the link of a removed node that is not free leads to the end, or to a node that is not free
-- and is in the list or was unloaded no earlier
abbrev pub StaleLinksLeadOn : Type 0
StaleLinksLeadOn = (nodes passes node : ℕ) (history : List Entry) → IsLegal nodes passes history →
    IsTrue (is_removed node history) → IsFalse (is_free passes node history)
    → link_of node history ≢ 0
    → IsFalse (is_free passes (link_of node history) history)
    × (IsTrue (has (link_of node history) (live history))
    ⊎ (IsTrue (is_removed (link_of node history) history)
    × (unloaded_at node history ≤ unloaded_at (link_of node history) history)))

-- where a pass may reach a node, or is inside and begins at the head, it may reach what the link
-- leads to
abbrev pub LinksStayInReach : Type 0
LinksStayInReach = (pass node : ℕ) (history : List Entry) →
    (IsTrue (may_reach pass node history) ⊎ (IsTrue (is_inside pass history) × (node ≡ 0)))
    → link_of node history ≢ 0 → IsTrue (may_reach pass (link_of node history) history)

-- the link of a node that is not free leads to the image that follows the one loaded last on it,
-- and the head's link to the first
abbrev pub LinksFollow : Type 0
LinksFollow = (nodes passes : ℕ) (history : List Entry) → IsLegal nodes passes history
    → ((node : ℕ) → IsFalse (is_free passes node history) →
    follow load_number (list_after history) (loaded node history).load (changes history)
    ≡ image_at (link_of node history) history)
    × (follow load_number (list_after history) 0 (changes history)
    ≡ image_at (link_of 0 history) history)

-- a load changes the link of the last place alone, which then leads to the new node, and the new
-- node's, which is the end
abbrev pub LoadChangesOneLink : Type 0
LoadChangesOneLink = (nodes passes node load header : ℕ) (past : List Entry) →
    IsLegal nodes passes (Load node load header ∷ past)
    → (link_of node (Load node load header ∷ past) ≡ 0)
    × ((place : ℕ) → place ≢ node → link_of place (Load node load header ∷ past)
    ≡ (if last_place 0 (live past) == place then node else link_of place past))

-- an unload changes the link of the place before the node alone, which then leads to where the
-- node's link leads
abbrev pub UnloadChangesOneLink : Type 0
UnloadChangesOneLink = (nodes passes node before : ℕ) (past : List Entry) →
    IsLegal nodes passes (Unload node ∷ past) → IsPlace before past → link_of before past ≡ node
    → (link_of before (Unload node ∷ past) ≡ link_of node past)
    × ((place : ℕ) → place ≢ before → link_of place (Unload node ∷ past) ≡ link_of place past)

-- a pass that is inside is announced, and so its number is one of the passes'
abbrev pub InsideIsAnnounced : Type 0
InsideIsAnnounced = (nodes passes pass : ℕ) (history : List Entry) → IsLegal nodes passes history →
    IsTrue (is_inside pass history)
    → IsTrue (is_announced pass history) × (pass < passes)

-- counts and stamps stay in their words: no more changes are counted than may be, no pass announces
-- more counts than there are, and no more passes are announced than there are
abbrev pub CountsAreFew : Type 0
CountsAreFew = (nodes passes pass : ℕ) (history : List Entry) → IsLegal nodes passes history →
    (counts history ≤ MOST_CHANGES) × (stamp_of pass history ≤ suc (counts history))
    × (announced_count passes history ≤ passes)

-- as a history goes on, the list after each number of changes that it has had stays
abbrev pub ListsStay : Type 0
ListsStay = (past history : List Entry) (j : ℕ) → Grows past history → j ≤ changes past →
    list_after history j ≡ list_after past j

-- a history has as many changes as loads and unloads, and they alone make its list
abbrev pub ChangesMakeTheList : Type 0
ChangesMakeTheList = (history : List Entry) → (length (change_entries history) ≡ changes history)
    × (live (change_entries history) ≡ live history)
