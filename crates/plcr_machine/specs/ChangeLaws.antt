-- What ties histories to their changes, walks to later and named lists, and entries to those who
-- made them. Each of these is the contract of a function of the crate.
use Rattle.std.specs.Prelude.{◌≡◌, ◌↔◌, ℕ, ◌+◌, ◌<◌, ◌≤◌, List, ◌∷◌, ◌++◌, length, IsTrue, IsFalse, Contains}
use Rattle.std.specs.Option.{option_map}
use Rattle.plcr_machine.specs.declared.image.Image.{Image}
use Rattle.plcr_machine.specs.declared.entry.Entry.{Entry}
use Rattle.plcr_machine.specs.declared.change.Named.{Named}
use Rattle.plcr_machine.specs.declared.change.Change.{Change}
use Rattle.plcr_machine.specs.declared.entry.Entry.TheVariants.{Enter, Look}
use Rattle.plcr_machine.specs.Lists.{Grows, load_number, live, changes, loads, unloads, list_after}
use Rattle.plcr_machine.specs.Walks.{RisesAbove, follow, Meets, IsWholeWalk, IsLawfulWalk}
use Rattle.plcr_machine.specs.Passes.{is_inside, is_announced, counts}
use Rattle.plcr_machine.specs.Nodes.{is_free, free_count, waiting_count}
use Rattle.plcr_machine.specs.Histories.{IsLegal, IsHistory}
use Rattle.plcr_machine.specs.Parts.{own_entries, owner_entries, total}
use Rattle.plcr_machine.specs.Holds.{before_enter}
use Rattle.plcr_machine.specs.Changes.{load_of, named, all_named, TakesFirst, changes_of, list_after_changes}

-- the changes of a history leave the lists of its images, with their names
abbrev pub ChangesLeaveTheLists : Type 0
ChangesLeaveTheLists = (nodes passes : ℕ) (names : List (List ℕ)) (history : List Entry) →
    IsLegal nodes passes history → TakesFirst history
    → (length (changes_of names history) ≡ changes history)
    × ((j : ℕ) → list_after_changes (changes_of names history) j
    ≡ all_named names (list_after history j))

-- whether each unload took the first image with its header is told by the writer's entries, so it
-- stays where others come between
abbrev pub WriterTakesFirst : Type 0
WriterTakesFirst = (past history : List Entry) → owner_entries history ≡ owner_entries past →
    TakesFirst past → TakesFirst history

-- images are unloaded once, and each that was loaded and not unloaded is in the list
abbrev pub UnloadsAreLoads : Type 0
UnloadsAreLoads = (nodes passes : ℕ) (history : List Entry) → IsLegal nodes passes history →
    (length (live history) + unloads history ≡ loads history)
    × (loads history + unloads history ≡ changes history)

-- each node is in the list, free or waiting, and no more wait than were unloaded
abbrev pub NodesAreCounted : Type 0
NodesAreCounted = (nodes passes : ℕ) (history : List Entry) → IsLegal nodes passes history
    → (length (live history) + free_count nodes passes history + waiting_count nodes passes history
    ≡ nodes) × (waiting_count nodes passes history ≤ unloads history)

-- so no node is free exactly where the list and the waiting nodes are all nodes
abbrev pub NoneIsFree : Type 0
NoneIsFree = (nodes passes : ℕ) (history : List Entry) → IsLegal nodes passes history
    → ((node : ℕ) → 0 < node → node ≤ nodes → IsFalse (is_free passes node history)) ↔
    (length (live history) + waiting_count nodes passes history ≡ nodes)

-- as a history goes on, it has no fewer changes, counts and loads
abbrev pub NumbersGrow : Type 0
NumbersGrow = (past history : List Entry) → Grows past history → (changes past ≤ changes history)
    × (counts past ≤ counts history) × (loads past ≤ loads history)

-- each entry is the writer's or that of one pass
abbrev pub EachEntryHasOneMaker : Type 0
EachEntryHasOneMaker = (nodes passes : ℕ) (history : List Entry) → IsLegal nodes passes history
    → length history ≡ length (owner_entries history)
    + total (λ pass. length (own_entries pass history)) passes

-- so a history in which neither the writer nor a pass has more entries than before is the same
abbrev pub NothingElse : Type 0
NothingElse = (nodes passes : ℕ) (past history : List Entry) → IsLegal nodes passes history →
    Grows past history → owner_entries history ≡ owner_entries past
    → ((pass : ℕ) → pass < passes → own_entries pass history ≡ own_entries pass past) →
    history ≡ past

-- where a pass, or the writer, has at the end of a history no more entries than at an earlier
-- moment, it had no more at any moment between
abbrev pub PartsBetween : Type 0
PartsBetween = (early between late : List Entry) → Grows early between → Grows between late
    → ((pass : ℕ) → own_entries pass late ≡ own_entries pass early →
    own_entries pass between ≡ own_entries pass early)
    × (owner_entries late ≡ owner_entries early → owner_entries between ≡ owner_entries early)

-- a look at a pass that was out finds no stamp, as long as the pass made no more entries
abbrev pub MetFindsNobody : Type 0
MetFindsNobody = (nodes passes pass stamp : ℕ) (met past : List Entry) →
    IsFalse (is_announced pass met) → own_entries pass past ≡ own_entries pass met
    → IsFalse (is_announced pass past) × (IsLegal nodes passes (Look pass stamp ∷ past) → stamp ≡ 0)

-- what was before a pass went in stays so as long as the pass makes no more entries
abbrev pub BeforeEnterStays : Type 0
BeforeEnterStays = (pass : ℕ) (past history : List Entry) → Grows past history →
    own_entries pass history ≡ own_entries pass past →
    before_enter pass history ≡ before_enter pass past

-- and while the pass is inside, its enter stands right after it
abbrev pub BeforeEnterIsEntered : Type 0
BeforeEnterIsEntered = (pass : ℕ) (history : List Entry) → IsTrue (is_inside pass history) →
    Grows (Enter pass ∷ before_enter pass history) history

-- a walk that has ended stays one that has ended as the history goes on, and a lawful walk stays
-- lawful
abbrev pub EndedWalksStay : Type 0
EndedWalksStay = (past history : List Entry) (a b : ℕ) (met : List Image) → Grows past history →
    b ≤ changes past
    → (IsWholeWalk load_number (list_after past) a b met →
    IsWholeWalk load_number (list_after history) a b met)
    × (IsLawfulWalk load_number (list_after past) a b met →
    IsLawfulWalk load_number (list_after history) a b met)

-- a lawful walk is lawful between an earlier list and a later one, whatever the lists are of
abbrev pub LawfulWhenWider : {A : Type 0} (number : A → ℕ) → Type 0
LawfulWhenWider {A = A} number = (lists : ℕ → List A) (a b c d : ℕ) (met : List A) → c ≤ a → a ≤ b →
    b ≤ d → IsLawfulWalk number lists a b met → IsLawfulWalk number lists c d met

-- as a history goes on, with the names of its loads, the changes that it had stay
abbrev pub ChangesStay : Type 0
ChangesStay = (nodes passes : ℕ) (past history : List Entry) (names : List (List ℕ))
    (more : List (List ℕ)) → IsHistory nodes passes past names → Grows past history
    → (added : List Change) × (changes_of (more ++ names) history ≡ added ++ changes_of names past)

-- what a walk has met that has not ended yet: the numbers rise, and each image was in one of the
-- lists so far
abbrev pub MetWereListed : Type 0
MetWereListed = (nodes passes : ℕ) (history : List Entry) (a b : ℕ) (met : List Image) →
    IsLegal nodes passes history → Meets load_number (list_after history) 0 a b met
    → RisesAbove load_number 0 met × ((image : Image) → Contains met image →
    (j : ℕ) × (a ≤ j) × (j ≤ b) × Contains (list_after history j) image)

-- what a walk has met it has met in longer histories too, and up to any later number of changes
abbrev pub MeetingsStay : Type 0
MeetingsStay = (past history : List Entry) (a b c : ℕ) (met : List Image) → Grows past history →
    b ≤ changes past → b ≤ c
    → Meets load_number (list_after past) 0 a b met →
    Meets load_number (list_after history) 0 a c met

-- and so it was by headers and names
abbrev pub MetWereNamed : Type 0
MetWereNamed = (nodes passes : ℕ) (names : List (List ℕ)) (history : List Entry) (a b : ℕ)
    (met : List Image) → IsLegal nodes passes history → TakesFirst history
    → Meets load_number (list_after history) 0 a b met
    → Meets load_of (list_after_changes (changes_of names history)) 0 a b (all_named names met)
    × RisesAbove load_of 0 (all_named names met)
    × ((image : Named) → Contains (all_named names met) image → (j : ℕ) × (a ≤ j) × (j ≤ b)
    × Contains (list_after_changes (changes_of names history) j) image)

-- what follows an image is the same by nodes and by names
abbrev pub FollowWithoutNodes : Type 0
FollowWithoutNodes = (nodes passes : ℕ) (names : List (List ℕ)) (history : List Entry) →
    IsLegal nodes passes history → TakesFirst history
    → (i j : ℕ) → follow load_of (list_after_changes (changes_of names history)) i j
    ≡ option_map (named names) (follow load_number (list_after history) i j)

-- a walk of a history that has ended is lawful in the lists of its changes
abbrev pub EndedWalkOfChangesIsLawful : Type 0
EndedWalkOfChangesIsLawful = (nodes passes : ℕ) (names : List (List ℕ)) (history : List Entry) →
    IsLegal nodes passes history → TakesFirst history → (a b : ℕ) (met : List Image)
    → IsWholeWalk load_number (list_after history) a b met
    → IsWholeWalk load_of (list_after_changes (changes_of names history)) a b (all_named names met)
    × IsLawfulWalk load_of (list_after_changes (changes_of names history)) a b
    (all_named names met)
