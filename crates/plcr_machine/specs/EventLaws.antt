-- What the events of a history tell of it. Each of these is the contract of a function of the
-- crate.
use Rattle.std.specs.Prelude.{◌≡◌, ℕ, suc, List, ◌∷◌, length}
use Rattle.plcr_machine.specs.declared.entry.Entry.{Entry}
use Rattle.plcr_machine.specs.declared.entry.Entry.TheVariants.{Load}
use Rattle.plcr_machine.specs.declared.change.Change.TheVariants.{Loads}
use Rattle.plcr_machine.specs.Lists.{loads}
use Rattle.plcr_machine.specs.Passes.{is_inside, is_announced, seen_by, stamp_of, counts}
use Rattle.plcr_machine.specs.Nodes.{waiting_count}
use Rattle.plcr_machine.specs.Histories.{IsLegal}
use Rattle.plcr_machine.specs.Holds.{before_enter}
use Rattle.plcr_machine.specs.Changes.{changes_of}
use Rattle.plcr_machine.specs.Events.{Changed, events_of, changes_in, noted_in, held, looked_at, looks}

-- events have the changes of the history, and tell its counts and stamps, who is inside, and what
-- was counted before
abbrev pub EventsTell : Type 0
EventsTell = (names : List (List ℕ)) (history : List Entry)
    → (changes_in (events_of names history) ≡ changes_of names history)
    × (counts (noted_in (events_of names history)) ≡ counts history)
    × ((pass : ℕ) → (stamp_of pass (noted_in (events_of names history)) ≡ stamp_of pass history)
    × (is_announced pass (noted_in (events_of names history)) ≡ is_announced pass history)
    × (seen_by pass (noted_in (events_of names history)) ≡ seen_by pass history)
    × (is_inside pass (noted_in (events_of names history)) ≡ is_inside pass history)
    × (before_enter pass (noted_in (events_of names history))
    ≡ noted_in (events_of names (before_enter pass history))))

-- the unloads that are held back are as many as the nodes that wait
abbrev pub HeldIsWaiting : Type 0
HeldIsWaiting = (nodes passes : ℕ) (names : List (List ℕ)) (history : List Entry) →
    IsLegal nodes passes history →
    held passes (events_of names history) ≡ waiting_count nodes passes history

-- a new name changes no event, and a load with it adds the image of that name
abbrev pub EventsOfALoad : Type 0
EventsOfALoad = (nodes passes node header : ℕ) (name : List ℕ) (names : List (List ℕ))
    (past : List Entry) → IsLegal nodes passes past → length names ≡ loads past
    → (events_of (name ∷ names) past ≡ events_of names past)
    × (events_of (name ∷ names) (Load node (suc (loads past)) header ∷ past)
    ≡ Changed (Loads (record { load = suc (loads past); header = header; name = name }))
    ∷ events_of names past)

-- a look at each pass adds the same looks to the events
abbrev pub EventsOfLooks : Type 0
EventsOfLooks = (passes : ℕ) (names : List (List ℕ)) (history : List Entry) →
    events_of names (looked_at passes history) ≡ looks passes (events_of names history)
