-- What happened to an image list, without the nodes: which free node a load takes is open, and
-- nothing that a reader or a writer is told depends on it. The newest event stands first.
use Rattle.std.specs.Prelude.{◌≡◌, ℕ, zero, suc, ◌+◌, List, [], ◌∷◌, Bool, false, ◌==◌, ◌||◌, ◌&&◌, if◌then◌else◌}
use Rattle.plcr_machine.specs.declared.entry.Entry.{Entry}
use Rattle.plcr_machine.specs.declared.entry.Entry.TheVariants.{Load, Unload, Look}
use Rattle.plcr_machine.specs.declared.change.Change.{Change}
use Rattle.plcr_machine.specs.declared.change.Change.TheVariants.{Loads, Unloads}
use Rattle.plcr_machine.specs.Lists.{live, name_of}
use Rattle.plcr_machine.specs.Passes.{all_under, counts, stamp_of}
use Rattle.plcr_machine.specs.Nodes.{lets_go}
use Rattle.plcr_machine.specs.Histories.{IsHistory}
use Rattle.plcr_machine.specs.Changes.{TakesFirst, header_at}

-- a change, or an entry that changes nothing of the list
pub data Event : Type 0 where
  Changed : (change : Change) → Event
  Noted : (entry : Entry) → Event

-- the events of a history, with the names of all its loads
abbrev pub events_of : List (List ℕ) → List Entry → List Event
events_of names [] = []
events_of names (Load node load header ∷ past) =
    Changed (Loads (record { load = load; header = header; name = name_of load names }))
    ∷ events_of names past
events_of names (Unload node ∷ past) =
    Changed (Unloads (header_at node (live past))) ∷ events_of names past
events_of names (entry ∷ past) = Noted entry ∷ events_of names past

-- the changes among events, and the other entries
abbrev pub changes_in : List Event → List Change
changes_in [] = []
changes_in (Changed change ∷ past) = change ∷ changes_in past
changes_in (Noted entry ∷ past) = changes_in past

abbrev pub noted_in : List Event → List Entry
noted_in [] = []
noted_in (Changed change ∷ past) = noted_in past
noted_in (Noted entry ∷ past) = entry ∷ noted_in past

-- whether one of some entries is a look at a pass that lets go of what was unloaded after so many
-- counts
abbrev pub is_looked : ℕ → ℕ → List Entry → Bool
is_looked pass before [] = false
is_looked pass before (Look p stamp ∷ entries) = ((p == pass) && lets_go before stamp)
    || is_looked pass before entries
is_looked pass before (_ ∷ entries) = is_looked pass before entries

-- how many unloads are held back by a pass, where these entries came later
abbrev pub held_in : ℕ → List Entry → List Event → ℕ
held_in passes later [] = 0
held_in passes later (Changed (Loads image) ∷ past) = held_in passes later past
held_in passes later (Changed (Unloads header) ∷ past) =
    (if all_under (λ pass. is_looked pass (counts (noted_in past)) later) passes then 0 else 1)
    + held_in passes later past
held_in passes later (Noted entry ∷ past) = held_in passes (entry ∷ later) past

-- how many unloads are held back: some pass has not let go of them
abbrev pub held : ℕ → List Event → ℕ
held passes events = held_in passes [] events

-- one look at each of the first passes, in rising order, each of which finds the stamp that the
-- pass has
abbrev pub looked_at : ℕ → List Entry → List Entry
looked_at zero history = history
looked_at (suc pass) history =
    Look pass (stamp_of pass (looked_at pass history)) ∷ looked_at pass history

abbrev pub looks : ℕ → List Event → List Event
looks zero events = events
looks (suc pass) events = Noted (Look pass (stamp_of pass (noted_in (looks pass events))))
    ∷ looks pass events

-- a legal history in which each unload takes the first image with its header, and whose events are
-- these
pub record HasEvents (nodes passes : ℕ) (events : List Event) (history : List Entry)
    (names : List (List ℕ)) : Type 0 where
  pub are : events_of names history ≡ events
  pub legal : IsHistory nodes passes history names
  pub first : TakesFirst history
