-- How the tokens of a script end.
use Rattle.std.specs.Prelude.{◌≡◌, ℕ, ◌<◌, true, List, None, nat_lt, if◌then◌else◌}
use Rattle.plcr_machine.specs.Lists.{Grows}
use Rattle.plcr_machine.specs.Parts.{own_entries, owner_entries}
use Rattle.plcr_machine.specs.Events.{events_of}
use Rattle.plcr_nodes.specs.Entries.{among, WentOn}
use Rattle.plcr_imagelist.specs.States.{WriterState}
use Rattle.plcr_imagelist.specs.Listing.{HasLists}
use Rattle.plcr_script.specs.RunStates as states
use Rattle.plcr_script.specs.RunStates.{State, all_left, finished, ended}
use Rattle.plcr_run.specs.declared.slots.Slot.{Slot}
use Rattle.plcr_run.specs.declared.writing.Writing.{Writing}
use Rattle.plcr_run.specs.inner.Slots.{slot_at, IsOutAt}
use Rattle.plcr_run.specs.inner.Tokens.{writer_of, seen_in, IsAll, StateIs}

-- the passes below a number came out
abbrev pub left_below : ℕ → State → State
left_below count state =
    record state {
      events = all_left count state.places state.events;
      places = λ pass. if nat_lt pass count then states.Out else state.places pass;
    }

-- the change that was open was made to its end
abbrev pub finished_state : State → State
finished_state state = record state { events = finished state.opened state.events; opened = None }

-- the passes of the first slots are out
abbrev pub AreOut : ℕ → List Slot → Type 0
AreOut count slots = (k : ℕ) → k < count → IsOutAt slots k

-- the writer met the passes of the slots from a number on: it has seen of each just what that had
-- seen
pub record HasMet (old : WriterState) (slots : List Slot) (met : ℕ →
    Type 0) (new : WriterState) : Type 0 where
  pub nodes : new.nodes ≡ old.nodes
  pub passes : new.passes ≡ old.passes
  pub lists : HasLists new
  pub grows : Grows old.history new.history
  pub went : WentOn old.names new.names
  pub owner : owner_entries new.history ≡ owner_entries old.history
  pub joined : (k : ℕ) → met k → among k new.joined ≡ true
  pub own : (k : ℕ) → met k → own_entries k new.history ≡ own_entries k (seen_in (slot_at slots k))

-- at the end the writer has met each pass, had seen all that it did, and its history is what the
-- state of the run comes to
pub record EndsIn (writing : Writing) (slots : List Slot) (writer : WriterState) : Type 0 where
  pub nodes : writer.nodes ≡ (writer_of writing).nodes
  pub passes : writer.passes ≡ (writer_of writing).passes
  pub lists : HasLists writer
  pub joined : (k : ℕ) → k < writer.passes → among k writer.joined ≡ true
  pub all : IsAll writing slots
  pub events : (state : State) → StateIs writing slots state →
      events_of writer.names writer.history ≡ ended writer.passes state
