-- The tokens of a run, what they have seen of each other, and the state of a run that they stand
-- for.
use Rattle.std.specs.Prelude.{◌≡◌, ℕ, ◌+◌, ◌<◌, List, [], length, Option, Some, None}
use Rattle.atomic_table.specs.Seated.{TableId}
use Rattle.plcr_machine.specs.declared.entry.Entry.{Entry}
use Rattle.plcr_machine.specs.Lists.{Grows}
use Rattle.plcr_machine.specs.Parts.{own_entries}
use Rattle.plcr_machine.specs.Changes.{all_named}
use Rattle.plcr_machine.specs.Events.{events_of}
use Rattle.plcr_nodes.specs.Entries.{WentOn}
use Rattle.plcr_nodes.specs.Names.{words_of}
use Rattle.plcr_imagelist.specs.States.{WriterState, ChangeState, Doing, Loads, Unloads, IsAtRest, steps_of}
use Rattle.plcr_imagelist.specs.Listing.{HasLists, change_of}
use Rattle.plcr_imagelist.specs.Holds.{WalkerState, IsWalking}
use Rattle.plcr_script.specs.declared.outcomes.Outcome.{Outcome}
use Rattle.plcr_script.specs.RunStates as states
use Rattle.plcr_script.specs.RunStates.{Opened, Place, State, met_in, low_of, high_of}
use Rattle.plcr_script.specs.RunTurns.{Turn}
use Rattle.plcr_run.specs.declared.slots.Slot.{Slot}
use Rattle.plcr_run.specs.declared.slots.Slot.TheVariants.{Out, In, Away}
use Rattle.plcr_run.specs.declared.writing.Writing.{Writing}
use Rattle.plcr_run.specs.declared.writing.Writing.TheVariants.{Resting, Changing}
use Rattle.plcr_run.specs.inner.Slots.{slot_at}

-- what the writer knows, at rest or in an open change
abbrev pub writer_of : Writing → WriterState
writer_of (Resting writer) = writer
writer_of (Changing change) = change.writer

-- the same with a writer that knows this
abbrev pub with_writer : Writing → WriterState → Writing
with_writer (Resting old) writer = Resting writer
with_writer (Changing change) writer = Changing (record change { writer = writer })

-- the writer is at rest, or its change has steps left
abbrev pub IsGoing : Writing → Type 0
IsGoing (Resting writer) = IsAtRest writer
IsGoing (Changing change) = HasLists change.writer × (change.made < steps_of change.doing)

-- what the pass of a slot has seen
abbrev pub seen_in : Slot → List Entry
seen_in (Out pass) = pass.history
seen_in (In hold) = hold.walker.history
seen_in Away = []

-- a pass of the writer's list, with this number; the writer has seen what it has seen
pub record IsKnown (writer : WriterState) (k : ℕ) (pass : WalkerState) : Type 0 where
  pub table : pass.table ≡ writer.table
  pub nodes : pass.nodes ≡ writer.nodes
  pub passes : pass.passes ≡ writer.passes
  pub number : pass.number ≡ k
  pub known : Grows pass.history writer.history
  pub named : WentOn pass.names writer.names

-- the pass of this number is in its slot
abbrev pub IsPlaced : WriterState → ℕ → Slot → Type 0
IsPlaced writer k (Out pass) = IsKnown writer k pass
IsPlaced writer k (In hold) = IsKnown writer k hold.walker × IsWalking hold
IsPlaced writer k Away = ⊥

-- all tokens of one list: a writer that has met no pass, and each pass in the slot of its number
pub record AreTokens (table : TableId) (writing : Writing) (slots : List Slot) : Type 0 where
  pub list : (writer_of writing).table ≡ table
  pub none : (writer_of writing).joined ≡ []
  pub lists : HasLists (writer_of writing)
  pub going : IsGoing writing
  pub count : length slots ≡ (writer_of writing).passes
  pub placed : (k : ℕ) → k < (writer_of writing).passes →
      IsPlaced (writer_of writing) k (slot_at slots k)

-- the writer has seen all that each pass did
abbrev pub IsAll : Writing → List Slot → Type 0
IsAll writing slots = (k : ℕ) → k < (writer_of writing).passes →
    own_entries k (writer_of writing).history ≡ own_entries k (seen_in (slot_at slots k))

-- the place that the pass of a slot has in a run
abbrev pub place_in : Slot → Place
place_in (Out pass) = states.Out
place_in (In hold) = states.In (all_named hold.walker.names hold.met) hold.ended
place_in Away = states.Out

-- how many steps come before the change itself
abbrev pub steps_before : Doing → ℕ
steps_before (Loads header name) = 3 + words_of (length name)
steps_before (Unloads image) = 0

-- the change that is open
abbrev pub opened_by : ChangeState → Opened
opened_by change = record {
  plan = record {
    change = change_of change.doing change.load;
    load = change.load;
    before = steps_before change.doing;
  };
  made = change.made;
}

abbrev pub opened_in : Writing → Option Opened
opened_in (Resting writer) = None
opened_in (Changing change) = Some (opened_by change)

-- the state of a run that the tokens stand for
pub record StateIs (writing : Writing) (slots : List Slot) (state : State) : Type 0 where
  pub events : events_of (writer_of writing).names (writer_of writing).history ≡ state.events
  pub opened : opened_in writing ≡ state.opened
  pub places : (k : ℕ) → k < (writer_of writing).passes →
      place_in (slot_at slots k) ≡ state.places k

-- What the tokens did in a turn: they are tokens still, and where the writer has seen all
-- afterwards, it had seen all before, and the state went as the turn says
pub record Goes (old : Writing) (olds : List Slot) (next : State → State) (new : Writing)
    (news : List Slot) : Type 0 where
  pub sizes : ((writer_of new).nodes ≡ (writer_of old).nodes)
      × ((writer_of new).passes ≡ (writer_of old).passes)
  pub back : IsAll new news → IsAll old olds
  pub state : IsAll new news → (state : State) → StateIs old olds state →
      StateIs new news (next state)

-- and this is the turn's outcome
pub record Turns (old : Writing) (olds : List Slot) (turn : State → Turn) (new : Writing)
    (news : List Slot) (said : Outcome) : Type 0 where
  pub goes : Goes old olds (λ state. (turn state).state) new news
  pub outcome : IsAll new news → (state : State) → StateIs old olds state →
      said ≡ (turn state).outcome

-- what a pass that comes out tells: how many images its walk has met, and how many changes were
-- counted before it went in and before it came out
abbrev pub LeavesWith : Writing → List Slot → ℕ → Writing → List Slot → ℕ → ℕ → ℕ → Type 0
LeavesWith old olds pass new news met low high = IsAll new news → (state : State) →
    StateIs old olds state → (met ≡ length (met_in (state.places pass))) × (low ≡ low_of pass state)
    × (high ≡ high_of state)
