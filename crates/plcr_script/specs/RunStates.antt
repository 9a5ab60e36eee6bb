-- What a run goes over: what happened to its image list, the change that is open, and the passes.
-- The newest event stands first.
use Rattle.std.specs.Prelude.{ℕ, zero, suc, ◌+◌, ◌-◌, Bool, true, false, List, [], ◌∷◌, ◌++◌, Option, Some, None, ◌==◌, length, nat_lt, if◌then◌else◌}
use Rattle.plcr_machine.specs.declared.change.Named.{Named}
use Rattle.plcr_machine.specs.declared.change.Change.{Change}
use Rattle.plcr_machine.specs.declared.entry.Entry.TheVariants.{Announce, Enter, Leave, Retire, Count}
use Rattle.plcr_machine.specs.Passes.{counts}
use Rattle.plcr_machine.specs.Holds.{before_enter}
use Rattle.plcr_machine.specs.Walks.{follow, last_met}
use Rattle.plcr_machine.specs.Changes.{load_of, list_of, list_after_changes}
use Rattle.plcr_machine.specs.Events.{Event, Changed, Noted, changes_in, noted_in, held, looks}
use Rattle.plcr_script.specs.RunChanges.{Plan, loads_in}

-- a change that is open, and how many of its steps were made
pub record Opened : Type 0 where
  pub plan : Plan
  pub made : ℕ

-- how many steps a change takes in all: behind the change itself comes its count
abbrev pub steps_in : Plan → ℕ
steps_in plan = plan.before + 2

-- how many of them are left
abbrev pub steps_left : Opened → ℕ
steps_left opened = steps_in opened.plan - opened.made

-- what one step of a change adds, behind so many others: only the change itself and its count are
-- seen by the list
abbrev pub stepped : Plan → ℕ → List Event → List Event
stepped plan made events =
    if made == plan.before then Changed plan.change ∷ events else
    if nat_lt plan.before made then Noted Count ∷ events else events

-- what so many steps more of an open change add
abbrev pub steps : Opened → ℕ → List Event → List Event
steps opened zero events = events
steps opened (suc more) events = stepped opened.plan (opened.made + more) (steps opened more events)

-- whether no node is free, in a list of this many nodes and passes: each is in the list or held
-- back
abbrev pub is_full : (nodes passes : ℕ) → List Event → Bool
is_full nodes passes events = length (list_of (changes_in events)) + held passes events == nodes

-- a load that finds no free node looks at each pass
abbrev pub searched : (nodes passes : ℕ) → List Event → List Event
searched nodes passes events = if is_full nodes passes events then looks passes events else events

-- where a pass is: out; or in, with the images that its walk has met, and whether the walk has
-- ended
pub data Place : Type 0 where
  Out : Place
  In : (met : List Named) (ended : Bool) → Place

-- the images that a pass has met in this hold
abbrev pub met_in : Place → List Named
met_in Out = []
met_in (In met ended) = met

abbrev pub is_in : Place → Bool
is_in Out = false
is_in (In met ended) = true

-- whether the walk of this hold has ended
abbrev pub has_ended : Place → Bool
has_ended Out = false
has_ended (In met ended) = ended

-- the place of a walk that goes on to this image, or ends where there is none
abbrev pub met_next : List Named → Option Named → Place
met_next met None = In met true
met_next met (Some image) = In (met ++ image ∷ []) false

-- the next image of a walk: what follows the one met last, as the list stands now. A walk that has
-- ended stays so
abbrev pub next : List Change → Place → Place
next changes Out = Out
next changes (In met true) = In met true
next changes (In met false) =
    met_next met (follow load_of (list_after_changes changes) (last_met load_of 0 met)
    (length changes))

-- so many times the next image
abbrev pub walk : ℕ → List Change → Place → Place
walk zero changes place = place
walk (suc more) changes place = next changes (walk more changes place)

-- a walk up to its end: the numbers of the images that it meets rise, so there are no more of them
-- than loads
abbrev pub walk_to_end : List Change → Place → Place
walk_to_end changes place = walk (suc (loads_in changes)) changes place

-- what happened so far, the change that is open, if there is one, and where each pass is
pub record State : Type 0 where
  pub events : List Event
  pub opened : Option Opened
  pub places : ℕ → Place

-- nothing happened, no change is open, and all passes are out
abbrev pub first_state : State
first_state = record { events = []; opened = None; places = λ pass. Out }

-- the places with another one for a pass
abbrev pub placed : ℕ → Place → (ℕ → Place) → ℕ → Place
placed pass place places p = if p == pass then place else places p

-- a pass goes in: it announces how many changes are counted now, and enters
abbrev pub entered : ℕ → State → State
entered pass state = record state {
  events = Noted (Enter pass) ∷ Noted (Announce pass (counts (noted_in state.events)))
      ∷ state.events;
  places = placed pass (In [] false) state.places;
}

-- a pass that is out goes in
abbrev pub entered_if_out : ℕ → State → State
entered_if_out pass state = if is_in (state.places pass) then state else entered pass state

-- the pass is at another place of its walk
abbrev pub walked : ℕ → Place → State → State
walked pass place state = record state { places = placed pass place state.places }

-- what it adds that a pass comes out: it leaves, and takes its announcement back
abbrev pub leaves : ℕ → List Event → List Event
leaves pass events = Noted (Retire pass) ∷ Noted (Leave pass) ∷ events

abbrev pub left : ℕ → State → State
left pass state = record state {
  events = leaves pass state.events;
  places = placed pass Out state.places;
}

-- how many changes were counted before the pass entered, and how many are now
abbrev pub low_of : ℕ → State → ℕ
low_of pass state = counts (before_enter pass (noted_in state.events))

abbrev pub high_of : State → ℕ
high_of state = counts (noted_in state.events)

-- the passes below a number that are in come out, in the order of their numbers
abbrev pub all_left : ℕ → (ℕ → Place) → List Event → List Event
all_left zero places events = events
all_left (suc pass) places events = if is_in (places pass)
    then leaves pass (all_left pass places events) else all_left pass places events

-- a change that is open is made to its end
abbrev pub finished : Option Opened → List Event → List Event
finished None events = events
finished (Some opened) events = steps opened (steps_left opened) events

-- what has happened where a run ends in this state: first the passes come out, then the open change
-- is made to its end
abbrev pub ended : ℕ → State → List Event
ended passes state = finished state.opened (all_left passes state.places state.events)
