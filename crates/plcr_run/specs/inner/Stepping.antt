-- How one step of a run ends.
use Rattle.std.specs.Prelude.{◌≡◌, ℕ, ◌<◌, List, [], ◌∷◌, None, Result, Ok, Err, length, ⊤}
use Rattle.plcr_machine.specs.declared.change.Change.{Change}
use Rattle.plcr_machine.specs.Events.{changes_in}
use Rattle.plcr_script.specs.declared.statements.Statement.{Statement}
use Rattle.plcr_script.specs.declared.statements.Statement.TheVariants.{Load, Unload, BeginLoad, BeginUnload, Step, End, Enter, Walk, Leave, Report}
use Rattle.plcr_script.specs.Log.{log_line}
use Rattle.plcr_script.specs.Places.{in_behind}
use Rattle.plcr_script.specs.Meanings.{Meanings}
use Rattle.plcr_script.specs.RunStates.{State, is_in, finished}
use Rattle.plcr_script.specs.RunTurns.{Turn, report_turn, turn_of}
use Rattle.plcr_script.specs.RunLaws.{Follows}
use Rattle.plcr_command.specs.Seen.{Seen}
use Rattle.plcr_command.specs.Endings.{HasKept, CannotWrite, CannotPrint}
use Rattle.plcr_run.specs.declared.stepping.Stop.{Stop}
use Rattle.plcr_run.specs.declared.stepping.Stop.TheVariants.{Unwritten, Unprinted}
use Rattle.plcr_run.specs.declared.slots.Slot.{Slot}
use Rattle.plcr_run.specs.declared.writing.Writing.{Writing}
use Rattle.plcr_run.specs.inner.Slots.{slot_at, IsOutAt, IsInAt}
use Rattle.plcr_run.specs.inner.Tokens.{writer_of, IsAll, place_in, StateIs}

-- a statement of the writer
abbrev pub IsChange : Statement → Type 0
IsChange (Load header name) = ⊤
IsChange (Unload header) = ⊤
IsChange (BeginLoad header name) = ⊤
IsChange (BeginUnload header) = ⊤
IsChange (Step most) = ⊤
IsChange End = ⊤
IsChange (Enter pass) = ⊥
IsChange (Walk pass most) = ⊥
IsChange (Leave pass) = ⊥
IsChange (Report pass file) = ⊥

-- a statement of a pass that writes no file
abbrev pub IsMove : Statement → Type 0
IsMove (Load header name) = ⊥
IsMove (Unload header) = ⊥
IsMove (BeginLoad header name) = ⊥
IsMove (BeginUnload header) = ⊥
IsMove (Step most) = ⊥
IsMove End = ⊥
IsMove (Enter pass) = ⊤
IsMove (Walk pass most) = ⊤
IsMove (Leave pass) = ⊤
IsMove (Report pass file) = ⊥

-- the pass of a statement is one of the slots, and where it may be
abbrev pub MayStand : List Slot → Statement → Type 0
MayStand slots (Load header name) = ⊤
MayStand slots (Unload header) = ⊤
MayStand slots (BeginLoad header name) = ⊤
MayStand slots (BeginUnload header) = ⊤
MayStand slots (Step most) = ⊤
MayStand slots End = ⊤
MayStand slots (Enter pass) = (pass < length slots) × IsOutAt slots pass
MayStand slots (Walk pass most) = (pass < length slots) × IsInAt slots pass
MayStand slots (Leave pass) = (pass < length slots) × IsInAt slots pass
MayStand slots (Report pass file) = pass < length slots

-- the passes that are in are those that the statement left in or put in
abbrev pub MovesOnly : Statement → List Slot → List Slot → Type 0
MovesOnly statement old new = (k : ℕ) →
    is_in (place_in (slot_at new k)) ≡ in_behind k (is_in (place_in (slot_at old k))) statement

-- the one file of a step wasn't kept
pub record IsUnwritten (files : List (List ℕ × List ℕ)) (old new : Seen) : Type 0 where
  pub name : List ℕ
  pub bytes : List ℕ
  pub file : files ≡ (name, bytes) ∷ []
  pub stop : CannotWrite [] [] name bytes old new

-- a step that keeps these files and prints this line
abbrev pub StepEnds : Result (Unit {0}) Stop → List (List ℕ × List ℕ) → List ℕ → Seen → Seen →
    Type 0
StepEnds (Ok _) files line old new = HasKept files line old new
StepEnds (Err Unwritten) files line old new = IsUnwritten files old new
StepEnds (Err Unprinted) files line old new = CannotPrint files [] line old new

-- the changes of a state's list, where it ends now
abbrev pub will_change : State → List Change
will_change state = changes_in (finished state.opened state.events)

-- the state that a step leaves: that of its turn; where its file wasn't kept, one that goes on from
-- the state before, with the same changes
abbrev pub StepLeaves : Result (Unit {0}) Stop → State → State → Writing → List Slot → Type 0
StepLeaves (Ok _) old next new news = StateIs new news next
StepLeaves (Err Unprinted) old next new news = StateIs new news next
StepLeaves (Err Unwritten) old next new news = (left : State) × StateIs new news left
    × (will_change left ≡ will_change old) × Follows old.events left.events

-- what a step came to, where the writer has seen all afterwards
pub record StepIs (turn : Turn) (number : ℕ) (state : State) (before after : Seen) (new : Writing)
    (news : List Slot) (result : Result (Unit {0}) Stop) : Type 0 where
  pub ends : StepEnds result turn.kept (log_line None number turn.outcome) before after
  pub leaves : StepLeaves result state turn.state new news

-- a step by what its statement comes to
pub record Takes (turn : State → Turn) (number : ℕ) (old : Writing) (olds : List Slot)
    (before : Seen) (new : Writing) (news : List Slot) (after : Seen)
    (result : Result (Unit {0}) Stop) : Type 0 where
  pub sizes : ((writer_of new).nodes ≡ (writer_of old).nodes)
      × ((writer_of new).passes ≡ (writer_of old).passes)
  pub back : IsAll new news → IsAll old olds
  pub is : IsAll new news → (state : State) → StateIs old olds state →
      StepIs (turn state) number state before after new news result

abbrev pub Steps : Meanings → ℕ → Statement → Writing → List Slot → Seen → Writing → List Slot →
    Seen → Result (Unit {0}) Stop → Type 0
Steps process number statement old olds before new news after result =
    Takes (λ state. turn_of process (writer_of old).nodes (writer_of old).passes state statement)
    number old olds before new news after result

-- a report of a pass into a file
abbrev pub ReportEnds : Meanings → ℕ → ℕ → List ℕ → Writing → List Slot → Seen → Writing →
    List Slot → Seen → Result (Unit {0}) Stop → Type 0
ReportEnds process number pass file old olds before new news after result =
    Takes (report_turn process pass file) number old olds before new news after result
