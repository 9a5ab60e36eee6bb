-- Where a worker's pass of the list is, and how far its script has come.
use Rattle.std.specs.Prelude.{◌≡◌, ℕ, List, [], ◌∷◌, ◌++◌, Option, Some, None}
use Rattle.atomic_table.specs.Seated.{TableId}
use Rattle.plcr_machine.specs.Lists.{Grows}
use Rattle.plcr_nodes.specs.Entries.{WentOn}
use Rattle.plcr_imagelist.specs.Holds.{WalkerState, IsWalking}
use Rattle.plcr_script.specs.declared.statements.Statement.{Statement}
use Rattle.plcr_script.specs.declared.statements.Statement.TheVariants.{Load}
use Rattle.plcr_turns.specs.declared.lines.Asked.{Asked}
use Rattle.plcr_turns.specs.declared.lines.Request.{Request}
use Rattle.plcr_turns.specs.declared.lines.Request.TheVariants as requests
use Rattle.plcr_turns.specs.declared.view.Share.{Share}
use Rattle.plcr_turns.specs.declared.view.View.{View}
use Rattle.plcr_turns.specs.Lines.{asked_by, lines_of, wanted_by}
use Rattle.plcr_turns.specs.Turns.{name_in as name_of_request}
use Rattle.plcr_workers.specs.declared.places.Place.{Place}
use Rattle.plcr_workers.specs.declared.places.Place.TheVariants.{Out, In}
use Rattle.plcr_workers.specs.Asking.{asked_in, name_in}

-- the pass is of this list, and walks where it is in
abbrev pub IsAt : TableId → Place → Type 0
IsAt list (Out pass) = pass.table ≡ list
IsAt list (In hold) = (hold.walker.table ≡ list) × IsWalking hold

-- what the pass knows
abbrev pub walker_of : Place → WalkerState
walker_of (Out pass) = pass
walker_of (In hold) = hold.walker

-- the same pass of the list, which has seen more or the same
pub record PassGoes (old new : WalkerState) : Type 0 where
  pub number : new.number ≡ old.number
  pub grows : Grows old.history new.history
  pub went : WentOn old.names new.names

-- the fault in a request
abbrev pub fault_in : Request → Option ℕ
fault_in (requests.Load header name fault) = fault
fault_in (requests.Unload header) = None

-- the fault of the image that a statement loads
abbrev pub fault_of : (ℕ → Option ℕ) → Statement → Option ℕ
fault_of fault (Load header name) = fault header
fault_of fault other = None

-- a request asks for what the statement does, of the same name, with the fault of its image
pub record Asks (fault : ℕ → Option ℕ) (statement : Statement) (request : Request) : Type 0 where
  pub asked : asked_in statement ≡ Some (asked_by request)
  pub name : name_of_request request ≡ name_in (Some statement)
  pub fault_is : fault_in request ≡ fault_of fault statement

-- of how many lines the first script of a pass is
abbrev pub total_of : List Share → ℕ
total_of [] = 0
total_of (share ∷ shares) = share.part.total

-- a worker's script came one line further where a statement asks for it, and stays where it was
-- otherwise
abbrev pub Advances : ℕ → ℕ → Option Asked → View → View → Type 0
Advances script line None v w = w ≡ v
Advances script line (Some asked) v w =
    (wanted_by (lines_of script w.journal) ≡ wanted_by (lines_of script v.journal)
    ++ record { line = line; asked = asked } ∷ []) × (total_of w.shares ≡ total_of v.shares)
