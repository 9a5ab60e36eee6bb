-- Workers that were handed out and are taken in: one for each script. What each of them saw of its
-- script is all that the last journal has of it.
use Rattle.std.specs.Prelude.{◌≡◌, ◌≢◌, ℕ, suc, ◌<◌, List, [], ◌∷◌, ◌++◌, drop, length, Some, None, slice_get}
use mathlib.Core.List.{IsPrefix}
use Rattle.atomic_table.specs.Seated.{TableId}
use Rattle.plcr_turns.specs.declared.lines.ChangeLine.{ChangeLine}
use Rattle.plcr_turns.specs.declared.turn.Part.{Part}
use Rattle.plcr_turns.specs.declared.view.Role.TheVariants.{Chief}
use Rattle.plcr_turns.specs.declared.view.Share.{Share}
use Rattle.plcr_turns.specs.declared.view.View.{View}
use Rattle.plcr_turns.specs.Lines.{lines_of}
use Rattle.plcr_turns.specs.Turns.{TurnState, IsTurn, opened_turn, untouched}
use Rattle.plcr_turns.specs.Views.{shares_from, opened_view, left_view, worker_view, both_view, HasAll, IsTaken}
use Rattle.plcr_turns.specs.Working.{IsWorking, IsFresh}
use Rattle.plcr_imagelist.specs.States.{WriterState}

-- the scripts of workers, and the journals that these saw, in the order of the workers
abbrev pub shares_of : List View → List Share
shares_of [] = []
shares_of (worker ∷ workers) = worker.shares ++ shares_of workers

abbrev pub journals_of : List View → List (List ChangeLine)
journals_of [] = []
journals_of (worker ∷ workers) = worker.journal ∷ (worker.joined ++ journals_of workers)

-- one worker for each script, from a number on
abbrev pub AreWorking : ℕ → TableId → List View → Type 0
AreWorking from list [] = Unit {0}
AreWorking from list (worker ∷ workers) = IsWorking from list worker
    × AreWorking (suc from) list workers

-- the chief's view once the scripts below a number were handed out, of these totals
pub record HasHanded (from : ℕ) (list : TableId) (totals : List ℕ) (v : View) : Type 0 where
  pub role : v.role ≡ Chief
  pub turn : v.turn ≡ None
  pub list_is : v.list ≡ Some list
  pub count : v.count ≡ length totals
  pub journal : v.journal ≡ []
  pub joined : v.joined ≡ []
  pub shares : v.shares ≡ shares_from from (untouched (drop from totals))

-- the chief's view once these workers were taken in, of so many
pub record HasGathered (count : ℕ) (list : TableId) (workers : List View) (v : View) : Type 0 where
  pub role : v.role ≡ Chief
  pub turn : v.turn ≡ None
  pub list_is : v.list ≡ Some list
  pub count_is : v.count ≡ count
  pub shares : v.shares ≡ shares_of workers
  pub joined : v.joined ≡ journals_of workers

-- after the first push nothing was handed out
abbrev pub NothingHanded : Type 0
NothingHanded = (writer : WriterState) (totals : List ℕ) →
    HasHanded 0 writer.table totals (opened_view (opened_turn writer totals))

-- then each worker gets the next script, of which no line was applied
abbrev pub HandsNext : Type 0
HandsNext = (from : ℕ) (list : TableId) (totals : List ℕ) (v : View) →
    HasHanded from list totals v → from < length totals
    → (v.shares ≢ []) × HasHanded (suc from) list totals (left_view v)
    × ((total : ℕ) × (slice_get totals from ≡ Some total) × IsFresh from total list (worker_view v))

-- once all were handed out nobody was taken in
abbrev pub NobodyGathered : Type 0
NobodyGathered = (list : TableId) (totals : List ℕ) (v : View) →
    HasHanded (length totals) list totals v → HasGathered (length totals) list [] v

-- then the workers are taken in, the last one first
abbrev pub GathersNext : Type 0
GathersNext = (count script : ℕ) (list : TableId) (worker : View) (workers : List View) (v : View) →
    HasGathered count list workers v → IsWorking script list worker
    → HasGathered count list (worker ∷ workers) (both_view v worker)

-- until all scripts belong to the chief again
abbrev pub HasAllAgain : Type 0
HasAllAgain = (list : TableId) (workers : List View) (v : View) →
    HasGathered (length workers) list workers v → AreWorking 0 list workers → HasAll v

-- and then the journal of the turn goes on from what each worker saw, and has of its script just
-- the lines that it saw
abbrev pub EachLineOnce : Type 0
EachLineOnce = (count : ℕ) (list : TableId) (workers : List View) (v : View) (x : TurnState) →
    HasGathered count list workers v → AreWorking 0 list workers → IsTaken v x → IsTurn x
    → (script : ℕ) (worker : View) → slice_get workers script ≡ Some worker →
    IsPrefix worker.journal x.journal
    × (lines_of script x.journal ≡ lines_of script worker.journal)
