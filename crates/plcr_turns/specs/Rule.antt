-- The rule of the queue. It holds between any two steps, and ties what the queue holds to what each
-- pass knows. Passes are known by their numbers, and speak through their views, unless they were
-- taken in.
use Rattle.std.specs.Prelude.{◌≡◌, ◌≢◌, ◌⊎◌, ℕ, ◌<◌, true, false, List, [], ◌∷◌, length, Option, Some, None}
use mathlib.Core.Option.{some}
use mathlib.Core.List.{IsPrefix}
use lib.ListN.{get_elem?}
use Rattle.atomic_table.specs.Seated.{TableId}
use Rattle.plcr_turns.specs.declared.view.Role.{Role}
use Rattle.plcr_turns.specs.declared.view.Role.TheVariants.{Fresh, Chief, Worker, Spent}
use Rattle.plcr_turns.specs.declared.view.Share.{Share}
use Rattle.plcr_turns.specs.declared.view.Face.{Face}
use Rattle.plcr_turns.specs.declared.view.View.{View}
use Rattle.plcr_turns.specs.Turns.{TurnState}
use Rattle.plcr_turns.specs.Views.{face_of, has_share, Agrees, AllBegin, IsUnspent, first_view}

-- the list with its sizes, the turn's journal and progress, the pass to which each script belongs,
-- and the chief's pass
pub record Truth : Type 0 where
  pub list : TableId
  pub nodes : ℕ
  pub passes : ℕ
  pub face : Face
  pub owner : ℕ → ℕ
  pub chief : ℕ

-- the pass is the chief's, or it is a worker's and has a script
abbrev pub IsWhose : ℕ → ℕ → Role → List Share → Type 0
IsWhose chief pass Chief shares = pass ≡ chief
IsWhose chief pass Worker shares = (pass ≢ chief) × (shares ≢ [])
IsWhose chief pass Fresh shares = ⊥
IsWhose chief pass Spent shares = Unit {0}

-- these scripts belong to the pass
abbrev pub Belong : (ℕ → ℕ) → ℕ → List Share → Type 0
Belong owner pass [] = Unit {0}
Belong owner pass (share ∷ shares) = (owner share.script ≡ pass) × Belong owner pass shares

-- no script is named twice
abbrev pub AreApart : List Share → Type 0
AreApart [] = Unit {0}
AreApart (share ∷ shares) = (has_share share.script shares ≡ false) × AreApart shares

-- what a pass knows is so
pub record Fits (t : Truth) (pass : ℕ) (v : View) : Type 0 where
  pub list : v.list ≡ Some t.list
  pub sizes : (v.nodes ≡ t.nodes) × (v.passes ≡ t.passes)
  pub count : v.count ≡ length t.face.parts
  -- it is the chief's or has a script, and each of its scripts is its own
  pub whose : IsWhose t.chief pass v.role v.shares
  pub scripts : Belong t.owner pass v.shares
  pub apart : AreApart v.shares
  -- each journal that it has seen begins the turn's
  pub seen : IsPrefix v.journal t.face.journal
  pub joined : AllBegin v.joined t.face.journal
  -- the turn's progress of each of its scripts is what it knows
  pub progress : Agrees t.face.parts v.shares

-- the queue holds the turn, and no pass has it
pub record IsInQueue (t : Truth) (items : List TurnState) (views : List View) : Type 0 where
  pub turn : TurnState
  pub items_are : items ≡ turn ∷ []
  pub list : turn.writer.table ≡ t.list
  pub sizes : (turn.writer.nodes ≡ t.nodes) × (turn.writer.passes ≡ t.passes)
  pub face : face_of turn ≡ t.face
  pub nobody : (pass : ℕ) (v : View) → get_elem? views pass ≡ some v → IsUnspent v → v.turn ≡ None

-- the queue is empty, and just one pass has the turn
pub record IsWithPass (t : Truth) (items : List TurnState) (views : List View) : Type 0 where
  pub empty : items ≡ []
  pub who : ℕ
  pub view : View
  pub there : get_elem? views who ≡ some view
  pub unspent : IsUnspent view
  pub has : view.turn ≡ Some t.face
  pub only : (pass : ℕ) (v : View) → get_elem? views pass ≡ some v → IsUnspent v → pass ≢ who →
      v.turn ≡ None

-- a script stands in the view of the pass to which it belongs
pub record HasOwner (owner : ℕ → ℕ) (views : List View) (script : ℕ) : Type 0 where
  pub view : View
  pub there : get_elem? views (owner script) ≡ some view
  pub unspent : IsUnspent view
  pub has : has_share script view.shares ≡ true

-- the turn goes round
pub record IsGoing (items : List TurnState) (views : List View) : Type 0 where
  pub truth : Truth
  pub place : IsInQueue truth items views ⊎ IsWithPass truth items views
  pub fits : (pass : ℕ) (v : View) → get_elem? views pass ≡ some v → IsUnspent v → Fits truth pass v
  pub owned : (script : ℕ) → script < length truth.face.parts → HasOwner truth.owner views script

-- the queue was just made
pub record IsNew (items : List TurnState) (views : List View) : Type 0 where
  pub empty : items ≡ []
  pub alone : views ≡ first_view ∷ []

abbrev pub IsKept : List TurnState → List View → Type 0
IsKept items views = IsNew items views ⊎ IsGoing items views
