-- What the passes of the queue know, and how that changes as the turn goes round.
use Rattle.std.specs.Prelude.{◌≡◌, ℕ, zero, suc, ◌<◌, Bool, true, false, List, [], ◌∷◌, ◌++◌, length, Option, Some, None, slice_get, ◌==◌, ◌||◌}
use mathlib.Core.List.{IsPrefix}
use Rattle.plcr_turns.specs.declared.lines.ChangeLine.{ChangeLine}
use Rattle.plcr_turns.specs.declared.turn.Part.{Part}
use Rattle.plcr_turns.specs.declared.view.Role.{Role}
use Rattle.plcr_turns.specs.declared.view.Role.TheVariants.{Fresh, Chief, Worker, Spent}
use Rattle.plcr_turns.specs.declared.view.Share.{Share}
use Rattle.plcr_turns.specs.declared.view.Face.{Face}
use Rattle.plcr_turns.specs.declared.view.View.{View}
use Rattle.plcr_turns.specs.Turns.{TurnState}

-- the journal and the progress of a turn
abbrev pub face_of : TurnState → Face
face_of t = record { journal = t.journal; parts = t.parts }

-- a share for each part, from a number on
abbrev pub shares_from : ℕ → List Part → List Share
shares_from script [] = []
shares_from script (part ∷ parts) =
    record { script = script; part = part } ∷ shares_from (suc script) parts

-- whether a script is among shares
abbrev pub has_share : ℕ → List Share → Bool
has_share script [] = false
has_share script (share ∷ shares) = (share.script == script) || has_share script shares

-- the parts say what the shares say of their scripts
abbrev pub Agrees : List Part → List Share → Type 0
Agrees parts [] = Unit {0}
Agrees parts (share ∷ shares) = (slice_get parts share.script ≡ Some share.part)
    × Agrees parts shares

-- the part of a script, or the one that it had where there is none
abbrev pub part_or : Option Part → Part → Part
part_or None part = part
part_or (Some new) part = new

-- shares with the parts of their scripts as they are now
abbrev pub renewed : List Part → List Share → List Share
renewed parts [] = []
renewed parts (share ∷ shares) =
    record share { part = part_or (slice_get parts share.script) share.part } ∷ renewed parts shares

-- each of some journals begins a journal
abbrev pub AllBegin : List (List ChangeLine) → List ChangeLine → Type 0
AllBegin [] journal = Unit {0}
AllBegin (seen ∷ others) journal = IsPrefix seen journal × AllBegin others journal

-- the view of a queue's first pass
abbrev pub first_view : View
first_view = record {
  role = Fresh;
  list = None;
  nodes = 0;
  passes = 0;
  count = 0;
  journal = [];
  joined = [];
  shares = [];
  turn = None;
}

-- the pass was not taken in
abbrev pub is_unspent : Role → Bool
is_unspent Spent = false
is_unspent Fresh = true
is_unspent Chief = true
is_unspent Worker = true

abbrev pub IsUnspent : View → Type 0
IsUnspent v = is_unspent v.role ≡ true

-- all scripts belong to the pass
abbrev pub HasAll : View → Type 0
HasAll v = (script : ℕ) → script < v.count → has_share script v.shares ≡ true

-- after the first push all scripts belong to the pass, which hands them out
abbrev pub opened_view : TurnState → View
opened_view x = record {
  role = Chief;
  list = Some x.writer.table;
  nodes = x.writer.nodes;
  passes = x.writer.passes;
  count = length x.parts;
  journal = x.journal;
  joined = [];
  shares = shares_from 0 x.parts;
  turn = None;
}

-- after the turn was taken
abbrev pub taken_view : View → TurnState → View
taken_view v x = record v { journal = x.journal; turn = Some (face_of x) }

-- what is known of a turn that was taken: it is that of the list, of these sizes, its journal goes
-- on from each one that was seen, and it has the pass's scripts as far as the pass knows
pub record IsTaken (v : View) (x : TurnState) : Type 0 where
  pub list : v.list ≡ Some x.writer.table
  pub sizes : (v.nodes ≡ x.writer.nodes) × (v.passes ≡ x.writer.passes)
  pub count : v.count ≡ length x.parts
  pub seen : IsPrefix v.journal x.journal
  pub joined : AllBegin v.joined x.journal
  pub progress : Agrees x.parts v.shares

-- what is asked of a turn that is given back: its journal goes on from the one that was taken, and
-- no other script went on
pub record MayGive (v : View) (x : TurnState) : Type 0 where
  pub unspent : IsUnspent v
  pub list : v.list ≡ Some x.writer.table
  pub sizes : (v.nodes ≡ x.writer.nodes) × (v.passes ≡ x.writer.passes)
  pub face : Face
  pub has : v.turn ≡ Some face
  pub journal : IsPrefix face.journal x.journal
  pub count : length x.parts ≡ length face.parts
  pub others : (script : ℕ) → has_share script v.shares ≡ false →
      slice_get x.parts script ≡ slice_get face.parts script

-- after it was given back
abbrev pub given_view : View → TurnState → View
given_view v x = record v { journal = x.journal; shares = renewed x.parts v.shares; turn = None }

-- the first share alone, and the others
abbrev pub first_share : List Share → List Share
first_share [] = []
first_share (share ∷ shares) = share ∷ []

abbrev pub later_shares : List Share → List Share
later_shares [] = []
later_shares (share ∷ shares) = shares

-- after a worker was handed the first script: what is left, and the worker's view
abbrev pub left_view : View → View
left_view v = record v { shares = later_shares v.shares }

abbrev pub worker_view : View → View
worker_view v = record v { role = Worker; joined = []; shares = first_share v.shares }

-- after a worker was taken in
abbrev pub both_view : View → View → View
both_view v w = record v {
  joined = w.journal ∷ (w.joined ++ v.joined);
  shares = w.shares ++ v.shares;
}

abbrev pub spent_view : View
spent_view = record {
  role = Spent;
  list = None;
  nodes = 0;
  passes = 0;
  count = 0;
  journal = [];
  joined = [];
  shares = [];
  turn = None;
}

-- where all scripts belong to the chief, who has not the turn, it is in the queue
abbrev pub MustHold : View → List TurnState → Type 0
MustHold v items = v.role ≡ Chief → v.turn ≡ None → HasAll v → ¬ (items ≡ [])
