-- How a telling changes the views of its seats.
use Rattle.std.specs.Prelude.{◌≡◌, ℕ, true, false, List, [], ◌∷◌, ◌++◌}
use mathlib.Core.Option.{some}
use lib.ListN.{get_elem?}
use Rattle.atomic_table.specs.Table.{Step}
use Rattle.plcr_machine.specs.declared.entry.Entry.{Entry}
use Rattle.plcr_nodes.specs.declared.view.View.{View}
use Rattle.plcr_nodes.specs.declared.view.Heard.{Heard}
use Rattle.plcr_nodes.specs.Entries.{WentOn}
use Rattle.plcr_nodes.specs.Seeing.{AddsOthers}
use Rattle.plcr_nodes.specs.inner.Plays.{Mine, TakesIn, view_at}

-- a note: a copy of what was seen, without rights
abbrev pub noted_view : View → View
noted_view v = record v {
  owns = false;
  numbered = 0;
  numbers = [];
  given = [];
  filled = [];
  heard = [];
}

-- what a joined seat had seen, with its pass numbers
abbrev pub heard_of : View → Heard
heard_of w = record { history = w.history; names = w.names; numbers = w.numbers }

-- a seat into which another was joined
abbrev pub hearing_view : View → View → View
hearing_view v w = record v { heard = heard_of w ∷ [] }

-- a seat that was joined
abbrev pub spent_view : View
spent_view = record {
  spent = true;
  nodes = 0;
  passes = 0;
  history = [];
  names = [];
  owns = false;
  numbered = 0;
  numbers = [];
  given = [];
  filled = [];
  heard = [];
}

-- the pass numbers that came with joined seats, before those that there were
abbrev pub gained : List Heard → List ℕ → List ℕ
gained [] numbers = numbers
gained (w ∷ ws) numbers = w.numbers ++ gained ws numbers

-- the history goes on from what a joined seat had seen too, and has of its passes just the entries
-- that the seat had seen
pub record TakesOver (w : Heard) (past : List Entry) (names : List (List ℕ)) : Type 0 where
  pub added : AddsOthers false w.numbers w.history past
  pub named : WentOn w.names names

abbrev pub TakesAllOver : View → List Entry → List (List ℕ) → Type 0
TakesAllOver v past names = (k : ℕ) (w : Heard) → get_elem? v.heard k ≡ some w →
    TakesOver w past names

-- what joined seats had seen was taken in
abbrev pub learned : Step Unit → Mine → ℕ → Mine → Type 0
learned st m found m' = (past : List Entry) × (names : List (List ℕ)) × TakesIn m.0 past names
    × TakesAllOver m.0 past names × (m'.0 ≡ view_at m.0 past names) × (m'.1 ≡ m.1)

-- the same, and their pass numbers
abbrev pub gathered : Step Unit → Mine → ℕ → Mine → Type 0
gathered st m found m' = (past : List Entry) × (names : List (List ℕ)) × TakesIn m.0 past names
    × TakesAllOver m.0 past names
    × (m'.0 ≡ record (view_at m.0 past names) {
      numbers = gained m.0.heard m.0.numbers;
      given = [];
    }) × (m'.1 ≡ m.1)

-- a seat was joined into another, which then saw what both had seen
pub record IsGathered (m : Mine) (w : View) (m' : Mine) : Type 0 where
  pub past : List Entry
  pub names : List (List ℕ)
  pub takes : TakesIn m.0 past names
  pub over : TakesOver (heard_of w) past names
  pub now : m' ≡ (
    record (view_at m.0 past names) {
      numbers = w.numbers ++ m.0.numbers;
      given = [];
    },
    m.1,
  )
