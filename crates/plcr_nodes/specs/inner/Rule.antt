-- The rule of the table: one legal history that the words show and that each seat knows a beginning
-- of. Lists have the newest first, so a beginning in time is an end of the list.
use Rattle.std.specs.Prelude.{◌≡◌, ◌⊎◌, ℕ, ◌+◌, ◌<◌, ◌≤◌, Bool, true, false, List, [], ◌∷◌, length, slice_index, Some}
use mathlib.Core.Option.{some}
use lib.ListN.{get_elem?}
use Rattle.atomic_table.specs.Table.{State}
use Rattle.plcr_machine.specs.declared.entry.Entry.{Entry}
use Rattle.plcr_machine.specs.Histories.{IsLegal}
use Rattle.plcr_machine.specs.Lists.{loads}
use Rattle.plcr_machine.specs.Passes.{counts, stamp_of}
use Rattle.plcr_machine.specs.Nodes.{is_free}
use Rattle.plcr_machine.specs.Links.{link_of}
use Rattle.plcr_machine.specs.Holds.{may_reach}
use Rattle.plcr_machine.specs.Parts.{own_entries}
use Rattle.plcr_machine.specs.declared.limits.TheConstants.{MOST_NODES, MOST_PASSES}
use Rattle.plcr_nodes.specs.declared.view.View.{View}
use Rattle.plcr_nodes.specs.declared.view.Heard.{Heard}
use Rattle.plcr_nodes.specs.declared.words.TheConstants.{GATE, NUMBERS, NODE_WORDS, PAYLOAD_WORDS}
use Rattle.plcr_nodes.specs.Entries.{among, WentOn}
use Rattle.plcr_nodes.specs.Seeing.{AddsOthers}
use Rattle.plcr_nodes.specs.Names.{stored, AreNames}
use Rattle.plcr_nodes.specs.Payload.{image_word, image_words}
use Rattle.plcr_nodes.specs.inner.Words.{base, stamp_place, table_words}

-- what there is: the words, the history with its names, how many pass numbers were given, which
-- seat owns the list, and which seat has a pass number
pub record Truth : Type 0 where
  pub words : List ℕ
  pub history : List Entry
  pub names : List (List ℕ)
  pub numbered : ℕ
  pub owner : ℕ
  pub holder : ℕ → ℕ

-- a place whose link passes may follow: the head, and each node that isn't free
abbrev pub IsHeld : ℕ → ℕ → List Entry → Type 0
IsHeld passes n h = (n ≡ 0) ⊎ (is_free passes n h ≡ false)

-- The words beside the nodes show the history: the gate is the number of counts, and each stamp is
-- 0 where its pass isn't announced, and else one more than the counts that the pass had seen
pub record ShowsBeside (nodes passes : ℕ) (words : List ℕ) (h : List Entry) : Type 0 where
  pub gate : slice_index words GATE ≡ counts h
  pub stamps : (p : ℕ) → p < passes → slice_index words (stamp_place nodes p) ≡ stamp_of p h

-- the words show the history
pub record Stands (nodes passes : ℕ) (t : Truth) : Type 0 where
  pub sizes : (nodes ≤ MOST_NODES) × (passes ≤ MOST_PASSES)
  pub wide : length t.words ≡ table_words nodes passes
  pub legal : IsLegal nodes passes t.history
  pub named : length t.names ≡ loads t.history
  pub short : AreNames t.names
  pub beside : ShowsBeside nodes passes t.words t.history
  pub number : slice_index t.words NUMBERS ≡ t.numbered
  pub enough : t.numbered ≤ passes
  pub unused : (p : ℕ) → t.numbered ≤ p → own_entries p t.history ≡ []
  pub links : (n : ℕ) → n ≤ nodes → IsHeld passes n t.history →
      slice_index t.words (base n) ≡ link_of n t.history
  pub payload : (n k : ℕ) → 0 < n → n ≤ nodes → is_free passes n t.history ≡ false →
      k < PAYLOAD_WORDS → k < image_words n t.history t.names
      → slice_index t.words (base n + (k + 1)) ≡ image_word n t.history t.names k

-- A beginning of the history that was seen, with the names of its loads. Who owns the list has seen
-- all of the owner's entries, and who has a pass number all of that pass's
pub record Sees (t : Truth) (history : List Entry) (names : List (List ℕ)) (owns : Bool)
    (numbers : List ℕ) : Type 0 where
  pub added : AddsOthers owns numbers history t.history
  pub named : WentOn names t.names
  pub as_many : length names ≡ loads history

-- what a token had seen that was joined into seat j, which has its pass numbers now
abbrev pub Hears : Truth → ℕ → Heard → Type 0
Hears t j w = Sees t w.history w.names false w.numbers
    × ((p : ℕ) → among p w.numbers ≡ true → (p < t.numbered) × (t.holder p ≡ j))

abbrev pub first_of : List ℕ → ℕ
first_of [] = 0
first_of (x ∷ xs) = x

-- the number under which a pass's seat steps
abbrev pub number_of : View → ℕ
number_of v = first_of v.numbers

-- the view of seat j agrees with what there is
pub record Fits (nodes passes : ℕ) (t : Truth) (j : ℕ) (v : View) : Type 0 where
  pub sizes : (v.nodes ≡ nodes) × (v.passes ≡ passes)
  pub sees : Sees t v.history v.names v.owns v.numbers
  pub owns : v.owns ≡ true → (j ≡ t.owner) × (v.numbered ≡ t.numbered)
  pub holds : (p : ℕ) → among p v.numbers ≡ true → (p < t.numbered) × (t.holder p ≡ j)
  pub given : (n : ℕ) → among n v.given ≡ true → 0 < n → may_reach (number_of v) n v.history ≡ true
  pub filled : v.owns ≡ true → (n k x : ℕ) → 0 < n → k < NODE_WORDS → stored n k v.filled ≡ Some x
      → (n ≤ nodes) × (is_free passes n v.history ≡ true) × (slice_index t.words (base n + k) ≡ x)
  pub heard : (k : ℕ) (w : Heard) → get_elem? v.heard k ≡ some w → Hears t j w

pub record Holds (nodes passes : ℕ) (s : State Unit View) : Type 0 where
  pub history : List Entry
  pub names : List (List ℕ)
  pub numbered : ℕ
  pub owner : ℕ
  pub holder : ℕ → ℕ
  pub stands : Stands nodes passes
      (record {
        words = s.words;
        history = history;
        names = names;
        numbered = numbered;
        owner = owner;
        holder = holder;
      })
  pub seats : (j : ℕ) (v : View) → get_elem? s.views j ≡ some v → v.spent ≡ false
      → Fits nodes passes (record {
        words = s.words;
        history = history;
        names = names;
        numbered = numbered;
        owner = owner;
        holder = holder;
      }) j v

-- the view of the owner's seat at the opening, after some pass numbers were given away
abbrev pub owner_view : ℕ → ℕ → ℕ → View
owner_view nodes passes numbered = record {
  spent = false;
  nodes = nodes;
  passes = passes;
  history = [];
  names = [];
  owns = true;
  numbered = numbered;
  numbers = [];
  given = [];
  filled = [];
  heard = [];
}

abbrev pub first_view : ℕ → ℕ → View
first_view nodes passes = owner_view nodes passes 0
