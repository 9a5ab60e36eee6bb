-- What the token types keep of their seats, and what contracts see of these.
use Rattle.std.specs.Prelude.{◌≡◌, ℕ, ◌+◌, ◌<◌, ◌≤◌, true, false, List, [], ◌∷◌, length, slice_index, Some}
use Rattle.atomic_table.specs.Table.{Me}
use Rattle.atomic_table.specs.Seated.{TableId}
use Rattle.plcr_machine.specs.declared.entry.Entry.{Entry}
use Rattle.plcr_machine.specs.Histories.{IsHistory}
use Rattle.plcr_machine.specs.Nodes.{is_free}
use Rattle.plcr_machine.specs.Passes.{is_announced}
use Rattle.plcr_machine.specs.Links.{link_of, IsPlace}
use Rattle.plcr_machine.specs.Holds.{may_reach}
use Rattle.plcr_nodes.specs.declared.view.View.{View}
use Rattle.plcr_nodes.specs.declared.words.TheConstants.{NODE_WORDS}
use Rattle.plcr_nodes.specs.Entries.{among}
use Rattle.plcr_nodes.specs.Names.{AreNames, stored}
use Rattle.plcr_nodes.specs.inner.Words.{stamp_place, table_words}
use Rattle.plcr_nodes.specs.inner.Rule.{number_of, owner_view}
use Rattle.plcr_nodes.specs.Tokens.{PassState, OwnerState, NoteState}

abbrev pub pass_state : TableId → View → PassState
pass_state z v = record {
  table = z;
  nodes = v.nodes;
  passes = v.passes;
  number = number_of v;
  history = v.history;
  names = v.names;
  given = v.given;
}

abbrev pub owner_state : TableId → View → OwnerState
owner_state z v = record {
  table = z;
  nodes = v.nodes;
  passes = v.passes;
  history = v.history;
  names = v.names;
  joined = v.numbers;
  filled = v.filled;
}

abbrev pub note_state : TableId → View → NoteState
note_state z v = record { table = z; history = v.history; names = v.names }

-- the seat fits its table, is in use and carries nothing
pub record IsSeat (z : TableId) (me : Me Unit View) : Type 0 where
  pub wide : z.words ≡ table_words me.0.nodes me.0.passes
  pub lives : me.0.spent ≡ false
  pub light : me.1 ≡ []
  pub known : IsHistory me.0.nodes me.0.passes me.0.history me.0.names
  pub short : AreNames me.0.names

-- the seat of a pass
pub record IsPass (z : TableId) (me : Me Unit View) : Type 0 where
  pub seat : IsSeat z me
  pub one : me.0.numbers ≡ number_of me.0 ∷ []
  pub few : number_of me.0 < me.0.passes
  pub given : (n : ℕ) → among n me.0.given ≡ true → 0 < n →
      may_reach (number_of me.0) n me.0.history ≡ true

-- the seat of a pass, with the word of its stamp
pub record IsPassing (z : TableId) (me : Me Unit View) (stamp : ℕ) : Type 0 where
  pub pass : IsPass z me
  pub stamped : stamp ≡ stamp_place me.0.nodes (number_of me.0)

-- the owner's seat
pub record IsOwner (z : TableId) (me : Me Unit View) : Type 0 where
  pub seat : IsSeat z me
  pub owns : me.0.owns ≡ true
  pub filled : (n k x : ℕ) → 0 < n → k < NODE_WORDS → stored n k me.0.filled ≡ Some x →
      (n ≤ me.0.nodes) × (is_free me.0.passes n me.0.history ≡ true)

-- the owner's notes say where the link of each place of the list leads
pub record KnowsLinks (nodes : ℕ) (history : List Entry) (links : List ℕ) : Type 0 where
  pub wide : length links ≡ nodes + 1
  pub told : (place : ℕ) → IsPlace place history → slice_index links place ≡ link_of place history

-- the owner's seat, with its notes
pub record IsOwning (z : TableId) (me : Me Unit View) (noted : List ℕ) : Type 0 where
  pub owner : IsOwner z me
  pub links : KnowsLinks me.0.nodes me.0.history noted

-- the seat of a note
pub record IsNote (me : Me Unit View) : Type 0 where
  pub lives : me.0.spent ≡ false
  pub light : me.1 ≡ []
  pub numbers : me.0.numbers ≡ []

-- the owner's seat of a table that is being opened, once so many pass numbers were given away
pub record IsOpening (nodes passes given : ℕ) (z : TableId) (me : Me Unit View) : Type 0 where
  pub wide : z.words ≡ table_words nodes passes
  pub me_is : me ≡ (owner_view nodes passes given, [])

-- a pass of this table that is not announced, and so is out
abbrev pub IsFresh : TableId → PassState → Type 0
IsFresh z s = (s.table ≡ z) × (is_announced s.number s.history ≡ false)
