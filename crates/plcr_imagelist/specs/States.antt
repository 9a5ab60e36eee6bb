-- What contracts see of the writer and of a change.
use Rattle.std.specs.Prelude.{ℕ, suc, ◌+◌, List, length, Bool, true, false, IsFalse}
use Rattle.atomic_table.specs.Seated.{TableId}
use Rattle.plcr_machine.specs.declared.entry.Entry.{Entry}
use Rattle.plcr_machine.specs.declared.image.Image.{Image}
use Rattle.plcr_machine.specs.Passes.{owes_count, IsPaced}
use Rattle.plcr_machine.specs.Histories.{IsHistory}
use Rattle.plcr_machine.specs.Changes.{TakesFirst}
use Rattle.plcr_nodes.specs.declared.view.Store.{Store}
use Rattle.plcr_nodes.specs.Names.{words_of}

-- what the writer knows: its list with its sizes, the history that it has seen with the names of
-- its loads, the numbers of the passes that it has met, and what it has stored in nodes that are
-- still free, the last first
pub record WriterState : Type 0 where
  pub table : TableId
  pub nodes : ℕ
  pub passes : ℕ
  pub history : List Entry
  pub names : List (List ℕ)
  pub joined : List ℕ
  pub stores : List Store

-- no change is open: each one was counted, and each unload took the first image with its header
pub record IsAtRest (s : WriterState) : Type 0 where
  pub known : IsHistory s.nodes s.passes s.history s.names
  pub paced : IsPaced s.history
  pub first : TakesFirst s.history
  pub counted : IsFalse (owes_count s.history)

-- what a change does: it loads an image with a header and a name, or unloads an image of the list
pub data Doing : Type 0 where
  Loads : (header : ℕ) (name : List ℕ) → Doing
  Unloads : (image : Image) → Doing

abbrev pub is_load : Doing → Bool
is_load (Loads header name) = true
is_load (Unloads image) = false

-- the step that makes the change: of a load after its words and the end link, of an unload the
-- first
abbrev pub change_step : Doing → ℕ
change_step (Loads header name) = 4 + words_of (length name)
change_step (Unloads image) = 1

-- how many steps it takes in all: after the change itself comes the count
abbrev pub steps_of : Doing → ℕ
steps_of doing = suc (change_step doing)

-- a change that was begun: what its writer knows, what it does, the number of its image's load, how
-- many steps were made, and the free node that is taken next, 0 where there is none
pub record ChangeState : Type 0 where
  pub writer : WriterState
  pub doing : Doing
  pub load : ℕ
  pub made : ℕ
  pub node : ℕ
