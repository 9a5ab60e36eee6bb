-- A change that was begun, and what each of its steps says.
use Rattle.std.specs.Prelude.{◌≡◌, ◌≢◌, ℕ, suc, ◌+◌, ◌<◌, List, ◌∷◌, length, nat_lt, if◌then◌else◌, Option, Some, None, Result, Ok, Err}
use Rattle.atomic_table.specs.Seated.{TableId}
use Rattle.plcr_machine.specs.declared.image.Image.{Image}
use Rattle.plcr_machine.specs.declared.entry.Entry.{Entry}
use Rattle.plcr_nodes.specs.Names.{words_of, payload_word, store}
use Rattle.plcr_imagelist.specs.declared.refusals.LoadRefused.{LoadRefused}
use Rattle.plcr_imagelist.specs.declared.refusals.UnloadRefused.{UnloadRefused}
use Rattle.plcr_imagelist.specs.declared.refusals.UnloadRefused.TheVariants.{NotLoaded}
use Rattle.plcr_imagelist.specs.declared.change.Progress.{Progress}
use Rattle.plcr_imagelist.specs.declared.change.Progress.TheVariants.{More, Done}
use Rattle.plcr_imagelist.specs.Refusing.{RefusesFull}
use Rattle.plcr_imagelist.specs.States.{WriterState, IsAtRest, Doing, Loads, Unloads, change_step, steps_of, ChangeState}
use Rattle.plcr_imagelist.specs.Changes.{IsCountedAt, IsChangedAt, IsBegunLoad}

-- a load began, or no node was free
abbrev pub BeginsLoad : WriterState → ℕ → List ℕ → Result ChangeState (WriterState × LoadRefused) →
    Type 0
BeginsLoad old header name (Ok change) = IsBegunLoad old header name change
BeginsLoad old header name (Err r) = RefusesFull old r.0 r.1

-- an unload that was begun
abbrev pub begun_unload : WriterState → Image → ℕ → ChangeState
begun_unload s image node =
    record { writer = s; doing = Unloads image; load = image.load; made = 0; node = node }

-- the first image with the header is to go, if there is one; nothing is done yet
abbrev pub BeginsUnload : WriterState → ℕ → Option Image →
    Result ChangeState (WriterState × UnloadRefused) → Type 0
BeginsUnload old header (Some image) (Ok change) = (image.header ≡ header)
    × (change ≡ begun_unload old image change.node)
BeginsUnload old header (Some image) (Err r) = ⊥
BeginsUnload old header None (Ok change) = ⊥
BeginsUnload old header None (Err r) = r ≡ (old, NotLoaded)

-- a change of this list of which no step is made yet
abbrev pub IsOpen : TableId → ChangeState → Type 0
IsOpen table change = (change.writer.table ≡ table) × (change.made ≡ 0)

-- the word of the node that a step of a load stores: first the payload, then the link
abbrev pub word_stored : List ℕ → ℕ → ℕ
word_stored name made = if nat_lt made (2 + words_of (length name)) then made + 1 else 0

-- and what it stores there
abbrev pub value_stored : ℕ → List ℕ → ℕ → ℕ
value_stored header name made = if nat_lt made (2 + words_of (length name))
    then payload_word header name made else 0

-- a step of a load before the change itself makes one store, in the node that the load takes
abbrev pub MakesStore : Doing → ℕ → ℕ → WriterState → WriterState → Type 0
MakesStore (Loads header name) made node old new =
    new ≡ record old {
      stores = store node (word_stored name made) (value_stored header name made)
          ∷ old.stores;
    }
MakesStore (Unloads image) made node old new = ⊥

-- one more step was made: the change itself, or one store in the node that a load takes, of which
-- nobody else learns. Which node would be taken after the change itself is open
pub record Advances (old new : ChangeState) : Type 0 where
  pub doing : new.doing ≡ old.doing
  pub load : new.load ≡ old.load
  pub made : new.made ≡ suc old.made
  pub before : new.made ≢ change_step old.doing →
      (new.node ≡ old.node) × MakesStore old.doing old.made old.node old.writer new.writer
  pub change : new.made ≡ change_step old.doing →
      IsChangedAt old.writer old.doing old.load old.node new.writer

-- what a step says: the last one counts the change
abbrev pub IsStepped : ChangeState → Progress → Type 0
IsStepped old (More new) = (suc old.made < steps_of old.doing) × Advances old new
IsStepped old (Done writer) = (suc old.made ≡ steps_of old.doing) × IsCountedAt old.writer writer
    × IsAtRest writer

-- the list of what is left after a step
abbrev pub table_of : Progress → TableId
table_of (More change) = change.writer.table
table_of (Done writer) = writer.table

-- and the history that it has seen
abbrev pub history_of : Progress → List Entry
history_of (More change) = change.writer.history
history_of (Done writer) = writer.history
