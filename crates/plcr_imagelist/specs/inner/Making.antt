-- What a change keeps between two steps, and how far it has come.
use Rattle.std.specs.Prelude.{◌≡◌, ◌≢◌, ℕ, zero, suc, ◌+◌, ◌<◌, ◌≤◌, List, ◌∷◌, length, slice_index_or, Some, ◌==◌}
use Rattle.plcr_base.specs.Bytes.{IsBytes}
use Rattle.plcr_base.specs.Limits.{IsImageName}
use Rattle.plcr_machine.specs.Lists.{live, loads}
use Rattle.plcr_machine.specs.Passes.{counts, owes_count, IsPaced}
use Rattle.plcr_machine.specs.Histories.{IsHistory}
use Rattle.plcr_machine.specs.Changes.{TakesFirst}
use Rattle.plcr_machine.specs.declared.limits.TheConstants.{MOST_CHANGES}
use Rattle.plcr_nodes.specs.declared.view.Store.{Store}
use Rattle.plcr_nodes.specs.Names.{store, stored, stored_elsewhere}
use Rattle.plcr_imagelist.specs.declared.change.Task.{Task}
use Rattle.plcr_imagelist.specs.declared.change.Task.TheVariants.{Load, Unload}
use Rattle.plcr_imagelist.specs.Finding.{first_with}
use Rattle.plcr_imagelist.specs.Changes.{IsChangedAt, IsCountedAt, FindsNode}
use Rattle.plcr_imagelist.specs.States.{WriterState, IsAtRest, Doing, Loads, Unloads, change_step, ChangeState}
use Rattle.plcr_imagelist.specs.Steps.{word_stored, value_stored, MakesStore}
use Rattle.plcr_imagelist.specs.inner.Keeping.{writer_state, BooksState}

-- what a change does, with the name that it keeps
abbrev pub doing_of : Task → List ℕ → Doing
doing_of (Load header) name = Loads header name
doing_of (Unload at image) name = Unloads image

-- so many steps of a load were made
abbrev pub AreStored : ℕ → ℕ → List ℕ → ℕ → List Store → Type 0
AreStored node header name made stores = (k : ℕ) → k < made →
    stored node (word_stored name k) stores ≡ Some (value_stored header name k)

-- the stores in free nodes after so many steps of a load
abbrev pub stores_after : ℕ → ℕ → List ℕ → ℕ → List Store → List Store
stores_after node header name zero stores = stores
stores_after node header name (suc made) stores =
    store node (word_stored name made) (value_stored header name made) ∷ stores_after node header
    name made stores

-- until the change itself, a load only stores in its node, and an unload does nothing
abbrev pub OnlyStores : Doing → ℕ → WriterState → WriterState → Type 0
OnlyStores (Loads header name) node start now = (now ≡ record start { stores = now.stores })
    × (stored_elsewhere node now.stores ≡ stored_elsewhere node start.stores)
OnlyStores (Unloads image) node start now = now ≡ start

-- the change itself is still to be made
abbrev pub IsReady : BooksState → Task → List ℕ → ℕ → ℕ → Type 0
IsReady b (Load header) name load made = (b.spare ≢ 0) × (load ≡ suc (loads b.owner.history))
    × AreStored b.spare header name made b.owner.filled
IsReady b (Unload at image) name load made = (at < length (live b.owner.history))
    × (image ≡ slice_index_or (live b.owner.history) at image)
    × (first_with image.header (live b.owner.history) ≡ Some image)

-- a change between two of its steps
pub record IsMaking (b : BooksState) (task : Task) (name : List ℕ) (load made : ℕ) : Type 0 where
  pub known : IsHistory b.owner.nodes b.owner.passes b.owner.history b.owner.names
  pub paced : IsPaced b.owner.history
  pub first : TakesFirst b.owner.history
  pub short : IsImageName name
  pub bytes : IsBytes name
  pub most : made ≤ change_step (doing_of task name)
  pub fewer : counts b.owner.history < MOST_CHANGES
  pub owes : owes_count b.owner.history ≡ (made == change_step (doing_of task name))
  pub ready : made < change_step (doing_of task name) → IsReady b task name load made

-- one more step was made, before the count
pub record MakesStep (old new : BooksState) (task : Task) (name : List ℕ) (load made : ℕ) : Type 0
  where
    pub making : IsMaking new task name load (made + 1)
    pub before : suc made ≢ change_step (doing_of task name) →
        (new.spare ≡ old.spare)
        × MakesStore (doing_of task name) made old.spare (writer_state old.owner)
        (writer_state new.owner)
    pub change : suc made ≡ change_step (doing_of task name) →
        IsChangedAt (writer_state old.owner) (doing_of task name) load old.spare
        (writer_state new.owner)

-- a change that came this far: the change itself is still to be made, or it was
pub record HasCome (start now : ChangeState) : Type 0 where
  pub table : now.writer.table ≡ start.writer.table
  pub doing : now.doing ≡ start.doing
  pub load : now.load ≡ start.load
  pub most : now.made ≤ change_step start.doing
  pub before : now.made < change_step start.doing →
      (now.node ≡ start.node) × OnlyStores start.doing start.node start.writer now.writer
  pub after : now.made ≡ change_step start.doing →
      IsChangedAt start.writer start.doing start.load start.node now.writer

-- all steps were made: the change itself, and then the count
pub record IsFinished (start : ChangeState) (writer : WriterState) : Type 0 where
  pub changed : WriterState
  pub change : IsChangedAt start.writer start.doing start.load start.node changed
  pub count : IsCountedAt changed writer
  pub rest : IsAtRest writer

-- there is a free node for the next load
pub record FindsRoom (old new : BooksState) : Type 0 where
  pub some : new.spare ≢ 0
  pub finds : FindsNode (writer_state old.owner) new.spare (writer_state new.owner)
