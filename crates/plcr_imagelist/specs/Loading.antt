-- What a whole load and a whole unload say.
use Rattle.std.specs.Prelude.{◌≡◌, ℕ, suc, ◌+◌, List, [], ◌∷◌, ◌++◌, Option, Some, None, Result, Ok, Err}
use Rattle.plcr_machine.specs.declared.image.Image.{Image}
use Rattle.plcr_machine.specs.Lists.{Grows, live, loads, changes, without, name_of}
use Rattle.plcr_nodes.specs.Entries.{WentOn}
use Rattle.plcr_imagelist.specs.declared.refusals.LoadRefused.{LoadRefused}
use Rattle.plcr_imagelist.specs.declared.refusals.UnloadRefused.{UnloadRefused}
use Rattle.plcr_imagelist.specs.declared.refusals.UnloadRefused.TheVariants.{NotLoaded}
use Rattle.plcr_imagelist.specs.States.{WriterState, ChangeState}
use Rattle.plcr_imagelist.specs.Changes.{IsCountedAt, IsLoadedAt, IsUnloadedAt, FindsNode}
use Rattle.plcr_imagelist.specs.Refusing.{RefusesFull}

-- how many changes an answer tells of: one, or none where it was refused
abbrev pub made_by : {E : Type 0} → Result ℕ E → ℕ
made_by (Ok number) = 1
made_by (Err refused) = 0

-- what the writer had seen went on, and so many changes were made
pub record HasMade (old : WriterState) (made : ℕ) (new : WriterState) : Type 0 where
  pub grows : Grows old.history new.history
  pub names : WentOn old.names new.names
  pub more : changes new.history ≡ made + changes old.history

-- the writer after a change was begun or refused
abbrev pub writer_left : {E : Type 0} → Result ChangeState (WriterState × E) → WriterState
writer_left (Ok change) = change.writer
writer_left (Err r) = r.0

-- an image with this name stands at the end of the writer's list, and its number is the next
pub record IsLoaded (old : WriterState) (header : ℕ) (name : List ℕ) (number : ℕ)
    (new : WriterState) : Type 0 where
  -- the steps: the writer was ready with a free node, the image was linked, and the change was
  -- counted
  pub node : ℕ
  pub ready : WriterState
  pub finds : FindsNode old node ready
  pub linked : WriterState
  pub link : IsLoadedAt ready header name number node linked
  pub count : IsCountedAt linked new
  -- and what they come to
  pub number_is : number ≡ suc (loads old.history)
  pub list : live new.history ≡ live old.history
      ++ record { node = node; load = number; header = header } ∷ []
  pub named : name_of number new.names ≡ name

-- a load was made whole, or no node was free
abbrev pub LoadsOrRefuses : WriterState → ℕ → List ℕ → WriterState → Result ℕ LoadRefused → Type 0
LoadsOrRefuses old header name new (Ok number) = IsLoaded old header name number new
LoadsOrRefuses old header name new (Err refused) = RefusesFull old new refused

-- the image was taken out of the writer's list
pub record IsUnloaded (old : WriterState) (image : Image) (new : WriterState) : Type 0 where
  -- the steps: the image was unlinked, and the change was counted
  pub unlinked : WriterState
  pub unlink : IsUnloadedAt old image unlinked
  pub count : IsCountedAt unlinked new
  -- and what they come to
  pub list : live new.history ≡ without image.node (live old.history)

-- the first image with the header was unloaded, where there is one
abbrev pub UnloadsOrRefuses : WriterState → Option Image → WriterState → Result ℕ UnloadRefused →
    Type 0
UnloadsOrRefuses old (Some image) new (Ok number) = (number ≡ image.load) × IsUnloaded old image new
UnloadsOrRefuses old (Some image) new (Err refused) = ⊥
UnloadsOrRefuses old None new (Ok number) = ⊥
UnloadsOrRefuses old None new (Err refused) = (refused ≡ NotLoaded) × (new ≡ old)
