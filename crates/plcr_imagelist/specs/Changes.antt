-- What each call of the writer and of a change says.
use Rattle.std.specs.Prelude.{◌≡◌, ℕ, zero, suc, ◌+◌, true, List, ◌∷◌, Some, ◌==◌, if◌then◌else◌}
use Rattle.plcr_machine.specs.declared.image.Image.{Image}
use Rattle.plcr_machine.specs.declared.entry.Entry.{Entry}
use Rattle.plcr_machine.specs.declared.entry.Entry.TheVariants.{Load, Unload, Count, Look}
use Rattle.plcr_machine.specs.Lists.{live, loads, changes}
use Rattle.plcr_machine.specs.Histories.{IsHistory}
use Rattle.plcr_machine.specs.declared.limits.TheConstants.{MOST_CHANGES}
use Rattle.plcr_nodes.specs.Names.{stored_elsewhere}
use Rattle.plcr_nodes.specs.Seeing.{GoesOn}
use Rattle.plcr_imagelist.specs.Finding.{NoneFree, IsFreeIn, first_with, without_first}
use Rattle.plcr_imagelist.specs.States.{WriterState, Doing, Loads, Unloads, ChangeState}

-- the writer saw more of the history, none of it an entry of a writer or of a pass that it had met
abbrev pub WriterSeesMore : WriterState → List Entry → List (List ℕ) → Type 0
WriterSeesMore old past names =
    GoesOn old.nodes old.passes true old.joined old.history old.names past names

-- the writer made an entry, which came last, and which leaves the list
pub record IsNoted (entry : Entry) (old new : WriterState) : Type 0 where
  pub past : List Entry
  pub names : List (List ℕ)
  pub sees : WriterSeesMore old past names
  pub now : new ≡ record old { history = entry ∷ past; names = names }
  pub legal : IsHistory new.nodes new.passes new.history new.names

-- the stamp of a pass was looked at, and this is it
abbrev pub IsLookedAt : WriterState → ℕ → ℕ → WriterState → Type 0
IsLookedAt old pass stamp new = IsNoted (Look pass stamp) old new

-- each of the first passes was looked at once, in rising order, and so many of them had a stamp
abbrev pub Looks : ℕ → WriterState → ℕ → WriterState → Type 0
Looks zero old found new = (new ≡ old) × (found ≡ 0)
Looks (suc pass) old found new = (mid : WriterState) × (less : ℕ) × (stamp : ℕ)
    × Looks pass old less mid × IsLookedAt mid pass stamp new
    × (found ≡ less + (if stamp == 0 then 0 else 1))

-- the change was counted
abbrev pub IsCountedAt : WriterState → WriterState → Type 0
IsCountedAt old new = IsNoted Count old new

-- an image with this name stands at the end of the list, on a node that was free: the change of a
-- load. What was stored in the node is no longer among the stores in free nodes
pub record IsLoadedAt (old : WriterState) (header : ℕ) (name : List ℕ) (load node : ℕ)
    (new : WriterState) : Type 0 where
  pub past : List Entry
  pub names : List (List ℕ)
  pub sees : WriterSeesMore old past names
  pub free : IsFreeIn (record old { history = past; names = names }) node
  pub number : load ≡ suc (loads past)
  pub now : new ≡ record old {
    history = Load node load header ∷ past;
    names = name ∷ names;
    stores = stored_elsewhere node old.stores;
  }
  pub legal : IsHistory new.nodes new.passes new.history new.names

-- the image, which was the first with its header, was taken out of the list: the change of an
-- unload
pub record IsUnloadedAt (old : WriterState) (image : Image) (new : WriterState) : Type 0 where
  pub past : List Entry
  pub names : List (List ℕ)
  pub sees : WriterSeesMore old past names
  pub now : new ≡ record old { history = Unload image.node ∷ past; names = names }
  pub legal : IsHistory new.nodes new.passes new.history new.names
  pub first : first_with image.header (live old.history) ≡ Some image
  pub list : live new.history ≡ without_first image.header (live old.history)

-- the change itself was made: a load on this node, or an unload
abbrev pub IsChangedAt : WriterState → Doing → ℕ → ℕ → WriterState → Type 0
IsChangedAt old (Loads header name) load node new = IsLoadedAt old header name load node new
IsChangedAt old (Unloads image) load node new = IsUnloadedAt old image new

-- as many changes were made as a list takes
abbrev pub IsWorn : WriterState → Type 0
IsWorn s = changes s.history ≡ MOST_CHANGES

-- a load that was begun, of which no word is stored yet
abbrev pub begun_load : WriterState → ℕ → List ℕ → ℕ → ChangeState
begun_load s header name node =
    record {
      writer = s;
      doing = Loads header name;
      load = suc (loads s.history);
      made = 0;
      node = node;
    }

-- a node for a load was free at once, or else, where none was, after a look at each pass
pub data FindsNode (old : WriterState) (node : ℕ) (ready : WriterState) : Type 0 where
  AtOnce : IsFreeIn old node → ready ≡ old → FindsNode old node ready
  AfterLooks : NoneFree old.nodes old.passes old.history → (found : ℕ) →
      Looks old.passes old found ready → IsFreeIn ready node → FindsNode old node ready

-- a load began, on such a node
pub record IsBegunLoad (old : WriterState) (header : ℕ) (name : List ℕ)
    (change : ChangeState) : Type 0 where
  pub finds : FindsNode old change.node change.writer
  pub begun : change ≡ begun_load change.writer header name change.node
