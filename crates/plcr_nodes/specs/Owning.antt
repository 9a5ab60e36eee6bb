-- What each call of the owner says.
use Rattle.std.specs.Prelude.{◌≡◌, ◌≢◌, ℕ, suc, List, ◌∷◌}
use Rattle.plcr_machine.specs.declared.entry.Entry.{Entry}
use Rattle.plcr_machine.specs.declared.entry.Entry.TheVariants.{Load, Unload, Count, Look}
use Rattle.plcr_machine.specs.Histories.{IsHistory}
use Rattle.plcr_machine.specs.Lists.{loads}
use Rattle.plcr_machine.specs.Passes.{counts, stamp_of}
use Rattle.plcr_machine.specs.Links.{link_of, IsPlace}
use Rattle.plcr_nodes.specs.Names.{header_in, name_in, stored_elsewhere}
use Rattle.plcr_nodes.specs.Tokens.{OwnerState, OwnerSeesMore}

-- the owner made an entry, which came last
pub record IsOwnerEntry (entry : Entry) (old new : OwnerState) : Type 0 where
  pub past : List Entry
  pub names : List (List ℕ)
  pub sees : OwnerSeesMore old past names
  pub now : new ≡ record old { history = entry ∷ past; names = names }
  pub legal : IsHistory new.nodes new.passes new.history new.names

-- the image that was stored in the node stands at the end of the list
pub record IsLinked (old : OwnerState) (node : ℕ) (new : OwnerState) : Type 0 where
  pub past : List Entry
  pub names : List (List ℕ)
  pub sees : OwnerSeesMore old past names
  pub now : new ≡ record old {
    history = Load node (suc (loads past)) (header_in node old.filled)
        ∷ past;
    names = name_in node old.filled ∷ names;
    filled = stored_elsewhere node old.filled;
  }
  pub legal : IsHistory new.nodes new.passes new.history new.names

-- the node that follows a place of the list
pub record Follows (before node : ℕ) (history : List Entry) : Type 0 where
  pub place : IsPlace before history
  pub next : link_of before history ≡ node
  pub some : node ≢ 0

-- the node was taken out of the list
abbrev pub IsUnlinked : OwnerState → ℕ → OwnerState → Type 0
IsUnlinked old node new = IsOwnerEntry (Unload node) old new

-- a change was counted, and so many were before it
pub record IsCounted (old : OwnerState) (found : ℕ) (new : OwnerState) : Type 0 where
  pub entry : IsOwnerEntry Count old new
  pub gate : found ≡ counts entry.past

-- the stamp of a pass was looked at
pub record IsLooked (old : OwnerState) (pass found : ℕ) (new : OwnerState) : Type 0 where
  pub entry : IsOwnerEntry (Look pass found) old new
  pub stamp : found ≡ stamp_of pass entry.past
