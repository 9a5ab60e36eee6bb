-- What a hold knows over a walk.
use Rattle.std.proofs.Common.{◌≡◌, ◌∷◌, ℕ}
use Rattle.plcr_machine.specs.declared.entry.Entry.TheVariants.{Announce, Enter}
use Rattle.plcr_machine.specs.Parts.{own_entries}
use Rattle.plcr_imagelist.specs.Holds.{WalkerState, HoldState}

-- the hold is one of the pass, which went in once
pub record IsIn (pass : WalkerState) (hold : HoldState) : Type 0 where
  pub table : hold.walker.table ≡ pass.table
  pub number : hold.walker.number ≡ pass.number
  pub seen : ℕ
  pub entered : own_entries pass.number hold.walker.history ≡ Enter pass.number ∷ Announce pass.number seen ∷ own_entries pass.number pass.history
