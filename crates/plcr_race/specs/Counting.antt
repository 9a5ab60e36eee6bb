-- What the numbers of a race count, in what tokens know of the history of their list.
use Rattle.std.specs.Prelude.{◌≡◌, ◌<◌, ℕ, zero, suc, ◌+◌, Bool, true, if◌then◌else◌, List, ◌∷◌, length, slice_index_or}
use Rattle.plcr_machine.specs.declared.entry.Entry.TheVariants.{Announce, Enter}
use Rattle.plcr_machine.specs.Lists.{changes, loads}
use Rattle.plcr_machine.specs.Parts.{own_entries}
use Rattle.plcr_imagelist.specs.States.{WriterState}
use Rattle.plcr_imagelist.specs.Holds.{WalkerState, HoldState, IsReleased, IsWalking}

-- a call that wasn't refused counts one, and one that was counts nothing
abbrev pub one_if : Bool → ℕ
one_if good = if good then 1 else 0

-- the writer made so many changes more: loads and unloads
abbrev pub MakesChanges : WriterState → ℕ → WriterState → Type 0
MakesChanges old count new = changes new.history ≡ changes old.history + count

-- the writer made so many loads more, and no other change
abbrev pub MakesLoads : WriterState → ℕ → WriterState → Type 0
MakesLoads old count new = (loads new.history ≡ loads old.history + count)
    × MakesChanges old count new

-- one walk: the pass announced itself and went in once, met so many images, each the one that
-- follows, until none followed, and came out
pub record IsWalk (old : WalkerState) (met : ℕ) (new : WalkerState) : Type 0 where
  -- the hold as its walk had ended
  pub hold : HoldState
  pub table : hold.walker.table ≡ old.table
  pub number : hold.walker.number ≡ old.number
  pub seen : ℕ
  pub entered : own_entries old.number hold.walker.history ≡ Enter old.number
      ∷ Announce old.number seen ∷ own_entries old.number old.history
  pub walking : IsWalking hold
  pub ended : hold.ended ≡ true
  pub images : met ≡ length hold.met
  pub low : ℕ
  pub high : ℕ
  pub left : IsReleased hold new low high

-- so many walks, one after the other, which met so many images in all
abbrev pub AreWalks : WalkerState → ℕ → ℕ → WalkerState → Type 0
AreWalks old zero met new = (met ≡ 0) × (new ≡ old)
AreWalks old (suc walks) met new = (before : ℕ) × (between : WalkerState)
    × AreWalks old walks before between
    × ((last : ℕ) × IsWalk between last new × (met ≡ before + last))
