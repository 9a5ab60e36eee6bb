-- What callers carry over the calls of a pass and of a hold: what the pass saw, and what it made.
use Rattle.std.specs.Prelude.{◌≡◌, ℕ, ◌≤◌, List, ◌∷◌}
use Rattle.plcr_machine.specs.declared.image.Image.{Image}
use Rattle.plcr_machine.specs.declared.entry.Entry.{Entry}
use Rattle.plcr_machine.specs.declared.entry.Entry.TheVariants.{Announce, Enter, Leave, Retire}
use Rattle.plcr_machine.specs.Lists.{Grows, changes, loads, name_of}
use Rattle.plcr_machine.specs.Passes.{counts}
use Rattle.plcr_machine.specs.Parts.{own_entries}
use Rattle.plcr_machine.specs.Holds.{before_enter}
use Rattle.plcr_machine.specs.Changes.{all_named}
use Rattle.plcr_nodes.specs.Entries.{WentOn}
use Rattle.plcr_imagelist.specs.Holds.{WalkerState, HoldState, WalkerSeesMore, HasEnded, IsWalking, IsHeld, IsReleased}
use Rattle.plcr_imagelist.specs.Walk.{IsSameWalk}

-- The pass saw more and made no entry: it stands as it did, in or out since the same enter. What
-- was known of the history stays so
pub record OnlySees (old new : WalkerState) : Type 0 where
  pub sees : WalkerSeesMore old new.history new.names
  pub now : new ≡ record old { history = new.history; names = new.names }
  -- what that comes to
  pub before : before_enter old.number new.history ≡ before_enter old.number old.history
  pub own : own_entries old.number new.history ≡ own_entries old.number old.history
  pub counted : counts old.history ≤ counts new.history
  pub changed : changes old.history ≤ changes new.history
  pub loaded : loads old.history ≤ loads new.history
  pub named : (load : ℕ) → load ≤ loads old.history →
      name_of load new.names ≡ name_of load old.names
  pub ends : (a b : ℕ) (met : List Image) → HasEnded old.history a b met →
      HasEnded new.history a b met

-- A pass went in and came out. Its histories before the enter and before the leave are beginnings
-- of what it knows then, and of its own it made four entries
pub record IsVisit (old new : WalkerState) (low high : ℕ) : Type 0 where
  pub seen : ℕ
  pub fresh : counts old.history ≤ seen
  pub before : List Entry
  pub inside : List Entry
  pub grows : Grows old.history before
  pub entered : Grows (Enter old.number ∷ before) inside
  pub left : Grows (Leave old.number ∷ inside) new.history
  pub went : WentOn old.names new.names
  pub own : own_entries old.number new.history ≡ Retire old.number ∷ Leave old.number
      ∷ Enter old.number ∷ Announce old.number seen ∷ own_entries old.number old.history
  pub start : before_enter old.number new.history ≡ before
  pub low_is : low ≡ counts before
  pub high_is : high ≡ counts inside

-- a pass only sees what it has seen, and what it sees by two calls it sees
abbrev pub SeeingGoesOn : Type 0
SeeingGoesOn = (a b c : WalkerState) → OnlySees a b → OnlySees b c → OnlySees a c

-- a hold whose images were read only sees
abbrev pub ReadingOnlySees : Type 0
ReadingOnlySees = (old new : HoldState) → IsWalking old → IsSameWalk old new →
    OnlySees old.walker new.walker

-- what a walk has met has the names that it had
abbrev pub MetStayNamed : Type 0
MetStayNamed = (hold : HoldState) (new : WalkerState) → IsWalking hold → OnlySees hold.walker new →
    all_named new.names hold.met ≡ all_named hold.walker.names hold.met

-- a pass that goes in, sees and comes out has made a visit
abbrev pub VisitsAreMade : Type 0
VisitsAreMade = (old new : WalkerState) (low high : ℕ) (early late : HoldState) → IsHeld old early →
    OnlySees early.walker late.walker → IsReleased late new low high → IsVisit old new low high
