-- What contracts see of passes and holds, and what each of their calls says.
use Rattle.std.specs.Prelude.{◌≡◌, ℕ, ◌≤◌, Bool, true, false, List, [], ◌∷◌, ◌++◌, length, Some, None, IsTrue}
use Rattle.atomic_table.specs.Seated.{TableId}
use Rattle.plcr_machine.specs.declared.image.Image.{Image}
use Rattle.plcr_machine.specs.declared.entry.Entry.{Entry}
use Rattle.plcr_machine.specs.declared.entry.Entry.TheVariants.{Announce, Enter, Leave, Retire}
use Rattle.plcr_machine.specs.Lists.{Grows, load_number, changes, list_after}
use Rattle.plcr_machine.specs.Walks.{RisesAbove, follow, last_met, Meets, IsWholeWalk, IsLawfulWalk}
use Rattle.plcr_machine.specs.Passes.{is_inside, counts}
use Rattle.plcr_machine.specs.Histories.{IsHistory}
use Rattle.plcr_machine.specs.Holds.{before_enter}
use Rattle.plcr_machine.specs.Parts.{own_entries}
use Rattle.plcr_macho.specs.Index.{Extent}
use Rattle.plcr_nodes.specs.Entries.{WentOn}
use Rattle.plcr_nodes.specs.Names.{AreNames}
use Rattle.plcr_nodes.specs.Seeing.{GoesOn}

-- what a pass knows: its list with its sizes, its number, and the history that it has seen with the
-- names of its loads
pub record WalkerState : Type 0 where
  pub table : TableId
  pub nodes : ℕ
  pub passes : ℕ
  pub number : ℕ
  pub history : List Entry
  pub names : List (List ℕ)

-- what a hold knows: what its pass does, the images that its walk has met, whether the walk has
-- ended, and the index that was made last in its room
pub record HoldState : Type 0 where
  pub walker : WalkerState
  pub met : List Image
  pub ended : Bool
  pub extents : List Extent

-- the pass saw more of the history, none of it an entry of its own
abbrev pub WalkerSeesMore : WalkerState → List Entry → List (List ℕ) → Type 0
WalkerSeesMore old past names =
    GoesOn old.nodes old.passes false (old.number ∷ []) old.history old.names past names

-- the pass made an entry, which came last
pub record IsPassed (old : WalkerState) (entry : Entry) (new : WalkerState) : Type 0 where
  pub past : List Entry
  pub names : List (List ℕ)
  pub sees : WalkerSeesMore old past names
  pub now : new ≡ record old { history = entry ∷ past; names = names }
  pub legal : IsHistory new.nodes new.passes new.history new.names

-- how many changes there were before the hold's enter
abbrev pub start_of : WalkerState → ℕ
start_of w = changes (before_enter w.number w.history)

-- a walk that began after a changes has come to its end after b: it is whole, and lawful between
-- the list after a changes and the list after b
pub record HasEnded (h : List Entry) (a b : ℕ) (met : List Image) : Type 0 where
  pub within : b ≤ changes h
  pub whole : IsWholeWalk load_number (list_after h) a b met
  pub lawful : IsLawfulWalk load_number (list_after h) a b met

-- the walk of a hold, which began at its enter, has come to its end after so many changes
abbrev pub EndedAt : HoldState → ℕ → Type 0
EndedAt s b = HasEnded s.walker.history (start_of s.walker) b s.met

-- the walk of a hold: from its enter on, each image followed the one met before it; once it has
-- ended, nothing followed
pub record IsWalking (s : HoldState) : Type 0 where
  pub known : IsHistory s.walker.nodes s.walker.passes s.walker.history s.walker.names
  pub short : AreNames s.walker.names
  pub inside : IsTrue (is_inside s.walker.number s.walker.history)
  pub meets : Meets load_number (list_after s.walker.history) 0 (start_of s.walker)
      (changes s.walker.history) s.met
  pub rises : RisesAbove load_number 0 s.met
  pub few : length s.met ≤ s.walker.nodes
  pub whole : s.ended ≡ true → (b : ℕ) × EndedAt s b

-- The pass announced itself, with a number of counts that it saw in this call, and went in. Its
-- walk has met nothing
pub record IsHeld (old : WalkerState) (new : HoldState) : Type 0 where
  pub seen : ℕ
  pub fresh : counts old.history ≤ seen
  pub announced : WalkerState
  pub announce : IsPassed old (Announce old.number seen) announced
  pub enter : IsPassed announced (Enter old.number) new.walker
  pub start : (new.met ≡ []) × (new.ended ≡ false) × (new.extents ≡ [])
  -- what these two steps come to
  pub grows : Grows old.history new.walker.history
  pub went : WentOn old.names new.walker.names
  pub own : own_entries old.number new.walker.history ≡ Enter old.number ∷ Announce old.number seen
      ∷ own_entries old.number old.history
  pub before : before_enter old.number new.walker.history ≡ enter.past

-- the walk met the image that follows, or nothing followed and it has ended
pub record GoesFurther (old : HoldState) (more : Bool) (new : HoldState) : Type 0 where
  pub past : List Entry
  pub names : List (List ℕ)
  pub sees : WalkerSeesMore old.walker past names
  pub walker : new.walker ≡ record old.walker { history = past; names = names }
  pub met : more ≡ true →
      (new.ended ≡ false) × ((x : Image)
      × (follow load_number (list_after past) (last_met load_number 0 old.met) (changes past)
      ≡ Some x) × (new.met ≡ old.met ++ x ∷ []))
  pub end : more ≡ false →
      (new.ended ≡ true) × (follow load_number (list_after past) (last_met load_number 0 old.met)
      (changes past) ≡ None) × (new.met ≡ old.met)
  -- the walk that ended is lawful up to the list that its pass saw then
  pub lawful : more ≡ false → EndedAt new (changes past)

-- and a walk that has ended stays as it is
pub record IsNext (old : HoldState) (more : Bool) (new : HoldState) : Type 0 where
  pub ended : old.ended ≡ true → (more ≡ false) × (new ≡ old)
  pub goes : old.ended ≡ false → GoesFurther old more new

-- The pass came out and took its announcement back, and this is how many changes were counted
-- before it went in and before it came out
pub record IsReleased (old : HoldState) (new : WalkerState) (low high : ℕ) : Type 0 where
  pub out : WalkerState
  pub leave : IsPassed old.walker (Leave old.walker.number) out
  pub retire : IsPassed out (Retire old.walker.number) new
  pub low_is : low ≡ counts (before_enter old.walker.number old.walker.history)
  pub high_is : high ≡ counts leave.past
  -- what these two steps come to
  pub grows : Grows old.walker.history new.history
  pub went : WentOn old.walker.names new.names
  pub own : own_entries old.walker.number new.history ≡ Retire old.walker.number
      ∷ Leave old.walker.number ∷ own_entries old.walker.number old.walker.history
  pub before : before_enter old.walker.number new.history
      ≡ before_enter old.walker.number old.walker.history
  -- a walk that ended has ended there still
  pub ends : (b : ℕ) → EndedAt old b → HasEnded new.history (start_of new) b old.met
