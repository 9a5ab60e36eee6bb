-- The stays of a pass in the list: from where it went in to where it came out, with the images that
-- its walk met.
use Rattle.std.specs.Prelude.{◌≡◌, ◌⊎◌, ℕ, suc, ◌<◌, ◌≤◌, Bool, true, List, [], ◌∷◌, ◌++◌, Option, Some, None, Contains}
use Rattle.plcr_machine.specs.declared.entry.Entry.{Entry}
use Rattle.plcr_machine.specs.declared.entry.Entry.TheVariants.{Announce, Enter, Leave, Retire}
use Rattle.plcr_machine.specs.declared.change.Named.{Named}
use Rattle.plcr_machine.specs.Lists.{Grows, changes}
use Rattle.plcr_machine.specs.Parts.{own_entries}
use Rattle.plcr_machine.specs.Passes.{counts}
use Rattle.plcr_machine.specs.Walks.{RisesAbove, IsLawfulWalk}
use Rattle.plcr_machine.specs.Changes.{load_of, changes_of, list_after_changes}
use Rattle.plcr_imagelist.specs.States.{WriterState}
use Rattle.plcr_turns.specs.declared.lines.ChangeLine.{ChangeLine}
use Rattle.plcr_turns.specs.Lines.{accepted}

-- a stay: the lines of its script where the pass went in and where it came out, none where it came
-- out at the script's end; how many counts it announced; the history before it went in and the one
-- before it came out; the images that its walk met, and whether the walk came to its end
pub record Stay : Type 0 where
  pub enter : ℕ
  pub leave : Option ℕ
  pub announced : ℕ
  pub before : List Entry
  pub inside : List Entry
  pub met : List Named
  pub ended : Bool

-- the list after so many changes of the history that the writer has seen
abbrev pub lists : WriterState → ℕ → List Named
lists w j = list_after_changes (changes_of w.names w.history) j

-- as many changes as counts, or one more that isn't counted yet
abbrev pub IsPacedAt : List Entry → Type 0
IsPacedAt h = (changes h ≡ counts h) ⊎ (changes h ≡ suc (counts h))

-- a stay of a pass in the history that the writer has seen. What its walk met stood in lists
-- between the one at the enter and the one at the leave; and where the walk came to its end, it is
-- lawful between these
pub record IsStay (w : WriterState) (pass : ℕ) (stay : Stay) : Type 0 where
  pub entered : Grows (Enter pass ∷ stay.before) stay.inside
  pub left : Grows (Leave pass ∷ stay.inside) w.history
  pub pace : IsPacedAt stay.before × IsPacedAt stay.inside
  pub rises : RisesAbove load_of 0 stay.met
  pub listed : (image : Named) → Contains stay.met image → (j : ℕ) × (changes stay.before ≤ j)
      × (j ≤ changes stay.inside) × Contains (lists w j) image
  pub lawful : stay.ended ≡ true →
      IsLawfulWalk load_of (lists w) (changes stay.before) (changes stay.inside) stay.met

-- Stays of a pass that come one after the other, behind these entries of it. Each begins where the
-- one before it ended: of the pass's own entries, those before it went in are the ones behind and
-- an announcement, and those before it came out are the same and the entering. At last these are
-- all
abbrev pub FollowOn : ℕ → List Entry → List Stay → List Entry → Type 0
FollowOn pass past [] all = all ≡ past
FollowOn pass past (stay ∷ stays) all =
    (own_entries pass stay.before ≡ Announce pass stay.announced ∷ past)
    × (own_entries pass stay.inside ≡ Enter pass ∷ Announce pass stay.announced ∷ past)
    × FollowOn pass (Retire pass ∷ Leave pass ∷ Enter pass ∷ Announce pass stay.announced ∷ past)
    stays all

-- a line stands behind a stay that ended at a line
abbrev pub IsBehind : Option ℕ → ℕ → Type 0
IsBehind None line = ⊥
IsBehind (Some leave) line = leave < line

-- a stay is fresh: a change line of its script that stands before its enter was applied before it,
-- and one behind its leave comes after all that it saw
pub record IsFresh (script : ℕ) (stay : Stay) (before : List ChangeLine)
    (line : ChangeLine) : Type 0 where
  pub earlier : line.script ≡ script → line.wanted.line < stay.enter →
      accepted (before ++ line ∷ []) ≤ changes stay.before
  pub later : line.script ≡ script → IsBehind stay.leave line.wanted.line →
      changes stay.inside ≤ accepted before
