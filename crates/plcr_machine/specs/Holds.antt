-- What a pass may still reach. A hold of a pass reaches from where it went in to where it came out,
-- or to now. The newest entry stands first.
use Rattle.std.specs.Prelude.{ℕ, List, [], ◌∷◌, Bool, false, ◌||◌, ◌&&◌, ◌==◌, if◌then◌else◌, IsFalse}
use Rattle.plcr_machine.specs.declared.entry.Entry.{Entry}
use Rattle.plcr_machine.specs.declared.entry.Entry.TheVariants.{Enter, Load}
use Rattle.plcr_machine.specs.Lists.{has, live}
use Rattle.plcr_machine.specs.Passes.{is_inside}

-- the history before the pass went in for the last time
abbrev pub before_enter : ℕ → List Entry → List Entry
before_enter pass [] = []
before_enter pass (Enter p ∷ past) = if p == pass then past else before_enter pass past
before_enter pass (_ ∷ past) = before_enter pass past

-- whether a pass is inside, and a node was in the list at some moment of its hold
abbrev pub may_reach : ℕ → ℕ → List Entry → Bool
may_reach pass node [] = false
may_reach pass node (entry ∷ past) =
    is_inside pass (entry ∷ past) && (has node (live (entry ∷ past)) || may_reach pass node past)

-- no node is loaded that a pass may still reach
abbrev pub IsKept : List Entry → Type 0
IsKept [] = Unit {0}
IsKept (Load node _ _ ∷ past) = ((pass : ℕ) → IsFalse (may_reach pass node past)) × IsKept past
IsKept (_ ∷ past) = IsKept past
