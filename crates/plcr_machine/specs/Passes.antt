-- Which passes have announced themselves and which are inside, their stamps, and how many changes
-- were counted, after a history with the newest entry first.
use Rattle.std.specs.Prelude.{ℕ, zero, suc, ◌+◌, List, [], ◌∷◌, Bool, true, false, ◌==◌, ◌&&◌, if◌then◌else◌, IsTrue, IsFalse}
use Rattle.plcr_machine.specs.declared.entry.Entry.{Entry}
use Rattle.plcr_machine.specs.declared.entry.Entry.TheVariants.{Announce, Enter, Leave, Retire, Load, Unload, Count}

-- whether a pass is inside: the last of its enters and leaves is an enter
abbrev pub is_inside : ℕ → List Entry → Bool
is_inside pass [] = false
is_inside pass (Enter p ∷ past) = if p == pass then true else is_inside pass past
is_inside pass (Leave p ∷ past) = if p == pass then false else is_inside pass past
is_inside pass (_ ∷ past) = is_inside pass past

-- whether a pass is announced: the last of its announces and retires is an announce
abbrev pub is_announced : ℕ → List Entry → Bool
is_announced pass [] = false
is_announced pass (Announce p _ ∷ past) = if p == pass then true else is_announced pass past
is_announced pass (Retire p ∷ past) = if p == pass then false else is_announced pass past
is_announced pass (_ ∷ past) = is_announced pass past

-- the number of counts that a pass announced last; 0 where it never announced itself
abbrev pub seen_by : ℕ → List Entry → ℕ
seen_by pass [] = 0
seen_by pass (Announce p seen ∷ past) = if p == pass then seen else seen_by pass past
seen_by pass (_ ∷ past) = seen_by pass past

-- the stamp of a pass: 0 where it is not announced, else 1 more than the number of counts that it
-- announced last
abbrev pub stamp_of : ℕ → List Entry → ℕ
stamp_of pass history = if is_announced pass history then suc (seen_by pass history) else 0

-- how many of the numbers below n pass a test
abbrev pub count_below : (ℕ → Bool) → ℕ → ℕ
count_below test zero = 0
count_below test (suc n) = (if test n then 1 else 0) + count_below test n

-- whether all of the numbers below n pass a test
abbrev pub all_under : (ℕ → Bool) → ℕ → Bool
all_under test zero = true
all_under test (suc n) = test n && all_under test n

-- how many of the passes are announced
abbrev pub announced_count : ℕ → List Entry → ℕ
announced_count passes history = count_below (λ pass. is_announced pass history) passes

-- how many counts a history has
abbrev pub counts : List Entry → ℕ
counts [] = 0
counts (Count ∷ past) = suc (counts past)
counts (_ ∷ past) = counts past

-- whether the last of all changes and counts is a change
abbrev pub owes_count : List Entry → Bool
owes_count [] = false
owes_count (Load _ _ _ ∷ past) = true
owes_count (Unload _ ∷ past) = true
owes_count (Count ∷ past) = false
owes_count (_ ∷ past) = owes_count past

-- changes and counts alternate, a change first
abbrev pub IsPaced : List Entry → Type 0
IsPaced [] = Unit {0}
IsPaced (Load _ _ _ ∷ past) = IsFalse (owes_count past) × IsPaced past
IsPaced (Unload _ ∷ past) = IsFalse (owes_count past) × IsPaced past
IsPaced (Count ∷ past) = IsTrue (owes_count past) × IsPaced past
IsPaced (_ ∷ past) = IsPaced past
