-- The parts of a history that are made by one pass, or by the one writer, or that change the list.
-- The newest entry stands first.
use Rattle.std.specs.Prelude.{◌≡◌, ℕ, zero, suc, ◌+◌, List, [], ◌∷◌, ◌==◌, if◌then◌else◌}
use Rattle.plcr_machine.specs.declared.entry.Entry.{Entry}
use Rattle.plcr_machine.specs.declared.entry.Entry.TheVariants.{Announce, Enter, Leave, Retire, Load, Unload}

-- the entries of one pass: where it announced itself, went in, came out and retired
abbrev pub own_entries : ℕ → List Entry → List Entry
own_entries pass [] = []
own_entries pass (Announce p seen ∷ past) =
    if p == pass then Announce p seen ∷ own_entries pass past else own_entries pass past
own_entries pass (Enter p ∷ past) = if p == pass then Enter p ∷ own_entries pass past
    else own_entries pass past
own_entries pass (Leave p ∷ past) = if p == pass then Leave p ∷ own_entries pass past
    else own_entries pass past
own_entries pass (Retire p ∷ past) = if p == pass then Retire p ∷ own_entries pass past
    else own_entries pass past
own_entries pass (_ ∷ past) = own_entries pass past

-- the entries that a pass makes by whole holds, one for each number of counts that it announced: it
-- announces itself, goes in, comes out and retires. The newest hold stands first
abbrev pub entries_of_holds : ℕ → List ℕ → List Entry
entries_of_holds pass [] = []
entries_of_holds pass (seen ∷ earlier) = Retire pass ∷ Leave pass ∷ Enter pass ∷ Announce pass seen
    ∷ entries_of_holds pass earlier

-- all that a pass did are whole holds
abbrev pub MadeHolds : ℕ → List Entry → Type 0
MadeHolds pass history = (seens : List ℕ) × (own_entries pass history ≡ entries_of_holds pass seens)

-- and then it announced itself and went in
abbrev pub MadeHoldsAndEntered : ℕ → List Entry → Type 0
MadeHoldsAndEntered pass history = (seen : ℕ) × (seens : List ℕ)
    × (own_entries pass history ≡ Enter pass ∷ Announce pass seen ∷ entries_of_holds pass seens)

-- the entries that only the writer makes: loads, unloads, counts and looks
abbrev pub owner_entries : List Entry → List Entry
owner_entries [] = []
owner_entries (Announce _ _ ∷ past) = owner_entries past
owner_entries (Enter _ ∷ past) = owner_entries past
owner_entries (Leave _ ∷ past) = owner_entries past
owner_entries (Retire _ ∷ past) = owner_entries past
owner_entries (entry ∷ past) = entry ∷ owner_entries past

-- what a number for each number below n sums up to
abbrev pub total : (ℕ → ℕ) → ℕ → ℕ
total number zero = 0
total number (suc n) = number n + total number n

-- the changes of the list: its loads and unloads. An unload names a node; to unload by a header,
-- which takes the first image with that header, belongs to the writer, which chooses the node
abbrev pub change_entries : List Entry → List Entry
change_entries [] = []
change_entries (Load node load header ∷ past) = Load node load header ∷ change_entries past
change_entries (Unload node ∷ past) = Unload node ∷ change_entries past
change_entries (_ ∷ past) = change_entries past
