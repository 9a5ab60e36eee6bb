-- Which histories are legal, for a number of nodes and a number of passes. The newest entry stands
-- first.
use Rattle.std.specs.Prelude.{◌≡◌, ℕ, suc, ◌<◌, ◌≤◌, List, [], ◌∷◌, length, IsTrue, IsFalse}
use Rattle.plcr_machine.specs.declared.entry.Entry.{Entry}
use Rattle.plcr_machine.specs.declared.entry.Entry.TheVariants.{Announce, Enter, Leave, Retire, Load, Unload, Count, Look}
use Rattle.plcr_machine.specs.declared.limits.TheConstants.{MOST_NODES, MOST_PASSES, MOST_CHANGES}
use Rattle.plcr_machine.specs.Lists.{has, live, loads}
use Rattle.plcr_machine.specs.Passes.{is_inside, is_announced, stamp_of, counts}
use Rattle.plcr_machine.specs.Nodes.{is_free}

-- the entry may come next
abbrev pub MayFollow : ℕ → ℕ → List Entry → Entry → Type 0
MayFollow nodes passes past (Announce pass seen) =
    (pass < passes) × IsFalse (is_announced pass past) × (seen ≤ counts past)
MayFollow nodes passes past (Enter pass) = IsTrue (is_announced pass past)
    × IsFalse (is_inside pass past)
MayFollow nodes passes past (Leave pass) = IsTrue (is_inside pass past)
MayFollow nodes passes past (Retire pass) = IsTrue (is_announced pass past)
    × IsFalse (is_inside pass past)
MayFollow nodes passes past (Load node load _) = (0 < node) × (node ≤ nodes)
    × IsTrue (is_free passes node past) × (load ≡ suc (loads past))
MayFollow nodes passes past (Unload node) = IsTrue (has node (live past))
MayFollow nodes passes past Count = counts past < MOST_CHANGES
MayFollow nodes passes past (Look pass stamp) = (pass < passes) × (stamp ≡ stamp_of pass past)

-- each entry might follow what came before it
abbrev pub IsLegal : ℕ → ℕ → List Entry → Type 0
IsLegal nodes passes [] = Unit {0}
IsLegal nodes passes (entry ∷ past) = MayFollow nodes passes past entry × IsLegal nodes passes past

-- a legal history within the sizes of a table, with a name for each load, newest first
pub record IsHistory (nodes passes : ℕ) (history : List Entry) (names : List (List ℕ)) : Type 0
  where
    pub few_nodes : nodes ≤ MOST_NODES
    pub few_passes : passes ≤ MOST_PASSES
    pub legal : IsLegal nodes passes history
    pub named : length names ≡ loads history
