-- The tokens of a table that was just opened, and what first steps find.
use Rattle.std.specs.Prelude.{◌≡◌, ℕ, zero, suc, ◌<◌, ◌≤◌, List, [], ◌∷◌, ◌++◌}
use Rattle.atomic_table.specs.Seated.{TableId}
use Rattle.plcr_machine.specs.Parts.{own_entries}
use Rattle.plcr_machine.specs.declared.limits.TheConstants.{MOST_NODES, MOST_PASSES}
use Rattle.plcr_nodes.specs.Tokens.{PassState, OwnerState}
use Rattle.plcr_nodes.specs.Owning.{IsCounted, IsLooked}

-- the sizes that a table may have
abbrev pub IsSized : ℕ → ℕ → Type 0
IsSized nodes passes = ((0 < nodes) × (nodes ≤ MOST_NODES))
    × ((0 < passes) × (passes ≤ MOST_PASSES))

-- a pass of a table that was just opened
abbrev pub opened_pass : TableId → ℕ → ℕ → ℕ → PassState
opened_pass z nodes passes number =
    record {
      table = z;
      nodes = nodes;
      passes = passes;
      number = number;
      history = [];
      names = [];
      given = [];
    }

-- the first passes of a table that was just opened, with the numbers from 0 on
abbrev pub opened_passes : TableId → ℕ → ℕ → ℕ → List PassState
opened_passes z nodes passes zero = []
opened_passes z nodes passes (suc count) =
    opened_passes z nodes passes count ++ opened_pass z nodes passes count ∷ []

abbrev pub opened_owner : TableId → ℕ → ℕ → OwnerState
opened_owner z nodes passes =
    record {
      table = z;
      nodes = nodes;
      passes = passes;
      history = [];
      names = [];
      joined = [];
      filled = [];
    }

-- the tokens of a table that was just opened
pub record IsOpened (nodes passes : ℕ) (table : TableId) (owner : OwnerState)
    (all : List PassState) : Type 0 where
  pub owning : owner ≡ opened_owner table nodes passes
  pub numbered : all ≡ opened_passes table nodes passes passes

-- what the owner's first steps find: the gate is 0 until it counts, and each stamp until the pass
-- has made an entry
pub record FindsNothing (owner : OwnerState) : Type 0 where
  pub count : (found : ℕ) (new : OwnerState) → IsCounted owner found new → found ≡ 0
  pub look : (pass found : ℕ) (new : OwnerState) → IsLooked owner pass found new →
      own_entries pass new.history ≡ [] → found ≡ 0
