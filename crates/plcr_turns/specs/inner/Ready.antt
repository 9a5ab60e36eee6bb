-- Workers that are about to run.
use Rattle.std.specs.Prelude.{◌≡◌, ℕ, List, [], ◌∷◌}
use Rattle.atomic_table.specs.Seated.{TableId}
use Rattle.plcr_imagelist.specs.Holds.{WalkerState}
use Rattle.plcr_turns.specs.declared.view.Share.{Share}
use Rattle.plcr_turns.specs.declared.view.View.{View}
use Rattle.plcr_turns.specs.Working.{IsWorking}

-- the one share of a worker, of whose script so many lines were applied
abbrev pub share_at : ℕ → ℕ → ℕ → List Share
share_at script applied total =
    record { script = script; part = record { applied = applied; total = total } } ∷ []

-- the worker of a script of which so many lines were applied, and its pass of the list
pub record IsReady (list : TableId) (script applied total : ℕ) (turns : View)
    (image : WalkerState) : Type 0 where
  pub walks : image.table ≡ list
  pub working : IsWorking script list turns
  pub shares : turns.shares ≡ share_at script applied total
