-- The changes that the writer makes, by headers and names, and the lists that they leave. No node
-- is in sight.
use Rattle.std.specs.Prelude.{◌≡◌, ℕ, suc, List, [], ◌∷◌, ◌++◌, length, ◌==◌, if◌then◌else◌, Result, Ok, Err}
use Rattle.plcr_machine.specs.declared.change.Change.{Change}
use Rattle.plcr_machine.specs.declared.change.Change.TheVariants.{Loads as LoadsNamed, Unloads as UnloadsFirst}
use Rattle.plcr_machine.specs.Lists.{changes, list_after}
use Rattle.plcr_machine.specs.Histories.{IsHistory}
use Rattle.plcr_machine.specs.Changes.{all_named, TakesFirst, changes_of, list_after_changes}
use Rattle.plcr_imagelist.specs.declared.change.Progress.{Progress}
use Rattle.plcr_imagelist.specs.declared.change.Progress.TheVariants.{More, Done}
use Rattle.plcr_imagelist.specs.States.{WriterState, Doing, Loads, Unloads, change_step, ChangeState, IsAtRest}

-- what the writer knows is a legal history in which each unload took the first image with its
-- header; so its changes, by headers and names, leave its lists
pub record HasLists (s : WriterState) : Type 0 where
  pub known : IsHistory s.nodes s.passes s.history s.names
  pub first : TakesFirst s.history
  pub all : length (changes_of s.names s.history) ≡ changes s.history
  pub lists : (j : ℕ) → list_after_changes (changes_of s.names s.history) j
      ≡ all_named s.names (list_after s.history j)

-- a writer at rest has them
abbrev pub RestHasLists : Type 0
RestHasLists = (s : WriterState) → IsAtRest s → HasLists s

-- the writer's history has these changes more, the last first, and no others
abbrev pub AddsChanges : WriterState → List Change → WriterState → Type 0
AddsChanges old made new =
    changes_of new.names new.history ≡ made ++ changes_of old.names old.history

-- what a change does to the list, by header and name
abbrev pub change_of : Doing → ℕ → Change
change_of (Loads header name) load =
    LoadsNamed (record { load = load; header = header; name = name })
change_of (Unloads image) load = UnloadsFirst image.header

-- the changes that a step makes: one at the change itself, and none else
abbrev pub made_by_step : ChangeState → List Change
made_by_step change = if suc change.made == change_step change.doing
    then change_of change.doing change.load ∷ [] else []

-- and those that a whole load or unload makes, none where it was refused
abbrev pub made_by_load : {E : Type 0} → ℕ → List ℕ → Result ℕ E → List Change
made_by_load header name (Ok load) =
    LoadsNamed (record { load = load; header = header; name = name }) ∷ []
made_by_load header name (Err refused) = []

abbrev pub made_by_unload : {E : Type 0} → ℕ → Result ℕ E → List Change
made_by_unload header (Ok load) = UnloadsFirst header ∷ []
made_by_unload header (Err refused) = []

-- what is left after a step has the writer
abbrev pub writer_of : Progress → WriterState
writer_of (More change) = change.writer
writer_of (Done writer) = writer
