-- Several steps of a change, and what the writer's statements come to.
use Rattle.std.specs.Prelude.{◌≡◌, ℕ, zero, suc, ◌<◌, Bool, List, Result, Ok, Err, if◌then◌else◌}
use Rattle.atomic_table.specs.Seated.{TableId}
use Rattle.plcr_imagelist.specs.declared.change.Progress.{Progress}
use Rattle.plcr_imagelist.specs.declared.change.Progress.TheVariants.{More, Done}
use Rattle.plcr_imagelist.specs.declared.refusals.LoadRefused.{LoadRefused}
use Rattle.plcr_imagelist.specs.declared.refusals.LoadRefused.TheVariants as load_refusals
use Rattle.plcr_imagelist.specs.declared.refusals.UnloadRefused.{UnloadRefused}
use Rattle.plcr_imagelist.specs.declared.refusals.UnloadRefused.TheVariants as unload_refusals
use Rattle.plcr_imagelist.specs.States.{WriterState, ChangeState}
use Rattle.plcr_imagelist.specs.Steps.{IsStepped}
use Rattle.plcr_script.specs.declared.outcomes.Outcome.{Outcome}
use Rattle.plcr_script.specs.declared.outcomes.Outcome.TheVariants as outcomes
use Rattle.plcr_script.specs.RunStates.{State}
use Rattle.plcr_script.specs.RunTurns.{Turn}
use Rattle.plcr_run.specs.declared.slots.Slot.{Slot}
use Rattle.plcr_run.specs.declared.writing.Writing.{Writing}
use Rattle.plcr_run.specs.inner.Tokens.{writer_of, AreTokens, Turns}

-- so many steps, none of which was the last
abbrev pub MakesSteps : ℕ → ChangeState → ChangeState → Type 0
MakesSteps zero old new = new ≡ old
MakesSteps (suc count) old new = (mid : ChangeState) × MakesSteps count old mid
    × IsStepped mid (More new)

-- at most so many steps, up to the last one
abbrev pub IsSteppedOn : ChangeState → ℕ → Progress → Type 0
IsSteppedOn old most (More new) = MakesSteps most old new
IsSteppedOn old most (Done writer) = (count : ℕ) × (last : ChangeState) × (count < most)
    × MakesSteps count old last × IsStepped last (Done writer)

-- all steps that were left
abbrev pub IsSteppedThrough : ChangeState → WriterState → Type 0
IsSteppedThrough old writer = (count : ℕ) × (last : ChangeState) × MakesSteps count old last
    × IsStepped last (Done writer)

-- what the writer did in a turn, beside whatever slots
abbrev pub WriterTurns : TableId → Writing → (ℕ → ℕ → State → Turn) → Writing → Outcome → Type 0
WriterTurns table old turn new said = (slots : List Slot) → AreTokens table old slots →
    AreTokens table new slots × Turns old slots (turn (writer_of old).nodes (writer_of old).passes)
    new slots said

-- what the outcomes of loads and unloads are
abbrev pub refused_load : LoadRefused → Outcome
refused_load (load_refusals.Full live held seen) = outcomes.Full live held seen
refused_load (load_refusals.NameTooLong len) = outcomes.Long len
refused_load (load_refusals.Worn changes) = outcomes.Worn changes

abbrev pub said_by_load : Result ℕ LoadRefused → Outcome
said_by_load (Ok load) = outcomes.Loaded load
said_by_load (Err refused) = refused_load refused

abbrev pub refused_unload : UnloadRefused → Outcome
refused_unload unload_refusals.NotLoaded = outcomes.NotLoaded
refused_unload (unload_refusals.Worn changes) = outcomes.Worn changes

abbrev pub said_by_unload : Result ℕ UnloadRefused → Outcome
said_by_unload (Ok load) = outcomes.Unloaded load
said_by_unload (Err refused) = refused_unload refused

abbrev pub said_when_made : Bool → ℕ → Outcome
said_when_made loads load = if loads then outcomes.Loaded load else outcomes.Unloaded load
