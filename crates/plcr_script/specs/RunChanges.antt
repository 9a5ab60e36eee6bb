-- What the changes of an image list that were made so far say of the next one: why it is refused,
-- or what it does. The newest change stands first.
use Rattle.std.specs.Prelude.{ℕ, suc, ◌+◌, ◌/◌, Bool, List, [], ◌∷◌, Option, Some, None, Result, Err, ◌==◌, length, nat_le, nat_lt, ok_or, if◌then◌else◌}
use Rattle.std.specs.Option.{option_map}
use Rattle.plcr_base.specs.declared.limits.TheConstants.{IMAGE_NAME_BYTES}
use Rattle.plcr_base.specs.Chains.{passed}
use Rattle.plcr_machine.specs.declared.limits.TheConstants.{MOST_CHANGES}
use Rattle.plcr_machine.specs.declared.change.Named.{Named}
use Rattle.plcr_machine.specs.declared.change.Change.{Change}
use Rattle.plcr_machine.specs.declared.change.Change.TheVariants.{Loads, Unloads}
use Rattle.plcr_machine.specs.Changes.{list_of}
use Rattle.plcr_script.specs.declared.outcomes.Outcome.{Outcome}
use Rattle.plcr_script.specs.declared.outcomes.Outcome.TheVariants.{NotImage, Worn, Long, NotLoaded, Loaded, Unloaded}

-- how many loads there were
abbrev pub loads_in : List Change → ℕ
loads_in [] = 0
loads_in (Loads image ∷ past) = suc (loads_in past)
loads_in (Unloads header ∷ past) = loads_in past

-- the first image of a list with a header
abbrev pub first_with : ℕ → List Named → Option Named
first_with header [] = None
first_with header (image ∷ images) = if image.header == header then Some image
    else first_with header images

-- a refusal, where a test holds
abbrev pub where_so : Bool → Outcome → Option Outcome
where_so holds refusal = if holds then Some refusal else None

-- the first refusal that there is
abbrev pub first_refusal : List (Option Outcome) → Option Outcome
first_refusal [] = None
first_refusal (None ∷ others) = first_refusal others
first_refusal (Some refusal ∷ others) = Some refusal

-- a list that has the most changes behind it takes no more
abbrev pub worn : List Change → Option Outcome
worn changes = where_so (nat_le MOST_CHANGES (length changes)) (Worn (length changes))

-- why a load is refused before a node is looked for, by the fault at its header: there is no image,
-- the list takes no more changes, or the name is too long
abbrev pub load_refusal : Option ℕ → List Change → List ℕ → Option Outcome
load_refusal fault changes name = first_refusal
    (option_map NotImage fault
    ∷ worn changes
    ∷ where_so (nat_lt IMAGE_NAME_BYTES (length name)) (Long (length name))
    ∷ [])

-- a change that may be made: what it does to the list, the number of its image's load, and how many
-- steps come before the one that does it
pub record Plan : Type 0 where
  pub change : Change
  pub load : ℕ
  pub before : ℕ

-- a load, whose number is the next. Before it come its header, the length of its name, each eight
-- bytes of the name, and the end link
abbrev pub load_plan : List Change → ℕ → List ℕ → Plan
load_plan changes header name = record {
  change = Loads (record { load = suc (loads_in changes); header = header; name = name });
  load = suc (loads_in changes);
  before = 3 + (length name + 7) / 8;
}

-- a load, or its refusal; whether a node is free is another question
abbrev pub planned_load : Option ℕ → List Change → ℕ → List ℕ → Result Plan Outcome
planned_load fault changes header name =
    passed (load_plan changes header name) (load_refusal fault changes name)

-- an unload of the first image with a header. Nothing comes before it
abbrev pub unload_plan : ℕ → Named → Plan
unload_plan header image = record { change = Unloads header; load = image.load; before = 0 }

-- an unload where the list takes changes: no image may have the header
abbrev pub found_unload : List Change → ℕ → Result Plan Outcome
found_unload changes header =
    ok_or (option_map (unload_plan header) (first_with header (list_of changes))) NotLoaded

-- what may be planned, unless there is a refusal
abbrev pub unless_refusal : Option Outcome → Result Plan Outcome → Result Plan Outcome
unless_refusal None planned = planned
unless_refusal (Some refusal) planned = Err refusal

-- an unload, or its refusal
abbrev pub planned_unload : List Change → ℕ → Result Plan Outcome
planned_unload changes header = unless_refusal (worn changes) (found_unload changes header)

-- the outcome of a change that was made whole, with the number of its image's load
abbrev pub change_outcome : Change → ℕ → Outcome
change_outcome (Loads image) load = Loaded load
change_outcome (Unloads header) load = Unloaded load

abbrev pub made_outcome : Plan → Outcome
made_outcome plan = change_outcome plan.change plan.load
