-- The worked histories by their changes and events: nothing here names the node that a load took.
use Rattle.std.specs.Prelude.{◌≡◌, List, [], ◌∷◌, Some, None}
use Rattle.plcr_machine.specs.declared.entry.Entry.{Entry}
use Rattle.plcr_machine.specs.declared.entry.Entry.TheVariants.{Announce, Enter, Load, Unload, Count, Look}
use Rattle.plcr_machine.specs.declared.change.Named.{Named}
use Rattle.plcr_machine.specs.declared.change.Change.{Change}
use Rattle.plcr_machine.specs.declared.change.Change.TheVariants.{Loads, Unloads}
use Rattle.plcr_machine.specs.Lists.{live, unloads}
use Rattle.plcr_machine.specs.Walks.{follow}
use Rattle.plcr_machine.specs.Nodes.{free_count, waiting_count}
use Rattle.plcr_machine.specs.Parts.{total}
use Rattle.plcr_machine.specs.Changes.{load_of, named, all_named, first_node, header_at, TakesFirst, changes_of, without_first, list_of, first_changes, list_after_changes}
use Rattle.plcr_machine.specs.Events.{Changed, Noted, events_of, changes_in, noted_in, held, looked_at, looks, HasEvents}
use Rattle.plcr_machine.specs.Examples.{image_a, entered, looked, found_out, worked, worked_names, overlapping, overlapped}

-- the images by load, header and name
abbrev pub named_a : Named
named_a = record { load = 1; header = 4294967296; name = 97 ∷ [] }

abbrev pub named_b : Named
named_b = record { load = 2; header = 4294983680; name = 98 ∷ [] }

abbrev pub named_c : Named
named_c = record { load = 3; header = 4295000064; name = 99 ∷ [] }

abbrev pub named_d : Named
named_d = record { load = 4; header = 4295016448; name = 100 ∷ [] }

-- the changes of the worked history
abbrev pub worked_changes : List Change
worked_changes = Loads named_d ∷ Loads named_c ∷ Unloads 4294983680 ∷ Unloads 4294967296
    ∷ Loads named_b ∷ Loads named_a ∷ []

-- two images with one header
abbrev pub twins : List Entry
twins = Load 2 2 16 ∷ Load 1 1 16 ∷ []

pub record WorkedChanges : Type 0 where
  pub changes : changes_of worked_names worked ≡ worked_changes
  pub named : (named worked_names image_a ≡ named_a)
      × (all_named worked_names (live entered) ≡ named_a ∷ named_b ∷ [])
  pub first : (TakesFirst worked) × (TakesFirst (Unload 1 ∷ twins))
      × (¬ TakesFirst (Unload 2 ∷ twins))
  pub nodes : (first_node 16 (live twins) ≡ 1) × (first_node 48 (live twins) ≡ 0)
      × (header_at 2 (live twins) ≡ 16) × (header_at 3 (live twins) ≡ 0)
  pub without : (without_first 4294983680 (named_a ∷ named_b ∷ []) ≡ named_a ∷ [])
      × (without_first 16 (named_a ∷ []) ≡ named_a ∷ [])
  pub prefix : (first_changes 2 worked_changes ≡ Loads named_b ∷ Loads named_a ∷ [])
      × (first_changes 9 worked_changes ≡ worked_changes)
  pub lists : (list_after_changes worked_changes 0 ≡ [])
      × (list_after_changes worked_changes 2 ≡ named_a ∷ named_b ∷ [])
      × (list_after_changes worked_changes 3 ≡ named_b ∷ [])
      × (list_after_changes worked_changes 4 ≡ [])
      × (list_of worked_changes ≡ named_c ∷ named_d ∷ [])
  pub follow : (follow load_of (list_after_changes worked_changes) 1 5 ≡ Some named_b)
      × (follow load_of (list_after_changes worked_changes) 2 5 ≡ None)
      × (follow load_of (list_after_changes worked_changes) 0 5 ≡ Some named_c)
  pub numbers : (unloads looked ≡ 2) × (waiting_count 3 1 looked ≡ 2) × (free_count 3 1 looked ≡ 0)
      × (waiting_count 3 1 found_out ≡ 0) × (free_count 3 1 found_out ≡ 2)
      × (waiting_count 2 2 overlapping ≡ 1)
  pub makers : total (λ pass. pass) 4 ≡ 6

pub record WorkedEvents : Type 0 where
  pub events : events_of worked_names entered ≡ Noted (Enter 0) ∷ Noted (Announce 0 2) ∷ Noted Count
      ∷ Changed (Loads named_b) ∷ Noted Count ∷ Changed (Loads named_a) ∷ []
  pub changes : changes_in (events_of worked_names worked) ≡ worked_changes
  pub noted : noted_in (events_of worked_names entered) ≡ Enter 0 ∷ Announce 0 2 ∷ Count ∷ Count
      ∷ []
  -- two unloads are held back while the pass is inside, none once it is found out, and the pass
  -- that went in after the count holds none
  pub held : (held 1 (events_of worked_names looked) ≡ 2)
      × (held 1 (events_of worked_names found_out) ≡ 0)
      × (held 2 (events_of worked_names overlapping) ≡ 1)
      × (held 2 (events_of worked_names (Look 0 0 ∷ overlapping)) ≡ 1)
      × (held 2 (events_of worked_names overlapped) ≡ 0)
  pub looks : (looked_at 2 overlapping ≡ overlapped)
      × (looks 2 (events_of worked_names overlapping) ≡ events_of worked_names overlapped)
  pub may : HasEvents 3 1 (events_of worked_names worked) worked worked_names
