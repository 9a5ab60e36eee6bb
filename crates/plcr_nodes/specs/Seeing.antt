-- What comes new to what a token has seen of the one history. Lists have the newest first, so what
-- was seen before is the end of what is seen now.
use Rattle.std.specs.Prelude.{◌≡◌, ℕ, Bool, true, List}
use Rattle.plcr_machine.specs.declared.entry.Entry.{Entry}
use Rattle.plcr_machine.specs.Histories.{IsHistory}
use Rattle.plcr_machine.specs.Lists.{Grows}
use Rattle.plcr_machine.specs.Parts.{own_entries, owner_entries}
use Rattle.plcr_nodes.specs.Entries.{among, WentOn}
use Rattle.plcr_nodes.specs.Names.{AreNames}

-- The history went on by entries of others: none that came new is a load, an unload, a count or a
-- look, where the token owns the list, and none is an entry of a pass with one of these numbers
pub record AddsOthers (owns : Bool) (numbers : List ℕ) (old all : List Entry) : Type 0 where
  pub grows : Grows old all
  pub owner : owns ≡ true → owner_entries all ≡ owner_entries old
  pub own : (p : ℕ) → among p numbers ≡ true → own_entries p all ≡ own_entries p old

-- what a token has seen went on, to a legal history with a name for each load
pub record GoesOn (nodes passes : ℕ) (owns : Bool) (numbers : List ℕ) (old : List Entry)
    (old_names : List (List ℕ)) (all : List Entry) (names : List (List ℕ)) : Type 0 where
  pub added : AddsOthers owns numbers old all
  pub named : WentOn old_names names
  pub legal : IsHistory nodes passes all names
  pub short : AreNames names
