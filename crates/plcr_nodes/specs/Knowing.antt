-- What entries of others leave as it was. Each of these is the contract of a function of the crate.
use Rattle.std.specs.Prelude.{◌≡◌, ℕ, true, false, List, [], ◌∷◌, length}
use Rattle.plcr_machine.specs.declared.entry.Entry.{Entry}
use Rattle.plcr_machine.specs.Lists.{live, loads, loaded, changes}
use Rattle.plcr_machine.specs.Nodes.{is_free}
use Rattle.plcr_machine.specs.Passes.{is_inside, is_announced, seen_by, counts, IsPaced}
use Rattle.plcr_machine.specs.Holds.{may_reach}
use Rattle.plcr_nodes.specs.Entries.{among}
use Rattle.plcr_nodes.specs.Payload.{name_on}
use Rattle.plcr_nodes.specs.Seeing.{AddsOthers, GoesOn}

-- the list, the free nodes, and how many loads, changes and counts there were
pub record KnowsTheList (old all : List Entry) : Type 0 where
  pub list : live all ≡ live old
  pub free : (passes node : ℕ) → is_free passes node all ≡ is_free passes node old
  pub loads : loads all ≡ loads old
  pub changes : changes all ≡ changes old
  pub counts : counts all ≡ counts old
  pub paced : IsPaced old → IsPaced all

-- what comes new to an owner leaves all that it knows of the list
abbrev pub OwnersKnowTheList : Type 0
OwnersKnowTheList = (numbers : List ℕ) (old all : List Entry) → AddsOthers true numbers old all →
    KnowsTheList old all

-- what a pass may reach, it may still reach, with the same image and name
pub record StaysReached (pass node : ℕ) (old all : List Entry)
    (old_names names : List (List ℕ)) : Type 0 where
  pub reach : may_reach pass node all ≡ true
  pub image : loaded node all ≡ loaded node old
  pub name : name_on node all names ≡ name_on node old old_names

-- a pass is in or out, and announced or not, as it was
pub record StandsAsBefore (pass : ℕ) (old all : List Entry) : Type 0 where
  pub inside : is_inside pass all ≡ is_inside pass old
  pub announced : is_announced pass all ≡ is_announced pass old
  pub seen : seen_by pass all ≡ seen_by pass old

-- what comes new to an owner leaves where each joined pass stands
abbrev pub OwnersKnowTheJoined : Type 0
OwnersKnowTheJoined = (numbers : List ℕ) (old all : List Entry) → AddsOthers true numbers old all →
    (pass : ℕ) → among pass numbers ≡ true → StandsAsBefore pass old all

-- what comes new to a pass leaves where it stands, and leaves what it may reach
abbrev pub PassesKeepTheirReach : Type 0
PassesKeepTheirReach =
    (nodes passes pass : ℕ) (old all : List Entry) (old_names names : List (List ℕ)) →
    GoesOn nodes passes false (pass ∷ []) old old_names all names
    → length old_names ≡ loads old
    → StandsAsBefore pass old all × ((node : ℕ) → may_reach pass node old ≡ true →
    StaysReached pass node old all old_names names)
