-- Worked examples of the definitions. On a table of three nodes and one pass two images are loaded
-- and the pass goes in; both images are unloaded, a third is loaded, and no node is left for a
-- fourth until the pass has come out. On a table of two nodes and two passes, of which one is
-- inside at each moment, a node is free all the same.
use Rattle.std.specs.Prelude.{◌≡◌, ℕ, List, [], ◌∷◌, true, false, Some, None}
use Rattle.plcr_machine.specs.declared.image.Image.{Image}
use Rattle.plcr_machine.specs.declared.entry.Entry.{Entry}
use Rattle.plcr_machine.specs.declared.entry.Entry.TheVariants.{Announce, Enter, Leave, Retire, Load, Unload, Count, Look}
use Rattle.plcr_machine.specs.Lists.{load_number, has, without, live, loaded, changes, loads, list_after, name_of}
use Rattle.plcr_machine.specs.Walks.{is_listed, next_in, last_with, follow, IsWholeWalk, IsLawfulWalk}
use Rattle.plcr_machine.specs.Passes.{is_inside, is_announced, seen_by, stamp_of, announced_count, counts, IsPaced}
use Rattle.plcr_machine.specs.Nodes.{is_new, is_removed, counts_before, lets_go, is_let_go, is_cleared, is_free, is_found_out, unloaded_at}
use Rattle.plcr_machine.specs.Histories.{IsLegal, IsHistory}
use Rattle.plcr_machine.specs.Parts.{own_entries, owner_entries, change_entries}
use Rattle.plcr_machine.specs.Holds.{before_enter, may_reach, IsKept}
use Rattle.plcr_machine.specs.Links.{after, last_place, link_of, image_at}

-- the images, by node, load and header
abbrev pub image_a : Image
image_a = record { node = 1; load = 1; header = 4294967296 }

abbrev pub image_b : Image
image_b = record { node = 2; load = 2; header = 4294983680 }

abbrev pub image_c : Image
image_c = record { node = 3; load = 3; header = 4295000064 }

abbrev pub image_d : Image
image_d = record { node = 1; load = 4; header = 4295016448 }

-- two loads, and the pass announces that it has seen two counts and goes in
abbrev pub loads_two : List Entry
loads_two = Count ∷ Load 2 2 4294983680 ∷ Count ∷ Load 1 1 4294967296 ∷ []

abbrev pub entered : List Entry
entered = Enter 0 ∷ Announce 0 2 ∷ loads_two

-- two unloads and a load under the pass, and the look that finds its stamp
abbrev pub looked : List Entry
looked = Look 0 3 ∷ Count ∷ Load 3 3 4295000064 ∷ Count ∷ Unload 2 ∷ Count ∷ Unload 1 ∷ entered

-- the pass comes out and retires, and a look finds that
abbrev pub found_out : List Entry
found_out = Look 0 0 ∷ Retire 0 ∷ Leave 0 ∷ looked

-- the fourth image is loaded
abbrev pub worked : List Entry
worked = Count ∷ Load 1 4 4295016448 ∷ found_out

-- the names of the four loads, newest first
abbrev pub worked_names : List (List ℕ)
worked_names = (100 ∷ []) ∷ (99 ∷ []) ∷ (98 ∷ []) ∷ (97 ∷ []) ∷ []

-- pass 0 is inside as an image is unloaded, pass 1 goes in after that was counted, pass 0 comes
-- out, and the other node is taken
abbrev pub overlapping : List Entry
overlapping = Count ∷ Load 2 2 32 ∷ Retire 0 ∷ Leave 0 ∷ Enter 1 ∷ Announce 1 2 ∷ Count ∷ Unload 1
    ∷ Enter 0 ∷ Announce 0 1 ∷ Count ∷ Load 1 1 16 ∷ []

-- the looks find no stamp of pass 0 and one of pass 1 from after the unload
abbrev pub overlapped : List Entry
overlapped = Look 1 3 ∷ Look 0 0 ∷ overlapping

pub record WorkedHistory : Type 0 where
  pub legal : IsLegal 3 1 worked
  pub history : IsHistory 3 1 worked worked_names
  pub kept : IsKept worked
  pub paced : IsPaced worked
  pub numbers : (changes worked ≡ 6) × (counts worked ≡ 6) × (loads worked ≡ 4)
  pub list : live worked ≡ image_c ∷ image_d ∷ []
  pub lists : (list_after worked 0 ≡ []) × (list_after worked 1 ≡ image_a ∷ [])
      × (list_after worked 2 ≡ image_a ∷ image_b ∷ [])
      × (list_after worked 3 ≡ image_b ∷ []) × (list_after worked 4 ≡ [])
      × (list_after worked 5 ≡ image_c ∷ []) × (list_after worked 9 ≡ image_c ∷ image_d ∷ [])
  pub parts : (own_entries 0 worked ≡ Retire 0 ∷ Leave 0 ∷ Enter 0 ∷ Announce 0 2 ∷ [])
      × (owner_entries entered ≡ loads_two)
  pub changed : change_entries worked ≡ Load 1 4 4295016448 ∷ Load 3 3 4295000064 ∷ Unload 2
      ∷ Unload 1 ∷ Load 2 2 4294983680 ∷ Load 1 1 4294967296 ∷ []
  pub names : (name_of 2 ((98 ∷ []) ∷ (97 ∷ []) ∷ []) ≡ 98 ∷ [])
      × (name_of 1 ((98 ∷ []) ∷ (97 ∷ []) ∷ []) ≡ 97 ∷ [])
      × (name_of 3 ((98 ∷ []) ∷ (97 ∷ []) ∷ []) ≡ [])

pub record WorkedNodes : Type 0 where
  pub inside : (is_inside 0 entered ≡ true) × (is_inside 0 worked ≡ false)
      × (before_enter 0 worked ≡ Announce 0 2 ∷ loads_two)
  pub stamps : (is_announced 0 looked ≡ true) × (is_announced 0 worked ≡ false)
      × (seen_by 0 worked ≡ 2) × (stamp_of 0 looked ≡ 3) × (stamp_of 0 worked ≡ 0)
      × (announced_count 1 looked ≡ 1) × (announced_count 1 worked ≡ 0)
  pub listed : (has 2 (live entered) ≡ true) × (has 3 (live entered) ≡ false)
      × (without 1 (live entered) ≡ image_b ∷ [])
  pub new : (is_new 3 entered ≡ true) × (is_new 3 looked ≡ false)
  pub removed : (is_removed 1 looked ≡ true) × (is_removed 3 looked ≡ false)
      × (unloaded_at 1 looked ≡ 7) × (unloaded_at 2 looked ≡ 9) × (counts_before 1 looked ≡ 2)
      × (counts_before 2 looked ≡ 3)
  -- a stamp lets go of what was unloaded before the last count that it tells of, and 0 of all
  pub lets : (lets_go 2 3 ≡ false) × (lets_go 2 4 ≡ true) × (lets_go 2 0 ≡ true)
  -- no node is free while the pass is inside, and the two removed ones are once a look finds it out
  pub held : (is_let_go 0 1 looked ≡ false) × (is_free 1 1 looked ≡ false)
      × (is_free 1 2 looked ≡ false) × (is_free 1 3 looked ≡ false)
  pub freed : (is_found_out 0 looked ≡ false) × (is_found_out 0 found_out ≡ true)
      × (is_found_out 0 worked ≡ false) × (is_cleared 1 1 found_out ≡ true)
      × (is_free 1 1 found_out ≡ true) × (is_free 1 2 found_out ≡ true)
      × (is_free 1 3 found_out ≡ false)
  -- beside a pass that went in after the unload was counted, the node is free
  pub overlap : IsLegal 2 2 (Count ∷ Load 1 3 48 ∷ overlapped)
  pub beside : (is_inside 1 overlapped ≡ true) × (is_free 2 1 (Look 0 0 ∷ overlapping) ≡ false)
      × (is_free 2 1 overlapped ≡ true)
  pub reach : (may_reach 0 1 looked ≡ true) × (may_reach 0 2 looked ≡ true)
      × (may_reach 0 3 looked ≡ true) × (may_reach 0 1 worked ≡ false)
  pub loaded_last : (loaded 1 looked ≡ image_a) × (loaded 1 worked ≡ image_d)

pub record WorkedLinks : Type 0 where
  pub after : (after 0 0 (live entered) ≡ 1) × (after 0 1 (live entered) ≡ 2)
      × (after 0 2 (live entered) ≡ 0) × (last_place 0 (live entered) ≡ 2) × (last_place 0 [] ≡ 0)
  -- the links of the two removed nodes lead where they led when they were unloaded
  pub links : (link_of 0 looked ≡ 3) × (link_of 1 looked ≡ 2) × (link_of 2 looked ≡ 0)
      × (link_of 3 looked ≡ 0)
  pub images : (image_at 2 looked ≡ Some image_b) × (image_at 0 looked ≡ None)

pub record WorkedWalk : Type 0 where
  pub listed : (is_listed load_number 2 (live entered) ≡ true)
      × (is_listed load_number 3 (live entered) ≡ false)
  pub next : (next_in load_number 1 (live entered) ≡ Some image_b)
      × (next_in load_number 2 (live entered) ≡ None)
  pub last_had : (last_with load_number (list_after looked) 1 5 ≡ 2)
      × (last_with load_number (list_after looked) 2 5 ≡ 3)
  pub follow : (follow load_number (list_after looked) 0 5 ≡ Some image_c)
      × (follow load_number (list_after looked) 1 5 ≡ Some image_b)
      × (follow load_number (list_after looked) 2 5 ≡ None)
  -- the first image is met before the changes, the second after them, though both are gone then
  pub walk : IsWholeWalk load_number (list_after looked) 2 5 (image_a ∷ image_b ∷ [])
  pub lawful : IsLawfulWalk load_number (list_after looked) 2 5 (image_a ∷ image_b ∷ [])
  -- while nothing changes, the walk is the list
  pub still : IsLawfulWalk load_number (list_after entered) 2 2 (image_a ∷ image_b ∷ [])

pub record Refused : Type 0 where
  -- a node that is loaded twice
  pub twice : ¬ IsLegal 2 1 (Load 1 2 32 ∷ Load 1 1 16 ∷ [])
  -- a node that is loaded again while a pass may reach it
  pub early : ¬ IsLegal 2 1 (Load 1 2 32 ∷ Look 0 2 ∷ Count ∷ Unload 1 ∷ Enter 0 ∷ Announce 0 1
      ∷ Count ∷ Load 1 1 16 ∷ [])
  pub unkept : ¬ IsKept (Load 1 2 32 ∷ Look 0 2 ∷ Count ∷ Unload 1 ∷ Enter 0 ∷ Announce 0 1 ∷ Count
      ∷ Load 1 1 16 ∷ [])
  -- a node that is let go on a look from before its unload
  pub before_unload : ¬ IsLegal 1 1 (Load 1 2 32 ∷ Unload 1 ∷ Look 0 0 ∷ Count ∷ Load 1 1 16 ∷ [])
  -- a look that finds another stamp than the pass has
  pub false_look : ¬ IsLegal 1 1 (Look 0 1 ∷ [])
  -- a pass that goes in and did not announce itself, one that announces counts that are yet to
  -- come, and one that retires inside
  pub unannounced : ¬ IsLegal 1 1 (Enter 0 ∷ [])
  pub ahead : ¬ IsLegal 1 1 (Announce 0 1 ∷ [])
  pub retired_inside : ¬ IsLegal 1 1 (Retire 0 ∷ Enter 0 ∷ Announce 0 0 ∷ [])
  -- a name that is missing, and a node too many
  pub unnamed : ¬ IsHistory 3 1 worked ((99 ∷ []) ∷ (98 ∷ []) ∷ (97 ∷ []) ∷ [])
  pub too_wide : ¬ IsHistory 4097 1 [] []
  -- two changes with no count between them
  pub unpaced : ¬ IsPaced (Load 2 2 32 ∷ Load 1 1 16 ∷ [])
  -- a walk that starts again, and one that passes over an image that was there all along
  pub again : ¬ IsLawfulWalk load_number (list_after looked) 2 5 (image_a ∷ image_b ∷ image_a ∷ [])
  pub empty : ¬ IsLawfulWalk load_number (list_after entered) 1 2 []
  -- a walk that stops before the end, and one that meets an image that was gone before it began
  pub short : ¬ IsLawfulWalk load_number (list_after entered) 2 2 (image_a ∷ [])
  pub gone : ¬ IsLawfulWalk load_number (list_after looked) 4 5 (image_a ∷ image_c ∷ [])
