-- Stays of a worker's pass as the pass knows them, by the loads and nodes of images.
use Rattle.std.specs.Prelude.{◌≡◌, ℕ, ◌≤◌, Bool, true, List, ◌∷◌, Option, length, Contains}
use Rattle.plcr_machine.specs.declared.entry.Entry.{Entry}
use Rattle.plcr_machine.specs.declared.entry.Entry.TheVariants.{Enter, Leave}
use Rattle.plcr_machine.specs.declared.image.Image.{Image}
use Rattle.plcr_machine.specs.Lists.{Grows, load_number, changes, list_after}
use Rattle.plcr_machine.specs.Walks.{Meets, IsWholeWalk}
use Rattle.plcr_machine.specs.Changes.{all_named}
use Rattle.plcr_imagelist.specs.Holds.{WalkerState}
use Rattle.plcr_workers.specs.Stays.{Stay}

-- likewise a stay, but for what it met
pub record KnownStay : Type 0 where
  pub enter : ℕ
  pub leave : Option ℕ
  pub announced : ℕ
  pub before : List Entry
  pub inside : List Entry
  pub met : List Image
  pub ended : Bool

-- the same by names
abbrev pub stay_by : List (List ℕ) → KnownStay → Stay
stay_by names k = record {
  enter = k.enter;
  leave = k.leave;
  announced = k.announced;
  before = k.before;
  inside = k.inside;
  met = all_named names k.met;
  ended = k.ended;
}

-- a stay of the pass in what it has seen
pub record IsKnownStay (image : WalkerState) (k : KnownStay) : Type 0 where
  pub entered : Grows (Enter image.number ∷ k.before) k.inside
  pub left : Grows (Leave image.number ∷ k.inside) image.history
  pub meets : Meets load_number (list_after image.history) 0 (changes k.before) (changes k.inside)
      k.met
  pub whole : k.ended ≡ true → (to : ℕ) × (changes k.before ≤ to) × (to ≤ changes k.inside)
      × IsWholeWalk load_number (list_after image.history) (changes k.before) to k.met
  pub short : (x : Image) → Contains k.met x → x.load ≤ length image.names
