-- What becomes of one file that is made, written and kept.
use Rattle.std.specs.Prelude.{◌≡◌, ◌⊎◌, ◌≤◌, ℕ, List, [], ◌∷◌, ◌++◌}
use Rattle.plcr_base.specs.Causes.{Rose}
use Rattle.plcr_base.specs.Told.{Gains}
use Rattle.plcr_io.specs.Desk.{Told}

-- nothing, or one entry that is a front of these bytes, was given up
abbrev pub DropsFront : List ℕ → Told → Told → Type 0
DropsFront bytes old new =
    Gains old.dropped new.dropped []
    ⊎ ((front : List ℕ) × (rest : List ℕ) × (bytes ≡ front ++ rest)
    × Gains old.dropped new.dropped (front ∷ []))

-- the file was kept with these bytes
pub record IsSaved (name bytes : List ℕ) (old new : Told) : Type 0 where
  pub made : Gains old.made new.made (name ∷ [])
  pub kept : Gains old.kept new.kept ((name, bytes) ∷ [])
  pub dropped : Gains old.dropped new.dropped []

-- the file wasn't kept: its output wasn't made, or not written whole and given up, or not kept
pub record IsUnsaved (name bytes : List ℕ) (old new : Told) : Type 0 where
  pub outcome : (Gains old.made new.made [] × Gains old.dropped new.dropped [])
      ⊎ (Gains old.made new.made (name ∷ []) × DropsFront bytes old new)
  pub kept : Gains old.kept new.kept []
  pub cause : Rose old.out_faults new.out_faults

-- no file was taken
pub record TookNothing (old new : Told) : Type 0 where
  pub files : new.files ≡ old.files
  pub taken : new.taken ≡ old.taken
  pub take_faults : new.take_faults ≡ old.take_faults
  pub out_faults : old.out_faults ≤ new.out_faults
