-- What becomes of the files that a command reads: which were taken, and which was not and why.
use Rattle.std.specs.Prelude.{◌≡◌, ◌<◌, ◌≤◌, ℕ, List, [], ◌∷◌, ◌++◌, length, ⊤}
use Rattle.plcr_base.specs.Causes.{Rose}
use Rattle.plcr_base.specs.Told.{IfTold, Gains}
use Rattle.plcr_io.specs.Desk.{Told}
use Rattle.plcr_command.specs.declared.refusals.Refusal.{Refusal}
use Rattle.plcr_command.specs.declared.refusals.Refusal.TheVariants.{CannotRead, TooLong, OutOfMemory}
use Rattle.plcr_command.specs.Files.{File, named, names_of}

-- the bytes of a file, which is within its limit
pub record IsTaken (desk : Told) (file : File) (bytes : List ℕ) : Type 0 where
  pub whole : IfTold (desk.files file.name) (λ told. bytes ≡ told)
  pub fits : length bytes ≤ file.limit

-- the bytes of each of these files, in their order
abbrev pub AreTaken : Told → List File → List (List ℕ) → Type 0
AreTaken desk [] [] = ⊤
AreTaken desk [] (bytes ∷ contents) = ⊥
AreTaken desk (file ∷ files) [] = ⊥
AreTaken desk (file ∷ files) (bytes ∷ contents) = IsTaken desk file bytes
    × AreTaken desk files contents

-- all files were taken in their order; they have these bytes
pub record TookAll (files : List File) (contents : List (List ℕ)) (old new : Told) : Type 0 where
  pub are : AreTaken old files contents
  pub taken : Gains old.taken new.taken (names_of files)

-- just the files before this one were taken, in their order; none is longer than its limit
pub record TookBefore (files : List File) (file : File) (old new : Told) : Type 0 where
  pub before : List File
  pub after : List File
  pub parts : files ≡ before ++ file ∷ after
  pub contents : List (List ℕ)
  pub took : TookAll before contents old new

-- this file couldn't be read: a take failed
pub record IsUnreadable (files : List File) (file : File) (old new : Told) : Type 0 where
  pub taken : TookBefore files file old new
  pub cause : Rose old.take_faults new.take_faults

-- this file has more bytes than its limit
pub record IsTooLong (files : List File) (file : File) (old new : Told) : Type 0 where
  pub taken : TookBefore files file old new
  pub cause : IfTold (old.files file.name) (λ bytes. file.limit < length bytes)

-- some of the files, from the first on, were taken
pub record TookSome (files : List File) (old new : Told) : Type 0 where
  pub some : List File
  pub others : List File
  pub parts : files ≡ some ++ others
  pub taken : Gains old.taken new.taken (names_of some)

-- not all of these files were taken, for this
abbrev pub Untaken : List File → Told → Told → Refusal → Type 0
Untaken files old new (CannotRead word) = IsUnreadable files (named word) old new
Untaken files old new (TooLong word) = IsTooLong files (named word) old new
Untaken files old new OutOfMemory = TookSome files old new
Untaken files old new refusal = ⊥

-- no output was made, kept or given up, and no count of faults of outputs changed
pub record MadeNothing (old new : Told) : Type 0 where
  pub files : new.files ≡ old.files
  pub made : new.made ≡ old.made
  pub kept : new.kept ≡ old.kept
  pub dropped : new.dropped ≡ old.dropped
  pub out_faults : new.out_faults ≡ old.out_faults
  pub take_faults : old.take_faults ≤ new.take_faults
