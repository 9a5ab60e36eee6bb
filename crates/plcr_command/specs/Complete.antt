-- Files that can be taken, and ones that are too long: what follows where the desk tells them and
-- no count of faults rises, but for want of memory.
use Rattle.std.specs.Prelude.{◌≡◌, ◌⊎◌, ◌<◌, ◌≤◌, ℕ, List, [], ◌∷◌, ◌++◌, Some, length, ⊤}
use Rattle.plcr_base.specs.Causes.{Rose}
use Rattle.plcr_base.specs.Told.{Prints}
use Rattle.plcr_io.specs.Desk.{Told}
use Rattle.plcr_command.specs.Seen.{Seen}
use Rattle.plcr_command.specs.Files.{File}
use Rattle.plcr_command.specs.Lines.{too_long}

-- the desk tells these bytes behind the file's name, and they are within its limit
pub record IsOffered (desk : Told) (file : File) (bytes : List ℕ) : Type 0 where
  pub told : desk.files file.name ≡ Some bytes
  pub fits : length bytes ≤ file.limit

-- it does so for each of these files, in their order
abbrev pub AreOffered : Told → List File → List (List ℕ) → Type 0
AreOffered desk [] [] = ⊤
AreOffered desk [] (bytes ∷ contents) = ⊥
AreOffered desk (file ∷ files) [] = ⊥
AreOffered desk (file ∷ files) (bytes ∷ contents) = IsOffered desk file bytes
    × AreOffered desk files contents

-- the files can be taken: they are offered, and the count of takes that failed didn't rise
pub record CanBeTaken (files : List File) (contents : List (List ℕ)) (old new : Told) : Type 0 where
  pub offered : AreOffered old files contents
  pub faultless : ¬ Rose old.take_faults new.take_faults

-- the first file that can't be taken: those before it are offered, it is told to be longer than its
-- limit, and the count of takes that failed didn't rise
pub record IsFirstTooLong (files : List File) (file : File) (old new : Told) : Type 0 where
  pub before : List File
  pub after : List File
  pub parts : files ≡ before ++ file ∷ after
  pub contents : List (List ℕ)
  pub can : CanBeTaken before contents old new
  pub bytes : List ℕ
  pub told : old.files file.name ≡ Some bytes
  pub long : file.limit < length bytes

-- a status comes exactly where this holds; want of memory may come in its place
pub record ComesExactly (number : ℕ) (Holds : Type 0) (status : ℕ) : Type 0 where
  pub only : status ≡ number → Holds
  pub always : Holds → (status ≡ number) ⊎ (status ≡ 7)

-- of a command that reads these files and does this, the status comes exactly where the files'
-- bytes are so, if they can be taken
abbrev pub ComesWhere : ℕ → List File → (List (List ℕ) → Type 0) → (Seen → Seen → ℕ → Type 0) →
    Type 0
ComesWhere number files Holds Does = (contents : List (List ℕ)) → (old new : Seen) → (status : ℕ)
    → CanBeTaken files contents old.desk new.desk
    → Does old new status
    → ComesExactly number (Holds contents) status

-- a command that reads these files and does this refuses the first of its files that is too long,
-- with the line that says so; or memory is wanting
abbrev pub LongFilesAreRefused : List File → (Seen → Seen → ℕ → Type 0) → Type 0
LongFilesAreRefused files Does = (file : File) → (old new : Seen) → (status : ℕ)
    → IsFirstTooLong files file old.desk new.desk
    → Does old new status
    → ((status ≡ 2) × Prints old.lines new.lines (too_long file.name file.limit) old.line_faults
    new.line_faults) ⊎ (status ≡ 7)
