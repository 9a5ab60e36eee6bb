-- Why a command stops before its run, and what happened to its files by then.
use Rattle.std.specs.Prelude.{◌⊎◌, ℕ, List}
use Rattle.plcr_io.specs.Desk.{Told}
use Rattle.plcr_command.specs.declared.refusals.Refusal.{Refusal}
use Rattle.plcr_command.specs.Files.{File}
use Rattle.plcr_command.specs.Taking.{TookAll, Untaken}

-- all of these files were taken, and the bytes that they have are refused
pub record IsMisread (Misread : List (List ℕ) → Refusal → Type 0) (files : List File)
    (refusal : Refusal) (old new : Told) : Type 0 where
  pub contents : List (List ℕ)
  pub took : TookAll files contents old new
  pub misread : Misread contents refusal

-- what happened to these files, for each refusal
abbrev pub Refuses : (List (List ℕ) → Refusal → Type 0) → List File → Told → Told → Refusal → Type 0
Refuses Misread files old new refusal = Untaken files old new refusal
    ⊎ IsMisread Misread files refusal old new

-- all of these files were taken, and the bytes that they have mean this value
pub record IsRead {A : Type 0} (Reads : List (List ℕ) → A → Type 0) (files : List File)
    (old new : Told) (value : A) : Type 0 where
  pub contents : List (List ℕ)
  pub took : TookAll files contents old new
  pub read : Reads contents value
