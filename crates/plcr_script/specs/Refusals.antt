-- Why a line of a script is refused.
use Rattle.std.specs.Prelude.{ℕ, Bool, Option, Some, None, Result, Ok, Err, if◌then◌else◌}
use Rattle.plcr_script.specs.declared.faults.Kind.{Kind}
use Rattle.plcr_script.specs.declared.faults.Kind.TheVariants.{BadWord, BadNumber, TooFew, TooMany, NoSuchPass, OutOfPlace}

-- the number that a fault prints
abbrev pub kind_number : Kind → ℕ
kind_number BadWord = 1
kind_number BadNumber = 2
kind_number TooFew = 3
kind_number TooMany = 4
kind_number NoSuchPass = 5
kind_number OutOfPlace = 6

-- the first refused line, from 1, and the number of its kind
pub record Refusal : Type 0 where
  pub line : ℕ
  pub kind : ℕ

-- the value, or the kind where there is none
abbrev pub or_refuse : {A : Type 0} → Kind → Option A → Result A Kind
or_refuse kind None = Err kind
or_refuse kind (Some x) = Ok x

-- the value, where a test holds
abbrev pub only_if : {A : Type 0} → Kind → Bool → A → Result A Kind
only_if kind holds x = if holds then Ok x else Err kind

-- the refusal of a line by its number
abbrev pub refused_at : {A : Type 0} → ℕ → Result A Kind → Result A Refusal
refused_at line (Ok x) = Ok x
refused_at line (Err kind) = Err (record { line = line; kind = kind_number kind })
