-- What a writer's answers come to where a write that is interrupted is tried again. Of each write
-- this knows what std's contract says of it. That a write was made at all no clause says, since an
-- answer may come from none: tests show it.
use Rattle.std.specs.Prelude.{◌≡◌, ℕ, zero, suc, ◌+◌, ◌-◌, ◌^◌, List, Option, None, Some, Result, Ok, Err}
use Rattle.std.specs.Io.{WritesAtMost}
use Rattle.std.specs.Io.KnownBytes.{WriteAppends}
use Rattle.std.specs.IoError.{error_kind}
use Rattle.std.specs.declared.io.Error.{Error}
use Rattle.std.specs.declared.io.ErrorKind.TheVariants.{Interrupted}

-- a write of this piece answered so
pub record Answers {W : Type 0} (contents : W → Option (List ℕ)) (piece : List ℕ) (before after : W)
    (answer : Result ℕ Error) : Type 0 where
  pub within : WritesAtMost answer piece
  pub bytes : WriteAppends (contents before) (contents after) answer piece

-- a signal interrupted the write
abbrev pub IsInterrupted : Result ℕ Error → Type 0
IsInterrupted (Ok n) = ⊥
IsInterrupted (Err error) = error_kind error ≡ Interrupted

-- so many writes in a row were interrupted
abbrev pub Interrupts : {W : Type 0} → (W → Option (List ℕ)) → List ℕ → ℕ → W → W → Type 0
Interrupts contents piece zero before after = before ≡ after
Interrupts {W} contents piece (suc n) before after = (last : W) × (answer : Result ℕ Error)
    × Interrupts contents piece n before last × Answers contents piece last after answer
    × IsInterrupted answer

-- how many bytes a write took, by its answer: none where it failed or took none
abbrev pub taken_by : Result ℕ Error → Option ℕ
taken_by (Ok zero) = None
taken_by (Ok (suc n)) = Some (suc n)
taken_by (Err error) = None

-- the last of some tries tells how many bytes were taken. All others were interrupted, and itself
-- only where it was the last of all
pub record Tries {W : Type 0} (contents : W → Option (List ℕ)) (piece : List ℕ) (old new : W)
    (taken : Option ℕ) : Type 0 where
  pub interrupts : ℕ
  pub last : W
  pub answer : Result ℕ Error
  pub earlier : Interrupts contents piece interrupts old last
  pub answers : Answers contents piece last new answer
  pub tells : taken ≡ taken_by answer
  pub worn : IsInterrupted answer → interrupts + 1 ≡ 2 ^ 64 - 1
