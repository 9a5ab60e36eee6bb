-- What `make N CORE SCRIPT` has done, read by its status, and what it answers where nothing fails.
use Rattle.std.specs.Prelude.{◌≡◌, ◌⊎◌, ℕ, List, Option, None}
use Rattle.plcr_base.specs.Causes.{Rose}
use Rattle.plcr_imagelist.specs.States.{WriterState}
use Rattle.plcr_command.specs.Seen.{Seen}
use Rattle.plcr_command.specs.Endings.{HasKept}
use Rattle.plcr_maker.specs.Make.{StopsIn, HasMade, MakeDoes, MadeLeft, MakeLeaves}

-- 0: the three files were kept and the line of the report printed. 5: a file wasn't kept, or the
-- line not printed whole. 7: nothing was done. At 0 and 5 `past` has the writer of the run's list.
-- No other status comes
abbrev pub MakeIs : (images : ℕ) → (core script : List ℕ) → Seen → Seen → Option WriterState → ℕ →
    Type 0
MakeIs images core script old new past status =
    ((status ≡ 0) × HasMade images core script HasKept old new × MadeLeft images past)
    ⊎ ((status ≡ 5) × HasMade images core script StopsIn old new × MadeLeft images past)
    ⊎ ((status ≡ 7) × (new ≡ old) × (past ≡ None))

abbrev pub MadeByStatus : Type 0
MadeByStatus =
    (images : ℕ) → (core script : List ℕ) → (old new : Seen) → (past : Option WriterState)
    → (status : ℕ)
    → MakeDoes images core script old new status → MakeLeaves images past status
    → MakeIs images core script old new past status

-- where no output, no keep and no line fails, all is made, kept and printed, or memory is wanting
abbrev pub MakesAreComplete : Type 0
MakesAreComplete =
    (images : ℕ) → (core script : List ℕ) → (old new : Seen) → (status : ℕ)
    → ¬ Rose old.desk.out_faults new.desk.out_faults
    → ¬ Rose old.line_faults new.line_faults
    → MakeDoes images core script old new status
    → ((status ≡ 0) × HasMade images core script HasKept old new) ⊎ (status ≡ 7)
