-- How an output that was made is ended.
use Rattle.std.specs.Prelude.{ℕ, List, Option, Result, Ok, Err}
use Rattle.plcr_io.specs.Desk.{Told, Keeps, Abandons}
use Rattle.plcr_io.specs.declared.desks.MakeFailed.{MakeFailed}
use Rattle.plcr_io.specs.declared.sinks.PutFailed.{PutFailed}
use Rattle.plcr_command.specs.declared.saving.Unsaved.{Unsaved}

-- one that was written whole was kept, or couldn't be; another was given up
abbrev pub Settles : {T : Type 0} → Option (List ℕ) → ℕ → List ℕ → Told → Told →
    Result T PutFailed → Result T Unsaved → Type 0
Settles written faults name old new (Ok value) (Ok settled) = Keeps name written old new (Ok tt)
Settles written faults name old new (Ok value) (Err unsaved) = (failed : MakeFailed)
    × Keeps name written old new (Err failed)
Settles written faults name old new (Err failed) (Err unsaved) = Abandons written faults old new
Settles written faults name old new (Err failed) (Ok settled) = ⊥
