-- Files that are kept one after the other, up to one that isn't.
use Rattle.std.proofs.Common.{ℕ, List, [], ◌∷◌, ◌++◌, Option, refl, sym, subst}
use Rattle.plcr_base.specs.Told.{Prints}
use Rattle.plcr_base.proofs.Appended.{append_nothing}
use Rattle.plcr_io.specs.Desk.{Told}
use Rattle.plcr_command.specs.Saving.{IsUnsaved}
use Rattle.plcr_command.specs.Lines.{cannot_write}
use Rattle.plcr_command.specs.Seen.{Seen, seen}
use Rattle.plcr_command.specs.Endings.{HasKept, CannotWrite}
use Rattle.plcr_command.specs.Endings.{GoesOn}
use Rattle.plcr_command.proofs.Kept.{unwritten_after}
use Rattle.plcr_maker.specs.Make.{CannotKeepOne}

-- a file wasn't kept
pub unwritten : (name bytes : List ℕ) (faults faults_after : ℕ) (old new : Told) (lines lines_after : Option (List ℕ)) → IsUnsaved name bytes old new → Prints lines lines_after (cannot_write name) faults faults_after → CannotWrite [] [] name bytes (seen old lines faults) (seen new lines_after faults_after)
unwritten name bytes faults faults_after old new lines lines_after unsaved printed = record {
  outcome = unsaved.outcome;
  kept = unsaved.kept;
  lines = subst (λ (o : Option (List ℕ)). Prints o lines_after (cannot_write name) faults faults_after) (sym (append_nothing lines)) printed;
  cause = unsaved.cause;
}

-- the files before it were
pub stopped_at : (before after : List (List ℕ × List ℕ)) (name bytes : List ℕ) (old mid new : Seen) → HasKept before [] old mid → GoesOn old mid → CannotWrite [] [] name bytes mid new → CannotKeepOne (before ++ (name, bytes) ∷ after) old new
stopped_at before after name bytes old mid new kept goes stop = record { before = before; name = name; bytes = bytes; after = after; parts = refl; stop = unwritten_after before [] name bytes old mid new kept goes stop }
