-- Each statement of a lawful script stands where it may, in the slots of its run.
use Rattle.std.proofs.Common.{◌≡◌, ℕ, zero, suc, ◌<◌, Bool, true, false, List, [], ◌∷◌, Some, length, not, refl, subst, ◌∙◌, arith}
use Rattle.std.specs.Prelude.{slice_get, All}
use Rattle.plcr_script.specs.declared.statements.Statement.{Statement}
use Rattle.plcr_script.specs.declared.statements.Statement.TheVariants as statements
use Rattle.plcr_script.specs.declared.statements.NumberedStatement.{NumberedStatement}
use Rattle.plcr_script.specs.Scripts.{ScriptValue}
use Rattle.plcr_script.specs.Lawful.{IsFitStatement, IsLawful}
use Rattle.plcr_script.specs.Places.{is_in_behind, is_misplaced, HasPass}
use Rattle.plcr_script.specs.RunStates.{is_in}
use Rattle.atomic_table.specs.Seated.{TableId}
use Rattle.plcr_run.specs.declared.slots.Slot.{Slot}
use Rattle.plcr_run.specs.declared.slots.Slot.TheVariants.{Out, In, Away}
use Rattle.plcr_run.specs.declared.writing.Writing.{Writing}
use Rattle.plcr_run.specs.inner.Slots.{slot_at, IsOutSlot, IsInSlot}
use Rattle.plcr_run.specs.inner.Tokens.{writer_of, place_in, AreTokens, IsPlaced}
use Rattle.plcr_run.specs.inner.Stepping.{MayStand}

-- a statement of a lawful script is within its limits
pub fit_at : (script : ScriptValue) (i number : ℕ) (statement : Statement) → IsLawful script → slice_get script.statements i ≡ Some (record { line = number; statement = statement }) → IsFitStatement statement
fit_at script i number statement lawful at = found script.statements i lawful.statements at
  where
    found : (xs : List NumberedStatement) (k : ℕ) → All (λ (s : NumberedStatement). IsFitStatement s.statement) xs → slice_get xs k ≡ Some (record { line = number; statement = statement }) → IsFitStatement statement
    found [] k all is = absurd cc
    found (x ∷ xs) zero all is =
        let e : x ≡ record { line = number; statement = statement } = cc in
        subst (λ (s : NumberedStatement). IsFitStatement s.statement) e (all zero x (omega arith))
    found (x ∷ xs) (suc k) all is = found xs k (λ j d below. all (suc j) d (omega arith)) is

slot_out : (writing : Writing) (k : ℕ) (slot : Slot) → IsPlaced (writer_of writing) k slot → is_in (place_in slot) ≡ false → IsOutSlot slot
slot_out writing k (Out pass) p e = tt
slot_out writing k (In hold) p e = cc
slot_out writing k Away p e = absurd p

slot_in : (slot : Slot) → is_in (place_in slot) ≡ true → IsInSlot slot
slot_in (Out pass) e = cc
slot_in (In hold) e = tt
slot_in Away e = cc

not_false : (b : Bool) → not b ≡ false → b ≡ true
not_false true e = refl
not_false false e = cc

pub may_stand : (table : TableId) (writing : Writing) (slots : List Slot) (statement : Statement) (earlier : List NumberedStatement) (passes : ℕ) → AreTokens table writing slots → (writer_of writing).passes ≡ passes → ((k : ℕ) → is_in (place_in (slot_at slots k)) ≡ is_in_behind k earlier)
    → HasPass passes statement → is_misplaced earlier statement ≡ false → MayStand slots statement
may_stand table writing slots statement earlier passes tokens sized places has placed = go statement has placed
  where
    within : (pass : ℕ) → pass < passes → pass < length slots
    within pass below = let count = tokens.count in omega arith

    go : (s : Statement) → HasPass passes s → is_misplaced earlier s ≡ false → MayStand slots s
    go (statements.Load header name) h m = tt
    go (statements.Unload header) h m = tt
    go (statements.BeginLoad header name) h m = tt
    go (statements.BeginUnload header) h m = tt
    go (statements.Step most) h m = tt
    go statements.End h m = tt
    go (statements.Enter pass) h m = (within pass h, slot_out writing pass (slot_at slots pass) (tokens.placed pass (omega arith)) (places pass ∙ m))
    go (statements.Walk pass most) h m = (within pass h, slot_in (slot_at slots pass) (places pass ∙ not_false (is_in_behind pass earlier) m))
    go (statements.Leave pass) h m = (within pass h, slot_in (slot_at slots pass) (places pass ∙ not_false (is_in_behind pass earlier) m))
    go (statements.Report pass file) h m = within pass h
