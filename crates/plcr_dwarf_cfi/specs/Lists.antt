-- Lists that stand in bytes one item after the other, up to an end or a fault.
use Rattle.std.specs.Prelude.{ℕ, zero, suc, Bool, if◌then◌else◌, List, [], ◌∷◌, Option, Some, None, Result, Ok, Err}
use Rattle.plcr_base.specs.Chains.{◌>>=◌}
use Rattle.plcr_dwarf_cfi.specs.declared.fault.CallFrameFault.{CallFrameFault}
use Rattle.plcr_dwarf_cfi.specs.declared.fault.CallFrameFault.TheVariants.{Truncated}

-- what stands at a place: a fault, the end of the list, or an item and the place of the next one
abbrev pub Step : Type 0 → Type 0
Step A = ℕ → Result (Option (A × ℕ)) CallFrameFault

-- the items, and the fault at which the list stops where it doesn't end
pub record Listed (A : Type 0) : Type 0 where
  pub items : List A
  pub fault : Option CallFrameFault

-- an item before those behind it
abbrev pub behind : {A : Type 0} → Result (Option (A × ℕ)) CallFrameFault → (ℕ → Listed A) →
    Listed A
behind (Err fault) rest = record { items = []; fault = Some fault }
behind (Ok None) rest = record { items = []; fault = None }
behind (Ok (Some item)) rest =
    record { items = item.0 ∷ (rest item.1).items; fault = (rest item.1).fault }

-- the list from a place on. A list that doesn't end within so many steps is cut off, and no list of
-- bytes is where there are as many steps as bytes
abbrev pub listed : {A : Type 0} → Step A → ℕ → ℕ → Listed A
listed step zero place = record { items = []; fault = Some Truncated }
listed step (suc left) place = behind (step place) (λ next. listed step left next)

-- what stands at the end of a list
abbrev pub ended : {S : Type 0} → Option CallFrameFault → S → Result S CallFrameFault
ended None state = Ok state
ended (Some fault) state = Err fault

-- the items applied to a state one after the other, up to the first behind which the state is one
-- to stop at; what stands behind it doesn't count, faults included
abbrev pub fold_until : {A S : Type 0} → (A → S → Result S CallFrameFault) → (S → Bool) → List A →
    Option CallFrameFault → S → Result S CallFrameFault
fold_until apply stop [] fault state = ended fault state
fold_until apply stop (item ∷ items) fault state = apply item state >>= λ next. if stop next
    then Ok next else fold_until apply stop items fault next

-- the same of a list with its fault
abbrev pub run_until : {A S : Type 0} → (A → S → Result S CallFrameFault) → (S → Bool) → Listed A →
    S → Result S CallFrameFault
run_until apply stop list state = fold_until apply stop list.items list.fault state
