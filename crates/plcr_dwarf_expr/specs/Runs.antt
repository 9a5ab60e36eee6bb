-- The value of an expression (DWARF 4, section 2.5): a run goes from one place and stack to the
-- next by the operation at the place.
use Rattle.std.specs.Prelude.{◌≡◌, ◌≢◌, ◌≤◌, ◌⊎◌, ℕ, zero, suc, ◌==◌, if◌then◌else◌, List, [], ◌∷◌, length, Option, Some, None, Result, Ok, Err}
use Rattle.plcr_base.specs.Chains.{◌>>=◌}
use Rattle.plcr_memory.specs.Regions.{Contents}
use Rattle.plcr_regs.specs.declared.registers.Registers.{Registers}
use Rattle.plcr_leb128.specs.Cells.{Source, piece_bytes}
use Rattle.plcr_dwarf_expr.specs.declared.limits.TheConstants.{MOST_OPERATIONS}
use Rattle.plcr_dwarf_expr.specs.declared.fault.ExprFault.{ExprFault}
use Rattle.plcr_dwarf_expr.specs.declared.fault.ExprFault.TheVariants.{Underflow, Budget}
use Rattle.plcr_dwarf_expr.specs.Decoding.{operation_at}
use Rattle.plcr_dwarf_expr.specs.Effects.{Moment, moment, applied}

-- what an expression is evaluated over: its code, of so many bytes, the memory and the registers
pub record Setting : Type 0 where
  pub code : Source
  pub size : ℕ
  pub memory : Contents
  pub registers : Registers

-- what stands behind the operation at a moment, or why nothing does
abbrev pub step_from : Setting → Moment → Result Moment ExprFault
step_from s m = operation_at s.code m.place >>= λ d.
    applied s.memory s.registers s.size d.next d.operation m.stack

-- the value at the top
abbrev pub top_of : List ℕ → Result ℕ ExprFault
top_of [] = Err Underflow
top_of (value ∷ stack) = Ok value

-- the stack at the start
abbrev pub started : Option ℕ → List ℕ
started None = []
started (Some value) = value ∷ []

-- the value of the run from a moment on, with at most so many operations
abbrev pub run_from : Setting → ℕ → Moment → Result ℕ ExprFault
run_from s zero m = if m.place == s.size then top_of m.stack else Err Budget
run_from s (suc left) m = if m.place == s.size then top_of m.stack
    else (step_from s m >>= λ next. run_from s left next)

-- the value of the whole run
unfoldable pub value_of : Setting → Option ℕ → Result ℕ ExprFault
value_of s start = run_from s MOST_OPERATIONS (moment 0 (started start))

-- the setting of code that stands in memory
abbrev pub setting_at : Contents → Registers → ℕ → ℕ → Setting
setting_at memory registers at size =
    record {
      code = piece_bytes memory at size;
      size = size;
      memory = memory;
      registers = registers;
    }

-- each moment follows from the one before it by the operation at its place
abbrev pub Follows : Setting → Moment → List Moment → Type 0
Follows s m [] = Unit {0}
Follows s m (next ∷ moments) = (step_from s m ≡ Ok next) × Follows s next moments

-- the last of a moment and those behind it
abbrev pub last_of : Moment → List Moment → Moment
last_of m [] = m
last_of m (next ∷ moments) = last_of next moments

-- a run from the start: the moments behind its first one, at most as many as there may be
-- operations
pub record Run (s : Setting) (start : Option ℕ) : Type 0 where
  pub moments : List Moment
  pub most : length moments ≤ MOST_OPERATIONS
  pub follows : Follows s (moment 0 (started start)) moments

-- where the run ends
abbrev pub end_of : (s : Setting) (start : Option ℕ) → Run s start → Moment
end_of s start run = last_of (moment 0 (started start)) run.moments

-- a run that ends at the end of the code with the value at the top
pub record HasValue (s : Setting) (start : Option ℕ) (value : ℕ) : Type 0 where
  pub run : Run s start
  pub at_end : (end_of s start run).place ≡ s.size
  pub top : top_of (end_of s start run).stack ≡ Ok value

-- why no moment follows the last one of a run of so many operations, of which there may be at most
-- so many, and it gives no value: at the end of the code there is none at the top; elsewhere no
-- operation is left, or the one that stands there can't be carried out
abbrev pub Stops : Setting → ℕ → ℕ → Moment → ExprFault → Type 0
Stops s most count m fault =
    ((m.place ≡ s.size) × (top_of m.stack ≡ Err fault)) ⊎
    ((m.place ≢ s.size) × (((count ≡ most) × (Budget ≡ fault))
    ⊎ ((suc count ≤ most) × (step_from s m ≡ Err fault))))

-- a run that stops without a value
pub record HasFault (s : Setting) (start : Option ℕ) (fault : ExprFault) : Type 0 where
  pub run : Run s start
  pub stops : Stops s MOST_OPERATIONS (length run.moments) (end_of s start run) fault
