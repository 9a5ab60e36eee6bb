-- What an operation makes of a stack (DWARF 4, section 2.5.1). A stack is a list of words, the top
-- first.
use Rattle.std.specs.Prelude.{ℕ, ◌+◌, ◌%◌, ◌^◌, ◌==◌, ℤ, pos, ◌+ℤ◌, ◌||◌, int_lt, nat_lt, unsigned_abs, if◌then◌else◌, List, [], ◌∷◌, length, slice_get, Option, ok_or, Result, Ok, Err}
use Rattle.plcr_base.specs.Chains.{◌>>=◌, result_map}
use Rattle.plcr_memory.specs.Regions.{Contents, byte_at, number_at}
use Rattle.plcr_regs.specs.declared.registers.Registers.{Registers}
use Rattle.plcr_regs.specs.Frames.{dwarf_register}
use Rattle.plcr_dwarf_expr.specs.declared.limits.TheConstants.{MOST_VALUES}
use Rattle.plcr_dwarf_expr.specs.declared.fault.ExprFault.{ExprFault}
use Rattle.plcr_dwarf_expr.specs.declared.fault.ExprFault.TheVariants.{Underflow, Overflow, Unmapped, NoRegister, BadJump}
use Rattle.plcr_dwarf_expr.specs.declared.operation.RegisterValue.{RegisterValue}
use Rattle.plcr_dwarf_expr.specs.declared.operation.RegisterValue.TheVariants.{Reg, Breg, Regx, Bregx}
use Rattle.plcr_dwarf_expr.specs.declared.operation.StackOperation.{StackOperation}
use Rattle.plcr_dwarf_expr.specs.declared.operation.StackOperation.TheVariants.{Dup, Drop, Over, Pick, Swap, Rot}
use Rattle.plcr_dwarf_expr.specs.declared.operation.Width.TheVariants.{One, Two, Four, Eight}
use Rattle.plcr_dwarf_expr.specs.declared.operation.Dereference.{Dereference}
use Rattle.plcr_dwarf_expr.specs.declared.operation.Dereference.TheVariants.{Deref, DerefSize}
use Rattle.plcr_dwarf_expr.specs.declared.operation.UnaryOperation.{UnaryOperation}
use Rattle.plcr_dwarf_expr.specs.declared.operation.BinaryOperation.{BinaryOperation}
use Rattle.plcr_dwarf_expr.specs.declared.operation.ControlFlow.{ControlFlow}
use Rattle.plcr_dwarf_expr.specs.declared.operation.ControlFlow.TheVariants.{Bra, Skip, Nop}
use Rattle.plcr_dwarf_expr.specs.declared.operation.Operation.{Operation}
use Rattle.plcr_dwarf_expr.specs.declared.operation.Operation.TheVariants.{Literal, Register, Stack, Memory, Unary, Binary, Control}
use Rattle.plcr_dwarf_expr.specs.Words.{constant_value, unary_value, binary_value}

-- a stack, or the fault that there is none
abbrev pub Stacked : Type 0
Stacked = Result (List ℕ) ExprFault

-- one value more, where there is room for it
abbrev pub pushed : ℕ → List ℕ → Stacked
pushed value stack = if nat_lt (length stack) MOST_VALUES then Ok (value ∷ stack) else Err Overflow

-- a copy of the value that is so far from the top
abbrev pub copied : ℕ → List ℕ → Stacked
copied depth stack = ok_or (slice_get stack depth) Underflow >>= λ value. pushed value stack

-- section 2.5.1.3: rot makes the top the third
abbrev pub shuffled : StackOperation → List ℕ → Stacked
shuffled Dup stack = copied 0 stack
shuffled Over stack = copied 1 stack
shuffled (Pick depth) stack = copied depth stack
shuffled Drop (a ∷ stack) = Ok stack
shuffled Drop stack = Err Underflow
shuffled Swap (a ∷ b ∷ stack) = Ok (b ∷ a ∷ stack)
shuffled Swap stack = Err Underflow
shuffled Rot (a ∷ b ∷ c ∷ stack) = Ok (b ∷ c ∷ a ∷ stack)
shuffled Rot stack = Err Underflow

-- the value of a register by its number, and an offset
abbrev pub register_sum : Registers → ℕ → ℕ → Result ℕ ExprFault
register_sum registers number offset = ok_or (dwarf_register registers number) NoRegister
    >>= λ value. Ok ((value + offset) % 2 ^ 64)

abbrev pub register_value : Registers → RegisterValue → Result ℕ ExprFault
register_value registers (Reg number) = register_sum registers number 0
register_value registers (Breg number offset) = register_sum registers number offset
register_value registers (Regx number) = register_sum registers number 0
register_value registers (Bregx number offset) = register_sum registers number offset

-- the value of a register (section 2.6.1.1.2) or its sum with an offset (section 2.5.1.2), where
-- there is room on the stack, which is tested first
abbrev pub with_register : Registers → RegisterValue → List ℕ → Stacked
with_register registers value stack =
    if nat_lt (length stack) MOST_VALUES
    then (register_value registers value >>= λ word. Ok (word ∷ stack)) else Err Overflow

-- the number at an address
abbrev pub word_at : Contents → Dereference → ℕ → Option ℕ
word_at memory Deref at = number_at 8 memory at
word_at memory (DerefSize One) at = byte_at memory at
word_at memory (DerefSize Two) at = number_at 2 memory at
word_at memory (DerefSize Four) at = number_at 4 memory at
word_at memory (DerefSize Eight) at = number_at 8 memory at

abbrev pub dereferenced : Contents → Dereference → List ℕ → Stacked
dereferenced memory width [] = Err Underflow
dereferenced memory width (at ∷ stack) = ok_or (word_at memory width at) (Unmapped at) >>= λ value.
    Ok (value ∷ stack)

-- section 2.5.1.4
abbrev pub changed_top : UnaryOperation → List ℕ → Stacked
changed_top operation [] = Err Underflow
changed_top operation (a ∷ stack) = Ok (unary_value operation a ∷ stack)

-- sections 2.5.1.4 and 2.5.1.5: the second value is the left one
abbrev pub combined_top : BinaryOperation → List ℕ → Stacked
combined_top operation (right ∷ left ∷ stack) = binary_value operation left right >>= λ value.
    Ok (value ∷ stack)
combined_top operation stack = Err Underflow

-- a place of the code and the stack there
pub record Moment : Type 0 where
  pub place : ℕ
  pub stack : List ℕ

abbrev pub moment : ℕ → List ℕ → Moment
moment place stack = record { place = place; stack = stack }

-- the place so far from another, of code of so many bytes; its end is one too
abbrev pub jumped : ℕ → ℕ → ℤ → Result ℕ ExprFault
jumped size place by =
    let target = pos place +ℤ by in
    if int_lt target (pos 0) || int_lt (pos size) target then Err BadJump
    else Ok (unsigned_abs target)

-- section 2.5.1.5: jumps count from the place behind their operand
abbrev pub moved : ℕ → ℕ → ControlFlow → List ℕ → Result Moment ExprFault
moved size next (Skip by) stack = jumped size next by >>= λ place. Ok (moment place stack)
moved size next (Bra by) [] = Err Underflow
moved size next (Bra by) (a ∷ stack) = if a == 0 then Ok (moment next stack)
    else (jumped size next by >>= λ place. Ok (moment place stack))
moved size next Nop stack = Ok (moment next stack)

-- what stands behind an operation, which ends at a place
abbrev pub applied : Contents → Registers → ℕ → ℕ → Operation → List ℕ → Result Moment ExprFault
applied memory registers size next (Literal constant) stack =
    result_map (moment next) (pushed (constant_value constant) stack)
applied memory registers size next (Register value) stack =
    result_map (moment next) (with_register registers value stack)
applied memory registers size next (Stack operation) stack =
    result_map (moment next) (shuffled operation stack)
applied memory registers size next (Memory width) stack =
    result_map (moment next) (dereferenced memory width stack)
applied memory registers size next (Unary operation) stack =
    result_map (moment next) (changed_top operation stack)
applied memory registers size next (Binary operation) stack =
    result_map (moment next) (combined_top operation stack)
applied memory registers size next (Control flow) stack = moved size next flow stack
