-- The operations that bytes of code spell: DWARF 4, section 7.7.1 and figure 24. LEB128 numbers are
-- those of section 7.6.
use Rattle.std.specs.Prelude.{ℕ, ◌+◌, ◌-◌, ◌==◌, Bool, ◌&&◌, nat_le, if◌then◌else◌, List, [], ◌∷◌, Option, Some, None, ok_or, option_map, unwrap_or, Result, Ok, Err}
use Rattle.std.specs.Int.{w8, w16, w32, w64, cast_signed}
use Rattle.plcr_base.specs.Chains.{◌>>=◌}
use Rattle.plcr_leb128.specs.declared.fault.Leb128Fault.{Leb128Fault}
use Rattle.plcr_leb128.specs.declared.leb128.Number.{Number}
use Rattle.plcr_leb128.specs.Cells.{Source, bytes_of, number_in}
use Rattle.plcr_leb128.specs.Leb128.{unsigned_at, signed_at}
use Rattle.plcr_dwarf_expr.specs.declared.opcodes.TheConstants.{DW_OP_addr, DW_OP_deref, DW_OP_const1u, DW_OP_const1s, DW_OP_const2u, DW_OP_const2s, DW_OP_const4u, DW_OP_const4s, DW_OP_const8u, DW_OP_const8s, DW_OP_constu, DW_OP_consts, DW_OP_dup, DW_OP_drop, DW_OP_over, DW_OP_pick, DW_OP_swap, DW_OP_rot, DW_OP_abs, DW_OP_and, DW_OP_div, DW_OP_minus, DW_OP_mod, DW_OP_mul, DW_OP_neg, DW_OP_not, DW_OP_or, DW_OP_plus, DW_OP_plus_uconst, DW_OP_shl, DW_OP_shr, DW_OP_shra, DW_OP_xor, DW_OP_bra, DW_OP_eq, DW_OP_ge, DW_OP_gt, DW_OP_le, DW_OP_lt, DW_OP_ne, DW_OP_skip, DW_OP_lit0, DW_OP_lit31, DW_OP_reg0, DW_OP_reg31, DW_OP_breg0, DW_OP_breg31, DW_OP_regx, DW_OP_bregx, DW_OP_deref_size, DW_OP_nop}
use Rattle.plcr_dwarf_expr.specs.declared.fault.ExprFault.{ExprFault}
use Rattle.plcr_dwarf_expr.specs.declared.fault.ExprFault.TheVariants.{Truncated, Unknown}
use Rattle.plcr_dwarf_expr.specs.declared.operation.Constant.TheVariants.{Addr, Const1u, Const1s, Const2u, Const2s, Const4u, Const4s, Const8u, Const8s, Constu, Consts, Lit}
use Rattle.plcr_dwarf_expr.specs.declared.operation.RegisterValue.TheVariants.{Reg, Breg, Regx, Bregx}
use Rattle.plcr_dwarf_expr.specs.declared.operation.StackOperation.TheVariants.{Dup, Drop, Over, Pick, Swap, Rot}
use Rattle.plcr_dwarf_expr.specs.declared.operation.Width.{Width}
use Rattle.plcr_dwarf_expr.specs.declared.operation.Width.TheVariants.{One, Two, Four, Eight}
use Rattle.plcr_dwarf_expr.specs.declared.operation.Dereference.TheVariants.{Deref, DerefSize}
use Rattle.plcr_dwarf_expr.specs.declared.operation.UnaryOperation.TheVariants.{Abs, Neg, Not, PlusUconst}
use Rattle.plcr_dwarf_expr.specs.declared.operation.BinaryOperation.TheVariants.{And, Div, Minus, Mod, Mul, Or, Plus, Shl, Shr, Shra, Xor, Eq, Ge, Gt, Le, Lt, Ne}
use Rattle.plcr_dwarf_expr.specs.declared.operation.ControlFlow.TheVariants.{Bra, Skip, Nop}
use Rattle.plcr_dwarf_expr.specs.declared.operation.Operation.{Operation}
use Rattle.plcr_dwarf_expr.specs.declared.operation.Operation.TheVariants.{Literal, Register, Stack, Memory, Unary, Binary, Control}
use Rattle.plcr_dwarf_expr.specs.declared.operation.Decoded.{Decoded}

-- what an opcode reads behind itself, from a place on
abbrev pub Reading : Type 0
Reading = Source → ℕ → Result Decoded ExprFault

abbrev pub decoded : Operation → ℕ → Result Decoded ExprFault
decoded operation next = Ok (record { operation = operation; next = next })

-- a number of a fixed size, where its bytes are there
abbrev pub byte : Source → ℕ → Result ℕ ExprFault
byte code at = ok_or (bytes_of code at) Truncated

abbrev pub fixed : ℕ → Source → ℕ → Result ℕ ExprFault
fixed size code at = ok_or (number_in size code at) Truncated

-- a LEB128 number; both of its faults are one
abbrev pub whole : Result Number Leb128Fault → Result Number ExprFault
whole (Ok number) = Ok number
whole (Err fault) = Err Truncated

-- no operands; one byte; a number of two, four or eight bytes; a LEB128 number without and with a
-- sign
abbrev pub plain : Operation → Reading
plain operation code at = decoded operation at

abbrev pub one : (ℕ → Operation) → Reading
one make code at = byte code at >>= λ n. decoded (make n) (at + 1)

abbrev pub more : ℕ → (ℕ → Operation) → Reading
more size make code at = fixed size code at >>= λ n. decoded (make n) (at + size)

abbrev pub unsigned : (ℕ → Operation) → Reading
unsigned make code at = whole (unsigned_at (bytes_of code) at) >>= λ n.
    decoded (make n.value) n.next

abbrev pub signed : (ℕ → Operation) → Reading
signed make code at = whole (signed_at (bytes_of code) at) >>= λ n. decoded (make n.value) n.next

-- an unsigned LEB128 number and a signed one behind it
abbrev pub unsigned_signed : (ℕ → ℕ → Operation) → Reading
unsigned_signed make code at = whole (unsigned_at (bytes_of code) at) >>= λ n.
    signed (make n.value) code n.next

-- how many bytes DW_OP_deref_size reads: 1, 2, 4 or 8
abbrev pub width_of : ℕ → Option Width
width_of size =
    if size == 1 then Some One else
    if size == 2 then Some Two else
    if size == 4 then Some Four else
    if size == 8 then Some Eight else None

abbrev pub sized : Reading
sized code at = byte code at >>= λ size. ok_or (width_of size) (Unknown DW_OP_deref_size)
    >>= λ width. decoded (Memory (DerefSize width)) (at + 1)

-- an opcode and what it stands for
pub record Row (A : Type 0) : Type 0 where
  pub opcode : ℕ
  pub meaning : A

abbrev pub row : {A : Type 0} → ℕ → A → Row A
row opcode meaning = record { opcode = opcode; meaning = meaning }

-- what the row with an opcode stands for
abbrev pub among : {A : Type 0} → ℕ → List (Row A) → Option A
among opcode [] = None
among opcode (r ∷ rs) = if opcode == r.opcode then Some r.meaning else among opcode rs

-- operations without operands
abbrev pub plain_rows : List (Row Operation)
plain_rows =
    row DW_OP_deref (Memory Deref) ∷
    row DW_OP_dup (Stack Dup) ∷
    row DW_OP_drop (Stack Drop) ∷
    row DW_OP_over (Stack Over) ∷
    row DW_OP_swap (Stack Swap) ∷
    row DW_OP_rot (Stack Rot) ∷
    row DW_OP_abs (Unary Abs) ∷
    row DW_OP_and (Binary And) ∷
    row DW_OP_div (Binary Div) ∷
    row DW_OP_minus (Binary Minus) ∷
    row DW_OP_mod (Binary Mod) ∷
    row DW_OP_mul (Binary Mul) ∷
    row DW_OP_neg (Unary Neg) ∷
    row DW_OP_not (Unary Not) ∷
    row DW_OP_or (Binary Or) ∷
    row DW_OP_plus (Binary Plus) ∷
    row DW_OP_shl (Binary Shl) ∷
    row DW_OP_shr (Binary Shr) ∷
    row DW_OP_shra (Binary Shra) ∷
    row DW_OP_xor (Binary Xor) ∷
    row DW_OP_eq (Binary Eq) ∷
    row DW_OP_ge (Binary Ge) ∷
    row DW_OP_gt (Binary Gt) ∷
    row DW_OP_le (Binary Le) ∷
    row DW_OP_lt (Binary Lt) ∷
    row DW_OP_ne (Binary Ne) ∷
    row DW_OP_nop (Control Nop) ∷
    []

-- constants
abbrev pub constant_rows : List (Row Reading)
constant_rows =
    row DW_OP_addr (more 8 (λ n. Literal (Addr n))) ∷
    row DW_OP_const1u (one (λ n. Literal (Const1u n))) ∷
    row DW_OP_const1s (one (λ n. Literal (Const1s (cast_signed w8 n)))) ∷
    row DW_OP_const2u (more 2 (λ n. Literal (Const2u n))) ∷
    row DW_OP_const2s (more 2 (λ n. Literal (Const2s (cast_signed w16 n)))) ∷
    row DW_OP_const4u (more 4 (λ n. Literal (Const4u n))) ∷
    row DW_OP_const4s (more 4 (λ n. Literal (Const4s (cast_signed w32 n)))) ∷
    row DW_OP_const8u (more 8 (λ n. Literal (Const8u n))) ∷
    row DW_OP_const8s (more 8 (λ n. Literal (Const8s (cast_signed w64 n)))) ∷
    row DW_OP_constu (unsigned (λ n. Literal (Constu n))) ∷
    row DW_OP_consts (signed (λ n. Literal (Consts n))) ∷
    []

-- other operations with operands
abbrev pub operand_rows : List (Row Reading)
operand_rows =
    row DW_OP_pick (one (λ n. Stack (Pick n))) ∷
    row DW_OP_plus_uconst (unsigned (λ n. Unary (PlusUconst n))) ∷
    row DW_OP_bra (more 2 (λ n. Control (Bra (cast_signed w16 n)))) ∷
    row DW_OP_skip (more 2 (λ n. Control (Skip (cast_signed w16 n)))) ∷
    row DW_OP_regx (unsigned (λ n. Register (Regx n))) ∷
    row DW_OP_bregx (unsigned_signed (λ n offset. Register (Bregx n offset))) ∷
    row DW_OP_deref_size sized ∷
    []

-- no operation
abbrev pub unknown : ℕ → Reading
unknown opcode code at = Err (Unknown opcode)

-- what an opcode with operands reads
abbrev pub operands_of : ℕ → Reading
operands_of opcode =
    unwrap_or (among opcode constant_rows) (unwrap_or (among opcode operand_rows) (unknown opcode))

-- the opcodes of one kind of operation that stand in a row
abbrev pub is_between : ℕ → ℕ → ℕ → Bool
is_between first opcode last = nat_le first opcode && nat_le opcode last

-- what each opcode reads
unfoldable pub reading_of : ℕ → Reading
reading_of opcode =
    if is_between DW_OP_lit0 opcode DW_OP_lit31 then plain (Literal (Lit (opcode - DW_OP_lit0)))
    else
    if is_between DW_OP_reg0 opcode DW_OP_reg31 then plain (Register (Reg (opcode - DW_OP_reg0)))
    else
    if is_between DW_OP_breg0 opcode DW_OP_breg31
    then signed (λ n. Register (Breg (opcode - DW_OP_breg0) n)) else
    unwrap_or (option_map plain (among opcode plain_rows)) (operands_of opcode)

-- the operation at a place
abbrev pub operation_at : Reading
operation_at code place = byte code place >>= λ opcode. reading_of opcode code (place + 1)
