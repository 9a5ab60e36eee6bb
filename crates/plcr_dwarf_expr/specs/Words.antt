-- Arithmetic of expressions on words of 64 bits (DWARF 4, sections 2.5.1.4 and 2.5.1.5).
use Rattle.std.specs.Prelude.{ℕ, ◌+◌, ◌-◌, ◌*◌, ◌/◌, ◌%◌, ◌^◌, ◌==◌, ℤ, pos, Bool, not, nat_lt, if◌then◌else◌, bit_and, bit_or, bit_xor, unsigned_abs, int_div, int_lt, int_le, Result, Ok, Err}
use Rattle.std.specs.Int.{w64, cast_signed, cast_unsigned, int_div_euclid}
use Rattle.plcr_dwarf_expr.specs.declared.fault.ExprFault.{ExprFault}
use Rattle.plcr_dwarf_expr.specs.declared.fault.ExprFault.TheVariants.{DivideByZero}
use Rattle.plcr_dwarf_expr.specs.declared.operation.Constant.{Constant}
use Rattle.plcr_dwarf_expr.specs.declared.operation.Constant.TheVariants.{Addr, Const1u, Const1s, Const2u, Const2s, Const4u, Const4s, Const8u, Const8s, Constu, Consts, Lit}
use Rattle.plcr_dwarf_expr.specs.declared.operation.UnaryOperation.{UnaryOperation}
use Rattle.plcr_dwarf_expr.specs.declared.operation.UnaryOperation.TheVariants.{Abs, Neg, Not, PlusUconst}
use Rattle.plcr_dwarf_expr.specs.declared.operation.BinaryOperation.{BinaryOperation}
use Rattle.plcr_dwarf_expr.specs.declared.operation.BinaryOperation.TheVariants.{And, Div, Minus, Mod, Mul, Or, Plus, Shl, Shr, Shra, Xor, Eq, Ge, Gt, Le, Lt, Ne}

-- a word read in two's complement
abbrev pub signed : ℕ → ℤ
signed a = cast_signed w64 a

-- the word of a number
abbrev pub word : ℤ → ℕ
word z = cast_unsigned w64 z

-- a comparison's answer
abbrev pub truth : Bool → ℕ
truth b = if b then 1 else 0

-- what a constant pushes
abbrev pub constant_value : Constant → ℕ
constant_value (Addr n) = n
constant_value (Const1u n) = n
constant_value (Const1s z) = word z
constant_value (Const2u n) = n
constant_value (Const2s z) = word z
constant_value (Const4u n) = n
constant_value (Const4s z) = word z
constant_value (Const8u n) = n
constant_value (Const8s z) = word z
constant_value (Constu n) = n
constant_value (Consts n) = n
constant_value (Lit n) = n

abbrev pub unary_value : UnaryOperation → ℕ → ℕ
unary_value Abs a = unsigned_abs (signed a)
unary_value Neg a = (2 ^ 64 - a) % 2 ^ 64
unary_value Not a = 2 ^ 64 - 1 - a
unary_value (PlusUconst n) a = (a + n) % 2 ^ 64

-- the signed quotient, towards 0; that of -2^63 by -1 has the word of -2^63
abbrev pub quotient : ℕ → ℕ → Result ℕ ExprFault
quotient left right = if right == 0 then Err DivideByZero
    else Ok (word (int_div (signed left) (signed right)))

-- the unsigned rest
abbrev pub rest : ℕ → ℕ → Result ℕ ExprFault
rest left right = if right == 0 then Err DivideByZero else Ok (left % right)

-- shifts; one by 64 or more leaves no bit
abbrev pub shifted_left : ℕ → ℕ → ℕ
shifted_left left right = if nat_lt right 64 then (left * 2 ^ right) % 2 ^ 64 else 0

abbrev pub shifted_right : ℕ → ℕ → ℕ
shifted_right left right = if nat_lt right 64 then left / 2 ^ right else 0

-- the shift that keeps the sign: the quotient by a power of two, downwards; one by 64 or more
-- leaves the sign in all bits
abbrev pub shifted_signed : ℕ → ℕ → ℕ
shifted_signed left right =
    if nat_lt right 64 then word (int_div_euclid (signed left) (pos (2 ^ right))) else
    if int_lt (signed left) (pos 0) then 2 ^ 64 - 1 else 0

-- the left value is the one that was pushed first
abbrev pub binary_value : BinaryOperation → ℕ → ℕ → Result ℕ ExprFault
binary_value And left right = Ok (bit_and left right)
binary_value Div left right = quotient left right
binary_value Minus left right = Ok ((left + (2 ^ 64 - right)) % 2 ^ 64)
binary_value Mod left right = rest left right
binary_value Mul left right = Ok ((left * right) % 2 ^ 64)
binary_value Or left right = Ok (bit_or left right)
binary_value Plus left right = Ok ((left + right) % 2 ^ 64)
binary_value Shl left right = Ok (shifted_left left right)
binary_value Shr left right = Ok (shifted_right left right)
binary_value Shra left right = Ok (shifted_signed left right)
binary_value Xor left right = Ok (bit_xor left right)
binary_value Eq left right = Ok (truth (left == right))
binary_value Ge left right = Ok (truth (int_le (signed right) (signed left)))
binary_value Gt left right = Ok (truth (int_lt (signed right) (signed left)))
binary_value Le left right = Ok (truth (int_le (signed left) (signed right)))
binary_value Lt left right = Ok (truth (int_lt (signed left) (signed right)))
binary_value Ne left right = Ok (truth (not (left == right)))
