-- The numbers of an expression's faults.
use Rattle.std.specs.Prelude.{ℕ}
use Rattle.plcr_dwarf_expr.specs.declared.fault.ExprFault.{ExprFault}
use Rattle.plcr_dwarf_expr.specs.declared.fault.ExprFault.TheVariants.{Truncated, Unknown, Underflow, Overflow, Unmapped, NoRegister, DivideByZero, Budget, BadJump}

abbrev pub fault_number : ExprFault → ℕ
fault_number Truncated = 1
fault_number (Unknown op) = 2
fault_number Underflow = 3
fault_number Overflow = 4
fault_number (Unmapped at) = 5
fault_number NoRegister = 6
fault_number DivideByZero = 7
fault_number Budget = 8
fault_number BadJump = 9
