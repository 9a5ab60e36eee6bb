-- The numbers of the faults of call frame information.
use Rattle.std.specs.Prelude.{ℕ, ◌+◌}
use Rattle.plcr_dwarf_expr.specs.Faults as expressions
use Rattle.plcr_dwarf_cfi.specs.declared.fault.TheConstants.{EXPRESSION}
use Rattle.plcr_dwarf_cfi.specs.declared.fault.CallFrameFault.{CallFrameFault}
use Rattle.plcr_dwarf_cfi.specs.declared.fault.CallFrameFault.TheVariants.{NoSection, Truncated, NotCovered, UnknownVersion, UnknownAugmentation, UnknownEncoding, UnknownInstruction, RememberedRows, CfaRegister, CfaRule, Unmapped, UnknownRegister, Expression}

abbrev pub fault_number : CallFrameFault → ℕ
fault_number NoSection = 1
fault_number Truncated = 2
fault_number NotCovered = 3
fault_number UnknownVersion = 4
fault_number UnknownAugmentation = 5
fault_number UnknownEncoding = 6
fault_number UnknownInstruction = 7
fault_number RememberedRows = 8
fault_number CfaRegister = 9
fault_number CfaRule = 10
fault_number Unmapped = 12
fault_number UnknownRegister = 13
fault_number (Expression fault) = EXPRESSION + expressions.fault_number fault
