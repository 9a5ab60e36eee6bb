-- The caller by a row: DWARF 4, section 6.4.4; which registers a function keeps say the ABI
-- supplements of both architectures.
use Rattle.std.specs.Prelude.{ℕ, ◌+◌, ◌%◌, ◌^◌, ◌==◌, nat_lt, Bool, true, false, if◌then◌else◌, List, [], ◌∷◌, length, slice_set, Option, Some, None, ok_or, unwrap_or, Result, Ok, Err}
use Rattle.plcr_base.specs.Chains.{◌>>=◌}
use Rattle.plcr_memory.specs.Regions.{Contents, number_at}
use Rattle.plcr_macho.specs.declared.image.Image.{Image}
use Rattle.plcr_macho.specs.declared.image.Part.{Part}
use Rattle.plcr_regs.specs.declared.arch.Arch.{Arch}
use Rattle.plcr_regs.specs.declared.arch.Arch.TheVariants.{X86_64, Arm64}
use Rattle.plcr_regs.specs.declared.frame.Frame.{Frame}
use Rattle.plcr_regs.specs.declared.frame.Step.{Step}
use Rattle.plcr_regs.specs.declared.frame.Step.TheVariants as steps
use Rattle.plcr_regs.specs.declared.registers.Registers.{Registers}
use Rattle.plcr_regs.specs.Frames.{cut, dwarf_register, frame_lookup, kept_of}
use Rattle.plcr_regs.specs.Places.{dwarf_names, dwarf_place, pc_place, sp_place}
use Rattle.plcr_dwarf_expr.specs.declared.fault.ExprFault.{ExprFault}
use Rattle.plcr_dwarf_expr.specs.Runs.{setting_at, value_of}
use Rattle.plcr_dwarf_cfi.specs.declared.entries.CommonInformation.{CommonInformation}
use Rattle.plcr_dwarf_cfi.specs.declared.entries.FrameDescription.{FrameDescription}
use Rattle.plcr_dwarf_cfi.specs.declared.fault.CallFrameFault.{CallFrameFault}
use Rattle.plcr_dwarf_cfi.specs.declared.fault.CallFrameFault.TheVariants as faults
use Rattle.plcr_dwarf_cfi.specs.declared.instructions.Block.{Block}
use Rattle.plcr_dwarf_cfi.specs.declared.limits.TheConstants.{LINK_REGISTER}
use Rattle.plcr_dwarf_cfi.specs.declared.row.CfaRule.{CfaRule}
use Rattle.plcr_dwarf_cfi.specs.declared.row.CfaRule.TheVariants as cfas
use Rattle.plcr_dwarf_cfi.specs.declared.row.RegisterRule.{RegisterRule}
use Rattle.plcr_dwarf_cfi.specs.declared.row.RegisterRule.TheVariants as rules
use Rattle.plcr_dwarf_cfi.specs.declared.row.Row.{Row}
use Rattle.plcr_dwarf_cfi.specs.Entries.{description_for}
use Rattle.plcr_dwarf_cfi.specs.Faults.{fault_number}
use Rattle.plcr_dwarf_cfi.specs.Rows.{row_at, rule_at}
use Rattle.plcr_dwarf_cfi.specs.Sections.{Section, section_at}

-- how many register numbers an architecture has
unfoldable pub register_numbers : Arch → ℕ
register_numbers arch = length (dwarf_names arch)

-- what stands for an expression's answer
abbrev pub expressed : Result ℕ ExprFault → Result ℕ CallFrameFault
expressed (Ok value) = Ok value
expressed (Err fault) = Err (faults.Expression fault)

-- the value of an expression over the present registers, with a value on the stack where one is
-- given
abbrev pub value_in : Contents → Registers → Block → Option ℕ → Result ℕ CallFrameFault
value_in memory state block start =
    expressed (value_of (setting_at memory state block.at block.size) start)

abbrev pub word_at : Contents → ℕ → Result ℕ CallFrameFault
word_at memory at = ok_or (number_at 8 memory at) faults.Unmapped

-- the present value of a register
abbrev pub present : Registers → ℕ → Result ℕ CallFrameFault
present state number = ok_or (dwarf_register state number) faults.UnknownRegister

-- the canonical frame address
abbrev pub cfa_of : Contents → Registers → Option CfaRule → Result ℕ CallFrameFault
cfa_of memory state None = Err faults.CfaRule
cfa_of memory state (Some (cfas.RegisterOffset register offset)) =
    if nat_lt register (register_numbers state.arch)
    then (present state register >>= λ value. Ok ((value + offset) % 2 ^ 64))
    else Err faults.CfaRegister
cfa_of memory state (Some (cfas.Expression block)) = value_in memory state block None

-- the word at an expression's value
abbrev pub word_by : Contents → Registers → ℕ → Block → Result ℕ CallFrameFault
word_by memory state cfa block = value_in memory state block (Some cfa) >>= λ at. word_at memory at

-- the caller's value of a register by its rule
abbrev pub known : Result ℕ CallFrameFault → Result (Option ℕ) CallFrameFault
known (Ok value) = Ok (Some value)
known (Err fault) = Err fault

abbrev pub value_by : Contents → Registers → ℕ → ℕ → RegisterRule → Result (Option ℕ) CallFrameFault
value_by memory state cfa number rules.Undefined = Ok None
value_by memory state cfa number rules.SameValue = Ok (dwarf_register state number)
value_by memory state cfa number (rules.Offset offset) =
    known (word_at memory ((cfa + offset) % 2 ^ 64))
value_by memory state cfa number (rules.ValOffset offset) = Ok (Some ((cfa + offset) % 2 ^ 64))
value_by memory state cfa number (rules.Register other) = known (present state other)
value_by memory state cfa number (rules.Expression block) = known (word_by memory state cfa block)
value_by memory state cfa number (rules.ValExpression block) =
    known (value_in memory state block (Some cfa))

-- the register with a number takes a value
abbrev pub with_value : Option ℕ → List (Option ℕ) → Option ℕ → List (Option ℕ)
with_value None values value = values
with_value (Some place) values value = slice_set values place value

-- rules replace values, by rising register numbers
abbrev pub replaced_by : Contents → Registers → ℕ → ℕ → Option RegisterRule → List (Option ℕ) →
    Result (List (Option ℕ)) CallFrameFault
replaced_by memory state cfa number None values = Ok values
replaced_by memory state cfa number (Some rule) values =
    value_by memory state cfa number rule >>= λ value.
    Ok (with_value (dwarf_place state.arch number) values value)

abbrev pub replaced : Contents → Registers → ℕ → ℕ → List (Option RegisterRule) → List (Option ℕ) →
    Result (List (Option ℕ)) CallFrameFault
replaced memory state cfa number [] values = Ok values
replaced memory state cfa number (rule ∷ rest) values =
    replaced_by memory state cfa number rule values >>= λ next.
    replaced memory state cfa (number + 1) rest next

-- where no rule says otherwise, the registers that a function keeps stay, and the stack pointer is
-- the canonical frame address
abbrev pub at_call : Registers → ℕ → List (Option ℕ)
at_call state cfa = slice_set (kept_of state).value (sp_place state.arch) (Some cfa)

-- whether a column is the link register, whose present value stands for a return address without a
-- rule
abbrev pub is_link : Arch → ℕ → Bool
is_link X86_64 column = false
is_link Arm64 column = column == LINK_REGISTER

-- the return address: the value of its column
abbrev pub by_column : Registers → List (Option ℕ) → ℕ → Option RegisterRule →
    Result ℕ CallFrameFault
by_column state values column None = if is_link state.arch column then present state column
    else Err faults.UnknownRegister
by_column state values column (Some rule) =
    ok_or (dwarf_register (record { arch = state.arch; value = values }) column)
    faults.UnknownRegister

-- the frame of the caller; that of a signal frame's caller is exact
abbrev pub frame_at : Frame → Bool → List (Option ℕ) → ℕ → Frame
frame_at frame exact values back = record {
  registers = record {
    arch = frame.registers.arch;
    value = slice_set values (pc_place frame.registers.arch) (Some (cut frame back));
  };
  exact = exact;
  bits = frame.bits;
}

abbrev pub called : Contents → Frame → CommonInformation → Row → Result Step CallFrameFault
called memory frame c row =
    cfa_of memory frame.registers row.cfa >>= λ cfa.
    replaced memory frame.registers cfa 0 row.rules (at_call frame.registers cfa) >>= λ values.
    by_column frame.registers values c.return_address_register
    (rule_at row c.return_address_register) >>= λ back.
    Ok (steps.Frame (frame_at frame c.signal_frame values back))

-- a function whose return address is undefined has no caller
abbrev pub is_undefined : Option RegisterRule → Bool
is_undefined None = false
is_undefined (Some rules.Undefined) = true
is_undefined (Some rules.SameValue) = false
is_undefined (Some (rules.Offset offset)) = false
is_undefined (Some (rules.ValOffset offset)) = false
is_undefined (Some (rules.Register other)) = false
is_undefined (Some (rules.Expression block)) = false
is_undefined (Some (rules.ValExpression block)) = false

unfoldable pub caller_by : Contents → Frame → CommonInformation → Row → Result Step CallFrameFault
caller_by memory frame c row = if is_undefined (rule_at row c.return_address_register)
    then Ok steps.End else called memory frame c row

-- a fault is told by its number
abbrev pub told : Result Step CallFrameFault → Step
told (Ok step) = step
told (Err fault) = steps.Bad (fault_number fault)

-- the caller of a frame by a frame description entry of a section
unfoldable pub caller_from : Section → Frame → ℕ → FrameDescription → Result Step CallFrameFault
caller_from s frame address d = row_at s (register_numbers frame.registers.arch) d address
    >>= λ row. caller_by s.memory frame d.common row

-- the address that is looked up
abbrev pub looked_for : Frame → ℕ
looked_for frame = unwrap_or (frame_lookup frame) 0

-- the caller by what was found for the address
abbrev pub caller_in : Section → Frame → Result FrameDescription CallFrameFault → Step
caller_in s frame found = told (found >>= λ d. caller_from s frame (looked_for frame) d)

abbrev pub by_section : Contents → Frame → Option Part → Step
by_section memory frame None = steps.Bad (fault_number faults.NoSection)
by_section memory frame (Some part) =
    let s = section_at memory part.at part.size
    in caller_in s frame (description_for s (looked_for frame))

-- the caller of a frame by the call frame information of its image
unfoldable pub call_frame : Contents → Image → Frame → Step
call_frame memory image frame = by_section memory frame image.eh_frame
