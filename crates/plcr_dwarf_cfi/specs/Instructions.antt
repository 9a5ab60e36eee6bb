-- The instructions that bytes spell: DWARF 4, sections 6.4.2 and 7.23 (figure 40); Linux Standard
-- Base Core, "DWARF Extensions".
use Rattle.std.specs.Prelude.{ℕ, ◌+◌, ◌-◌, ◌%◌, ◌^◌, ◌==◌, nat_lt, if◌then◌else◌, List, [], ◌∷◌, Some, None, is_some, unwrap_or, Result, Ok, Err}
use Rattle.plcr_base.specs.Chains.{◌>>=◌}
use Rattle.plcr_dwarf_expr.specs.Decoding.{among, row, Row}
use Rattle.plcr_dwarf_cfi.specs.declared.decode.Decoded.{Decoded}
use Rattle.plcr_dwarf_cfi.specs.declared.entries.Encoding.{Encoding}
use Rattle.plcr_dwarf_cfi.specs.declared.entries.Extent.{Extent}
use Rattle.plcr_dwarf_cfi.specs.declared.fault.CallFrameFault.{CallFrameFault}
use Rattle.plcr_dwarf_cfi.specs.declared.fault.CallFrameFault.TheVariants.{Truncated, UnknownInstruction}
use Rattle.plcr_dwarf_cfi.specs.declared.instructions.Block.{Block}
use Rattle.plcr_dwarf_cfi.specs.declared.instructions.CfaDefinition.TheVariants as cfa
use Rattle.plcr_dwarf_cfi.specs.declared.instructions.Instruction.{Instruction}
use Rattle.plcr_dwarf_cfi.specs.declared.instructions.Instruction.TheVariants.{Creation, Cfa, Rule, State, Nop, GnuArgsSize}
use Rattle.plcr_dwarf_cfi.specs.declared.instructions.RowCreation.TheVariants as creation
use Rattle.plcr_dwarf_cfi.specs.declared.instructions.RowState.TheVariants as state
use Rattle.plcr_dwarf_cfi.specs.declared.instructions.RuleDefinition.TheVariants as rules
use Rattle.plcr_dwarf_cfi.specs.declared.opcodes.TheConstants.{DW_CFA_advance_loc, DW_CFA_offset, DW_CFA_restore, DW_CFA_nop, DW_CFA_set_loc, DW_CFA_advance_loc1, DW_CFA_advance_loc2, DW_CFA_advance_loc4, DW_CFA_offset_extended, DW_CFA_restore_extended, DW_CFA_undefined, DW_CFA_same_value, DW_CFA_register, DW_CFA_remember_state, DW_CFA_restore_state, DW_CFA_def_cfa, DW_CFA_def_cfa_register, DW_CFA_def_cfa_offset, DW_CFA_def_cfa_expression, DW_CFA_expression, DW_CFA_offset_extended_sf, DW_CFA_def_cfa_sf, DW_CFA_def_cfa_offset_sf, DW_CFA_val_offset, DW_CFA_val_offset_sf, DW_CFA_val_expression, DW_CFA_GNU_args_size}
use Rattle.plcr_dwarf_cfi.specs.Lists.{Listed, Step, listed}
use Rattle.plcr_dwarf_cfi.specs.Pointers.{pointer_at}
use Rattle.plcr_dwarf_cfi.specs.Sections.{Section, byte, fixed, signed, unsigned}

-- what an opcode reads behind itself, from a place on
abbrev pub Reading : Type 0
Reading = Section → Encoding → ℕ → Result Decoded CallFrameFault

abbrev pub decoded : Instruction → ℕ → Result Decoded CallFrameFault
decoded instruction next = Ok (record { instruction = instruction; next = next })

-- no operands; a pointer; numbers of one, two or four bytes; LEB128 numbers without and with a sign
abbrev pub plain : Instruction → Reading
plain instruction s encoding place = decoded instruction place

abbrev pub pointer : (ℕ → Instruction) → Reading
pointer make s encoding place = pointer_at s encoding place >>= λ n. decoded (make n.value) n.next

abbrev pub one : (ℕ → Instruction) → Reading
one make s encoding place = byte s.cells place >>= λ n. decoded (make n) (place + 1)

abbrev pub more : ℕ → (ℕ → Instruction) → Reading
more size make s encoding place = fixed size s.cells place >>= λ n. decoded (make n) (place + size)

abbrev pub number : (ℕ → Instruction) → Reading
number make s encoding place = unsigned s.cells place >>= λ n. decoded (make n.value) n.next

abbrev pub signed_number : (ℕ → Instruction) → Reading
signed_number make s encoding place = signed s.cells place >>= λ n. decoded (make n.value) n.next

-- an unsigned LEB128 number and another one
abbrev pub two_numbers : (ℕ → ℕ → Instruction) → Reading
two_numbers make s encoding place = unsigned s.cells place >>= λ n.
    number (make n.value) s encoding n.next

-- an unsigned LEB128 number and a signed one
abbrev pub number_signed : (ℕ → ℕ → Instruction) → Reading
number_signed make s encoding place = unsigned s.cells place >>= λ n.
    signed_number (make n.value) s encoding n.next

-- section 7.5.4: a block has its length, a LEB128 number, and so many bytes, all of which are there
abbrev pub block_at : Section → ℕ → ℕ → Block
block_at s place size = record { at = (s.at + place) % 2 ^ 64; size = size }

abbrev pub block_read : Section → ℕ → Result (Block × ℕ) CallFrameFault
block_read s place =
    unsigned s.cells place >>= λ size.
    if is_some (s.cells size.next size.value)
    then Ok (block_at s size.next size.value, size.next + size.value) else Err Truncated

abbrev pub block : (Block → Instruction) → Reading
block make s encoding place = block_read s place >>= λ b. decoded (make b.0) b.1

abbrev pub number_block : (ℕ → Block → Instruction) → Reading
number_block make s encoding place = unsigned s.cells place >>= λ n.
    block (make n.value) s encoding n.next

-- the rows of figure 40 by their groups in section 6.4.2
abbrev pub creation_rows : List (Row Reading)
creation_rows =
    row DW_CFA_set_loc (pointer (λ n. Creation (creation.SetLoc n))) ∷
    row DW_CFA_advance_loc1 (one (λ n. Creation (creation.AdvanceLoc1 n))) ∷
    row DW_CFA_advance_loc2 (more 2 (λ n. Creation (creation.AdvanceLoc2 n))) ∷
    row DW_CFA_advance_loc4 (more 4 (λ n. Creation (creation.AdvanceLoc4 n))) ∷
    []

abbrev pub cfa_rows : List (Row Reading)
cfa_rows =
    row DW_CFA_def_cfa (two_numbers (λ r n. Cfa (cfa.DefCfa r n))) ∷
    row DW_CFA_def_cfa_sf (number_signed (λ r n. Cfa (cfa.DefCfaSf r n))) ∷
    row DW_CFA_def_cfa_register (number (λ r. Cfa (cfa.DefCfaRegister r))) ∷
    row DW_CFA_def_cfa_offset (number (λ n. Cfa (cfa.DefCfaOffset n))) ∷
    row DW_CFA_def_cfa_offset_sf (signed_number (λ n. Cfa (cfa.DefCfaOffsetSf n))) ∷
    row DW_CFA_def_cfa_expression (block (λ b. Cfa (cfa.DefCfaExpression b))) ∷
    []

abbrev pub register_rows : List (Row Reading)
register_rows =
    row DW_CFA_undefined (number (λ r. Rule (rules.Undefined r))) ∷
    row DW_CFA_same_value (number (λ r. Rule (rules.SameValue r))) ∷
    row DW_CFA_register (two_numbers (λ r q. Rule (rules.Register r q))) ∷
    row DW_CFA_restore_extended (number (λ r. Rule (rules.RestoreExtended r))) ∷
    []

abbrev pub offset_rows : List (Row Reading)
offset_rows =
    row DW_CFA_offset_extended (two_numbers (λ r n. Rule (rules.OffsetExtended r n))) ∷
    row DW_CFA_offset_extended_sf (number_signed (λ r n. Rule (rules.OffsetExtendedSf r n))) ∷
    row DW_CFA_val_offset (two_numbers (λ r n. Rule (rules.ValOffset r n))) ∷
    row DW_CFA_val_offset_sf (number_signed (λ r n. Rule (rules.ValOffsetSf r n))) ∷
    []

abbrev pub expression_rows : List (Row Reading)
expression_rows =
    row DW_CFA_expression (number_block (λ r b. Rule (rules.Expression r b))) ∷
    row DW_CFA_val_expression (number_block (λ r b. Rule (rules.ValExpression r b))) ∷
    []

abbrev pub other_rows : List (Row Reading)
other_rows =
    row DW_CFA_remember_state (plain (State state.RememberState)) ∷
    row DW_CFA_restore_state (plain (State state.RestoreState)) ∷
    row DW_CFA_nop (plain Nop) ∷
    row DW_CFA_GNU_args_size (number GnuArgsSize) ∷
    []

-- no instruction
abbrev pub unknown : Reading
unknown s encoding place = Err UnknownInstruction

-- what the group with an opcode reads, or what another reads
abbrev pub among_or : ℕ → List (Row Reading) → Reading → Reading
among_or opcode rows other = unwrap_or (among opcode rows) other

abbrev pub extended_reading : ℕ → Reading
extended_reading opcode =
    among_or opcode creation_rows
    (among_or opcode cfa_rows (among_or opcode register_rows (among_or opcode offset_rows
    (among_or opcode expression_rows (among_or opcode other_rows unknown)))))

-- what each opcode reads; of the three with the highest bits the low six bits are an operand
unfoldable pub reading_of : ℕ → Reading
reading_of opcode =
    if nat_lt opcode DW_CFA_advance_loc then extended_reading opcode else
    if nat_lt opcode DW_CFA_offset
    then plain (Creation (creation.AdvanceLoc (opcode - DW_CFA_advance_loc))) else
    if nat_lt opcode DW_CFA_restore
    then number (λ n. Rule (rules.Offset (opcode - DW_CFA_offset) n)) else
    plain (Rule (rules.Restore (opcode - DW_CFA_restore)))

-- the instruction at a place
abbrev pub instruction_at : Reading
instruction_at s encoding place = byte s.cells place >>= λ opcode.
    reading_of opcode s encoding (place + 1)

-- the instruction at a place and the place of the next one, up to where the instructions end
unfoldable pub instruction_before : Section → Encoding → ℕ → Step Instruction
instruction_before s encoding end place =
    if place == end then Ok None
    else (instruction_at s encoding place >>= λ d. Ok (Some (d.instruction, d.next)))

-- the instructions from a place on. Each takes some of the section's bytes
unfoldable pub instructions_in : Section → Encoding → Extent → Listed Instruction
instructions_in s encoding e = listed (instruction_before s encoding e.end) s.size e.start
