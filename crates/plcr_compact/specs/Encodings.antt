-- Encodings: how the frame of a function is laid out, by the words of compact_unwind_encoding.h.
use Rattle.std.specs.Prelude.{ℕ, zero, suc, ◌*◌, ◌/◌, ◌%◌, ◌==◌, Bool, not, if◌then◌else◌, List, [], ◌∷◌, map, Option, Some, None, Ok, Err}
use Rattle.std.specs.Int.Bits.{bit_and}
use Rattle.plcr_base.specs.Chains.{◌>>=◌}
use Rattle.plcr_regs.specs.declared.arch.Arch.{Arch}
use Rattle.plcr_regs.specs.declared.arch.Arch.TheVariants.{X86_64, Arm64}
use Rattle.plcr_compact.specs.declared.bad.TheConstants.{DWARF_MODE, NO_REGISTERS, UNKNOWN_MODE}
use Rattle.plcr_compact.specs.declared.encoding.Encoding.{Encoding}
use Rattle.plcr_compact.specs.declared.encoding.Encoding.TheVariants.{RbpFrame, StackImmediate, StackIndirect, Frameless, Frame}
use Rattle.plcr_compact.specs.declared.encoding.Permutation.{Permutation}
use Rattle.plcr_compact.specs.declared.encoding.SavedRegister.{SavedRegister}
use Rattle.plcr_compact.specs.declared.encoding.SavedRegister.TheVariants.{Rbx, R12, R13, R14, R15}
use Rattle.plcr_compact.specs.declared.encoding.TheConstants.{FRAME_REGISTERS}
use Rattle.plcr_compact.specs.declared.masks.TheConstants.{UNWIND_ARM64_FRAMELESS_STACK_SIZE_MASK, UNWIND_ARM64_FRAME_X19_X20_PAIR, UNWIND_ARM64_FRAME_X21_X22_PAIR, UNWIND_ARM64_FRAME_X23_X24_PAIR, UNWIND_ARM64_FRAME_X25_X26_PAIR, UNWIND_ARM64_FRAME_X27_X28_PAIR, UNWIND_ARM64_MODE_DWARF, UNWIND_ARM64_MODE_FRAME, UNWIND_ARM64_MODE_FRAMELESS, UNWIND_ARM64_MODE_MASK, UNWIND_X86_64_FRAMELESS_STACK_ADJUST, UNWIND_X86_64_FRAMELESS_STACK_REG_COUNT, UNWIND_X86_64_FRAMELESS_STACK_REG_PERMUTATION, UNWIND_X86_64_FRAMELESS_STACK_SIZE, UNWIND_X86_64_MODE_DWARF, UNWIND_X86_64_MODE_MASK, UNWIND_X86_64_MODE_RBP_FRAME, UNWIND_X86_64_MODE_STACK_IMMD, UNWIND_X86_64_MODE_STACK_IND, UNWIND_X86_64_RBP_FRAME_OFFSET, UNWIND_X86_64_RBP_FRAME_REGISTERS, UNWIND_X86_64_REG_NONE, UNWIND_X86_64_REG_R12, UNWIND_X86_64_REG_R13, UNWIND_X86_64_REG_R14, UNWIND_X86_64_REG_R15, UNWIND_X86_64_REG_RBX}
use Rattle.plcr_compact.specs.Sections.{field}
use Rattle.plcr_compact.specs.Tables.{Answer}

-- the register with a number in a frame with rbp, where there is one
unfoldable pub frame_register : ℕ → Answer (Option SavedRegister)
frame_register number =
    if number == UNWIND_X86_64_REG_NONE then Ok None else
    if number == UNWIND_X86_64_REG_RBX then Ok (Some Rbx) else
    if number == UNWIND_X86_64_REG_R12 then Ok (Some R12) else
    if number == UNWIND_X86_64_REG_R13 then Ok (Some R13) else
    if number == UNWIND_X86_64_REG_R14 then Ok (Some R14) else
    if number == UNWIND_X86_64_REG_R15 then Ok (Some R15) else
    Err NO_REGISTERS

-- the registers of so many fields of 3 bits, from the low end on
abbrev pub frame_registers : ℕ → ℕ → Answer (List (Option SavedRegister))
frame_registers zero fields = Ok []
frame_registers (suc left) fields =
    frame_register (fields % 8) >>= λ register.
    frame_registers left (fields / 8) >>= λ registers.
    Ok (register ∷ registers)

-- the registers that a function without a frame saved
abbrev pub permutation_of : ℕ → Permutation
permutation_of word = record {
  count = field word UNWIND_X86_64_FRAMELESS_STACK_REG_COUNT;
  number = field word UNWIND_X86_64_FRAMELESS_STACK_REG_PERMUTATION;
}

-- an encoding of x86-64; its offset, size and adjustment are told in words of 8 bytes, and the
-- place of its size in bytes
unfoldable pub x86_64_encoding : ℕ → Answer Encoding
x86_64_encoding word =
    let mode = bit_and word UNWIND_X86_64_MODE_MASK in
    if mode == UNWIND_X86_64_MODE_RBP_FRAME then
    (frame_registers FRAME_REGISTERS (field word UNWIND_X86_64_RBP_FRAME_REGISTERS) >>= λ registers.
    Ok (RbpFrame (8 * field word UNWIND_X86_64_RBP_FRAME_OFFSET) registers)) else
    if mode == UNWIND_X86_64_MODE_STACK_IMMD then
    Ok (StackImmediate (8 * field word UNWIND_X86_64_FRAMELESS_STACK_SIZE) (permutation_of word))
    else
    if mode == UNWIND_X86_64_MODE_STACK_IND then
    Ok (StackIndirect (field word UNWIND_X86_64_FRAMELESS_STACK_SIZE)
    (8 * field word UNWIND_X86_64_FRAMELESS_STACK_ADJUST) (permutation_of word)) else
    if mode == UNWIND_X86_64_MODE_DWARF then Err DWARF_MODE else Err UNKNOWN_MODE

-- the bits that tell of arm64's pairs of registers whether they were saved. Those of pairs of d
-- registers aren't among them: these stand below all others, and aren't read
abbrev pub pair_masks : List ℕ
pair_masks =
    UNWIND_ARM64_FRAME_X19_X20_PAIR ∷ UNWIND_ARM64_FRAME_X21_X22_PAIR
    ∷ UNWIND_ARM64_FRAME_X23_X24_PAIR ∷
    UNWIND_ARM64_FRAME_X25_X26_PAIR ∷ UNWIND_ARM64_FRAME_X27_X28_PAIR ∷ []

abbrev pub pairs_of : ℕ → List Bool
pairs_of word = map (λ mask. not (bit_and word mask == 0)) pair_masks

-- an encoding of arm64; its size is told in pairs of 16 bytes
unfoldable pub arm64_encoding : ℕ → Answer Encoding
arm64_encoding word =
    let mode = bit_and word UNWIND_ARM64_MODE_MASK in
    if mode == UNWIND_ARM64_MODE_FRAMELESS then
    Ok (Frameless (16 * field word UNWIND_ARM64_FRAMELESS_STACK_SIZE_MASK) (pairs_of word)) else
    if mode == UNWIND_ARM64_MODE_FRAME then Ok (Frame (pairs_of word)) else
    if mode == UNWIND_ARM64_MODE_DWARF then Err DWARF_MODE else Err UNKNOWN_MODE

-- the encoding that a word spells
unfoldable pub encoding_by : Arch → ℕ → Answer Encoding
encoding_by X86_64 word = x86_64_encoding word
encoding_by Arm64 word = arm64_encoding word
