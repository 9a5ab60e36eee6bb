-- The caller of a frame by the encoding of its function (compact_unwind_encoding.h). Where words
-- stand on the stack is counted without modulo.
use Rattle.std.specs.Prelude.{ℕ, ◌+◌, ◌-◌, ◌*◌, ◌%◌, ◌^◌, ℤ, pos, ◌+ℤ◌, ◌-ℤ◌, int_lt, unsigned_abs, nat_lt, Bool, true, false, ◌||◌, if◌then◌else◌, List, [], ◌∷◌, ◌++◌, length, codes, slice_set, Option, Some, None, option_map, unwrap_or, ok_or, Ok, Err}
use Rattle.std.specs.List.{list_any}
use Rattle.std.specs.Option.{option_map_or}
use Rattle.plcr_base.specs.Chains.{◌>>=◌}
use Rattle.plcr_memory.specs.Regions.{Contents, number_at}
use Rattle.plcr_regs.specs.declared.arch.Arch.{Arch}
use Rattle.plcr_regs.specs.declared.arch.Arch.TheVariants.{X86_64, Arm64}
use Rattle.plcr_regs.specs.declared.frame.Frame.{Frame}
use Rattle.plcr_regs.specs.declared.frame.Step.{Step}
use Rattle.plcr_regs.specs.declared.frame.Step.TheVariants as steps
use Rattle.plcr_regs.specs.Frames.{cut, frame_lookup, kept_of, register_at}
use Rattle.plcr_regs.specs.Places.{fp_place, lr_place, pc_place, place_of, sp_place}
use Rattle.plcr_macho.specs.declared.image.Image.{Image}
use Rattle.plcr_compact.specs.declared.bad.TheConstants.{NOT_MAPPED, NO_REGISTERS, OUT_OF_RANGE}
use Rattle.plcr_compact.specs.declared.caller.SavedWord.{SavedWord}
use Rattle.plcr_compact.specs.declared.encoding.Encoding.{Encoding}
use Rattle.plcr_compact.specs.declared.encoding.Encoding.TheVariants as encodings
use Rattle.plcr_compact.specs.declared.encoding.Permutation.{Permutation}
use Rattle.plcr_compact.specs.declared.encoding.SavedRegister.{SavedRegister}
use Rattle.plcr_compact.specs.declared.encoding.SavedRegister.TheVariants.{Rbx, R12, R13, R14, R15, Rbp}
use Rattle.plcr_compact.specs.declared.section.Found.{Found}
use Rattle.plcr_compact.specs.Encodings.{encoding_by}
use Rattle.plcr_compact.specs.Permutations.{saved_registers}
use Rattle.plcr_compact.specs.Sections.{found_at}
use Rattle.plcr_compact.specs.Tables.{Answer}

-- the name of a register that x86-64's functions save
abbrev pub saved_name : SavedRegister → List ℕ
saved_name Rbx = codes "rbx"
saved_name R12 = codes "r12"
saved_name R13 = codes "r13"
saved_name R14 = codes "r14"
saved_name R15 = codes "r15"
saved_name Rbp = codes "rbp"

unfoldable pub saved_place : SavedRegister → ℕ
saved_place register = place_of X86_64 (saved_name register)

abbrev pub saved_word : ℤ → ℕ → SavedWord
saved_word at place = record { at = at; place = place }

-- what is known of a caller before the stack is read: its registers, its stack pointer, and the
-- words that hold others
pub record Caller : Type 0 where
  pub value : List (Option ℕ)
  pub stack : ℤ
  pub words : List SavedWord

-- the register at a place, which is needed
abbrev pub needed : Frame → ℕ → Answer ℕ
needed frame place = ok_or (register_at frame.registers place) OUT_OF_RANGE

-- the registers that functions keep, as the frame has them
abbrev pub kept_in : Frame → List (Option ℕ)
kept_in frame = (kept_of frame.registers).value

-- registers one behind the other from an address upwards
abbrev pub register_words : ℤ → List SavedRegister → List SavedWord
register_words at [] = []
register_words at (register ∷ registers) =
    saved_word at (saved_place register) ∷ register_words (at +ℤ pos 8) registers

-- the same, with words among them that hold none
abbrev pub field_words : ℤ → List (Option SavedRegister) → List SavedWord
field_words at [] = []
field_words at (None ∷ registers) = field_words (at +ℤ pos 8) registers
field_words at (Some register ∷ registers) =
    saved_word at (saved_place register) ∷ field_words (at +ℤ pos 8) registers

-- the places of arm64's pairs of registers that functions save
unfoldable pub pair_places : List (ℕ × ℕ)
pair_places =
    (place_of Arm64 (codes "x19"), place_of Arm64 (codes "x20")) ∷
    (place_of Arm64 (codes "x21"), place_of Arm64 (codes "x22")) ∷
    (place_of Arm64 (codes "x23"), place_of Arm64 (codes "x24")) ∷
    (place_of Arm64 (codes "x25"), place_of Arm64 (codes "x26")) ∷
    (place_of Arm64 (codes "x27"), place_of Arm64 (codes "x28")) ∷ []

-- the pairs that were saved, from an address downwards, the first register of each at the higher
-- address
abbrev pub pair_words : ℤ → List Bool → List (ℕ × ℕ) → List SavedWord
pair_words top [] places = []
pair_words top (saved ∷ pairs) [] = []
pair_words top (false ∷ pairs) (place ∷ places) = pair_words top pairs places
pair_words top (true ∷ pairs) (place ∷ places) =
    saved_word top place.0 ∷ saved_word (top -ℤ pos 8) place.1 ∷ pair_words (top -ℤ pos 16) pairs
    places

-- the frame pointer and the return address that stand where the frame pointer leads
abbrev pub frame_words : Arch → ℕ → List SavedWord
frame_words arch pointer =
    saved_word (pos pointer) (fp_place arch) ∷ saved_word (pos pointer +ℤ pos 8) (pc_place arch)
    ∷ []

-- the caller of a frame with a frame pointer, with these words besides
abbrev pub framed : Frame → ℕ → List SavedWord → Caller
framed frame pointer words = record {
  value = kept_in frame;
  stack = pos pointer +ℤ pos 16;
  words = words ++ frame_words frame.registers.arch pointer;
}

-- the caller of a frame without one on x86-64: the return address stands at the end of the stack,
-- and the registers below it
abbrev pub frameless : Frame → ℕ → ℕ → List SavedRegister → Caller
frameless frame pointer size registers =
    let stack = pos pointer +ℤ pos size in
    let words = register_words (stack -ℤ pos (8 + 8 * length registers)) registers in
    record {
      value = kept_in frame;
      stack = stack;
      words = words ++ saved_word (stack -ℤ pos 8) (pc_place frame.registers.arch) ∷ [];
    }

-- the same, where the stack has room for what was saved; the size may not be known
unfoldable pub frameless_by : Frame → Option ℕ → Permutation → Answer Caller
frameless_by frame size saved =
    ok_or (saved_registers saved) NO_REGISTERS >>= λ registers.
    if option_map_or (λ s. nat_lt s (8 + 8 * length registers)) size false then Err NO_REGISTERS
    else
    (needed frame (sp_place frame.registers.arch) >>= λ pointer.
    ok_or size NOT_MAPPED >>= λ s.
    Ok (frameless frame pointer s registers))

-- the caller of a frame without one on arm64, whose return address lr has
abbrev pub leaf : Frame → ℕ → ℕ → ℕ → List Bool → Caller
leaf frame pointer back size pairs =
    let stack = pos pointer +ℤ pos size in
    record {
      value = slice_set (kept_in frame) (pc_place frame.registers.arch) (Some back);
      stack = stack;
      words = pair_words (stack -ℤ pos 8) pairs pair_places;
    }

-- what lr has; x86-64 has no lr
abbrev pub link : Frame → Option ℕ
link frame = option_map_or (λ place. register_at frame.registers place)
    (lr_place frame.registers.arch) None

-- the size that stands in the code so far from a function's start, and what is added to it
abbrev pub size_at : Contents → ℕ → ℕ → ℕ → Option ℕ
size_at memory start place adjust =
    option_map (λ size. size + adjust) (number_at 4 memory ((start + place) % 2 ^ 64))

-- the caller by an encoding of a function that starts at an address
unfoldable pub caller_by : Contents → ℕ → Frame → Encoding → Answer Caller
caller_by memory start frame (encodings.RbpFrame offset registers) =
    needed frame (fp_place frame.registers.arch) >>= λ pointer.
    Ok (framed frame pointer (field_words (pos pointer -ℤ pos offset) registers))
caller_by memory start frame (encodings.StackImmediate size saved) =
    frameless_by frame (Some size) saved
caller_by memory start frame (encodings.StackIndirect place adjust saved) =
    frameless_by frame (size_at memory start place adjust) saved
caller_by memory start frame (encodings.Frameless size pairs) =
    needed frame (sp_place frame.registers.arch) >>= λ pointer.
    ok_or (link frame) OUT_OF_RANGE >>= λ back.
    Ok (leaf frame pointer back size pairs)
caller_by memory start frame (encodings.Frame pairs) =
    needed frame (fp_place frame.registers.arch) >>= λ pointer.
    Ok (framed frame pointer (pair_words (pos pointer -ℤ pos 8) pairs pair_places))

-- the word begins below 0 or ends above 2^64
abbrev pub is_outside : SavedWord → Bool
is_outside word = int_lt word.at (pos 0) || int_lt (pos (2 ^ 64)) (word.at +ℤ pos 8)

-- registers with those that words hold, the later of two words counting
abbrev pub filled : Contents → List (Option ℕ) → List SavedWord → Answer (List (Option ℕ))
filled memory value [] = Ok value
filled memory value (word ∷ words) =
    ok_or (number_at 8 memory (unsigned_abs word.at)) NOT_MAPPED >>= λ n.
    filled memory (slice_set value word.place (Some n)) words

-- the frame of a caller with these registers and this stack pointer: its pc without signature
unfoldable pub frame_of : Frame → List (Option ℕ) → ℤ → Frame
frame_of frame value stack =
    let arch = frame.registers.arch in
    let pc = slice_set value (pc_place arch)
    (option_map (cut frame)
    (register_at (record { arch = arch; value = value }) (pc_place arch))) in
    let sp = slice_set pc (sp_place arch) (Some (unsigned_abs stack % 2 ^ 64)) in
    record { registers = record { arch = arch; value = sp }; exact = false; bits = frame.bits }

-- the caller once the stack is read: no word and no stack pointer may pass the addresses of 64 bits
unfoldable pub read_caller : Contents → Frame → Caller → Answer Frame
read_caller memory frame caller =
    if list_any is_outside caller.words || int_lt (pos (2 ^ 64)) caller.stack then Err OUT_OF_RANGE
    else
    (filled memory caller.value caller.words >>= λ value. Ok (frame_of frame value caller.stack))

-- the caller of a frame by what its image's section says of it
unfoldable pub caller_from : Contents → Image → Frame → Found → Answer Frame
caller_from memory image frame found =
    encoding_by frame.registers.arch found.encoding >>= λ encoding.
    caller_by memory ((image.header + found.function) % 2 ^ 64) frame encoding >>= λ caller.
    read_caller memory frame caller

-- a reader's answer; it doesn't tell that there is no caller
abbrev pub answered : Answer Frame → Step
answered (Ok frame) = steps.Frame frame
answered (Err number) = steps.Bad number

-- how far a frame's lookup address, which is known, is from the image's header
abbrev pub offset_in : Image → Frame → ℕ
offset_in image frame = unwrap_or (frame_lookup frame) 0 - image.header

-- the caller of a frame by its image's compact unwind information
unfoldable pub compact_frame : Contents → Image → Frame → Step
compact_frame memory image frame =
    answered (found_at memory image (offset_in image frame) >>= caller_from memory image frame)
