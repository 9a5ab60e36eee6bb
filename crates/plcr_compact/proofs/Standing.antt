-- What stands between the parts of the reader.
use Rattle.std.proofs.Common.{◌≡◌, ◌≤◌, ◌<◌, ℕ, ◌+◌, ◌*◌, ◌^◌, Bool, true, false, List, [], ◌∷◌, All, Option, Some, None, Ok, Err, ap, subst, arith}
use Rattle.std.specs.Prelude.{ℤ, pos, ◌+ℤ◌, ◌-ℤ◌, ok_or, IfOk, nat_lt, if◌then◌else◌, length}
use Rattle.std.specs.Option.{option_map_or}
use Rattle.plcr_base.specs.Chains.{◌>>=◌}
use Rattle.plcr_memory.specs.Regions.{Contents, bytes_at}
use Rattle.plcr_leb128.specs.Cells.{Source, list_bytes, piece_bytes}
use Rattle.plcr_leb128.proofs.Fixed.{stored_bytes}
use Rattle.std.proofs.lemmas.List.Elements.{All-append, All-cons, All-head, All-nil, All-tail}
use Rattle.plcr_regs.specs.declared.arch.Arch.{Arch}
use Rattle.plcr_regs.specs.declared.arch.Arch.TheVariants.{X86_64, Arm64}
use Rattle.plcr_regs.specs.declared.limits.TheConstants.{MOST_REGISTERS}
use Rattle.plcr_regs.specs.Places.{fp_place, pc_place, sp_place}
use Rattle.plcr_regs.specs.declared.frame.Frame.{Frame}
use Rattle.plcr_compact.specs.declared.caller.SavedWord.{SavedWord}
use Rattle.plcr_compact.specs.declared.encoding.SavedRegister.{SavedRegister}
use Rattle.plcr_compact.specs.declared.encoding.SavedRegister.TheVariants.{Rbx, R12, R13, R14, R15, Rbp}
use Rattle.plcr_compact.specs.declared.bad.TheConstants.{NOT_MAPPED, NO_REGISTERS, OUT_OF_RANGE}
use Rattle.plcr_compact.specs.declared.encoding.Encoding.{Encoding}
use Rattle.plcr_compact.specs.declared.encoding.Encoding.TheVariants as encodings
use Rattle.plcr_compact.specs.declared.encoding.Permutation.{Permutation}
use Rattle.plcr_compact.specs.Callers.{Caller, caller_by, field_words, frame_words, framed, frameless, frameless_by, leaf, link, needed, pair_places, pair_words, register_words, saved_place, saved_word, size_at}
use Rattle.plcr_compact.specs.Permutations.{saved_registers}
use Rattle.plcr_compact.specs.Tables.{Answer}
use Rattle.plcr_macho.specs.declared.image.Part.{Part}
use Rattle.plcr_compact.specs.Sections.{found_in, section_at}
use Rattle.plcr_compact.specs.inner.Carrying.{AreRegisters}
use Rattle.plcr_compact.proofs.Pairs.{pair_table}

-- a section that stands in a file as it stands in memory
pub stored_found : (memory : Contents) (at size : ℕ) (bytes : List ℕ) (offset : ℕ) → bytes_at memory at size ≡ Some bytes → at + size ≤ 2 ^ 64
    → found_in (list_bytes bytes) offset ≡ found_in (piece_bytes memory at size) offset
stored_found memory at size bytes offset there within = ap (λ (section : Source). found_in section offset) (stored_bytes memory at size bytes within there)

pub stored_section : (memory : Contents) (part : Part) (bytes : List ℕ) → bytes_at memory part.at part.size ≡ Some bytes → part.at + part.size ≤ 2 ^ 64
    → list_bytes bytes ≡ section_at memory part
stored_section memory part bytes there within = stored_bytes memory part.at part.size bytes within there

-- each word that a function saves is a register's
abbrev IsPlace : SavedWord → Type 0
IsPlace word = word.place < MOST_REGISTERS

abbrev ArePlaces : ℕ × ℕ → Type 0
ArePlaces place = (place.0 < MOST_REGISTERS) × (place.1 < MOST_REGISTERS)

place_stands : (register : SavedRegister) → saved_place register < MOST_REGISTERS
unfolding saved_place
place_stands Rbx = omega arith
place_stands R12 = omega arith
place_stands R13 = omega arith
place_stands R14 = omega arith
place_stands R15 = omega arith
place_stands Rbp = omega arith

registers_stand : (at : ℤ) (registers : List SavedRegister) → AreRegisters (register_words at registers)
registers_stand at [] = All-nil IsPlace
registers_stand at (register ∷ registers) =
    All-cons IsPlace (saved_word at (saved_place register)) (register_words (at +ℤ pos 8) registers) (place_stands register) (registers_stand (at +ℤ pos 8) registers)

fields_stand : (at : ℤ) (registers : List (Option SavedRegister)) → AreRegisters (field_words at registers)
fields_stand at [] = All-nil IsPlace
fields_stand at (None ∷ registers) = fields_stand (at +ℤ pos 8) registers
fields_stand at (Some register ∷ registers) =
    All-cons IsPlace (saved_word at (saved_place register)) (field_words (at +ℤ pos 8) registers) (place_stands register) (fields_stand (at +ℤ pos 8) registers)

pairs_stand : (top : ℤ) (pairs : List Bool) (places : List (ℕ × ℕ)) → All ArePlaces places → AreRegisters (pair_words top pairs places)
pairs_stand top [] places h = All-nil IsPlace
pairs_stand top (saved ∷ pairs) [] h = All-nil IsPlace
pairs_stand top (false ∷ pairs) (place ∷ places) h = pairs_stand top pairs places (All-tail ArePlaces place places h)
pairs_stand top (true ∷ pairs) (place ∷ places) h =
    let rest = pair_words (top -ℤ pos 16) pairs places in
    let here = All-head ArePlaces place places h in
    All-cons IsPlace (saved_word top place.0) (saved_word (top -ℤ pos 8) place.1 ∷ rest) here.0
    (All-cons IsPlace (saved_word (top -ℤ pos 8) place.1) rest here.1 (pairs_stand (top -ℤ pos 16) pairs places (All-tail ArePlaces place places h)))

all_pairs : All ArePlaces pair_places
all_pairs =
    rw pair_table
    (All-cons ArePlaces (19, 20) ((21, 22) ∷ (23, 24) ∷ (25, 26) ∷ (27, 28) ∷ []) (omega arith, omega arith)
    (All-cons ArePlaces (21, 22) ((23, 24) ∷ (25, 26) ∷ (27, 28) ∷ []) (omega arith, omega arith)
    (All-cons ArePlaces (23, 24) ((25, 26) ∷ (27, 28) ∷ []) (omega arith, omega arith)
    (All-cons ArePlaces (25, 26) ((27, 28) ∷ []) (omega arith, omega arith)
    (All-cons ArePlaces (27, 28) [] (omega arith, omega arith) (All-nil ArePlaces))))))

fp_stands : (arch : Arch) → fp_place arch < MOST_REGISTERS
unfolding fp_place
fp_stands X86_64 = omega arith
fp_stands Arm64 = omega arith

pc_stands : (arch : Arch) → pc_place arch < MOST_REGISTERS
unfolding pc_place
pc_stands X86_64 = omega arith
pc_stands Arm64 = omega arith

one_stands : (at : ℤ) (arch : Arch) → AreRegisters (saved_word at (pc_place arch) ∷ [])
one_stands at arch = All-cons IsPlace (saved_word at (pc_place arch)) [] (pc_stands arch) (All-nil IsPlace)

frame_stands : (arch : Arch) (pointer : ℕ) → AreRegisters (frame_words arch pointer)
frame_stands arch pointer = All-cons IsPlace (saved_word (pos pointer) (fp_place arch)) (saved_word (pos pointer +ℤ pos 8) (pc_place arch) ∷ []) (fp_stands arch) (one_stands (pos pointer +ℤ pos 8) arch)

-- in each caller
IfCaller : Answer Caller → Type 0
IfCaller answer = IfOk answer (λ caller. AreRegisters caller.words)

framed_stands : (frame : Frame) (pointer : ℕ) (words : List SavedWord) → AreRegisters words → AreRegisters (framed frame pointer words).words
framed_stands frame pointer words h = All-append IsPlace words (frame_words frame.registers.arch pointer) h (frame_stands frame.registers.arch pointer)

by_needed : (r : Answer ℕ) (f : ℕ → Answer Caller) → ((n : ℕ) → IfCaller (f n)) → IfCaller (r >>= f)
unfolding IfCaller
by_needed (Ok n) f h = h n
by_needed (Err b) f h = tt

frameless_stands : (frame : Frame) (size : Option ℕ) (saved : Permutation) → IfCaller (frameless_by frame size saved)
unfolding frameless_by IfCaller
frameless_stands frame size saved = by_registers (saved_registers saved)
  where
    by_size : (test : Bool) (registers : List SavedRegister)
        → IfCaller (if test then Err NO_REGISTERS else (needed frame (sp_place frame.registers.arch) >>= λ pointer. ok_or size NOT_MAPPED >>= λ s. Ok (frameless frame pointer s registers)))
    by_size true registers = tt
    by_size false registers =
        by_needed (needed frame (sp_place frame.registers.arch)) (λ pointer. ok_or size NOT_MAPPED >>= λ s. Ok (frameless frame pointer s registers))
        (λ pointer. by_needed (ok_or size NOT_MAPPED) (λ s. Ok (frameless frame pointer s registers))
        (λ s.
        let stack = pos pointer +ℤ pos s in
        All-append IsPlace (register_words (stack -ℤ pos (8 + 8 * length registers)) registers) (saved_word (stack -ℤ pos 8) (pc_place frame.registers.arch) ∷ [])
        (registers_stand (stack -ℤ pos (8 + 8 * length registers)) registers) (one_stands (stack -ℤ pos 8) frame.registers.arch)))

    by_registers : (o : Option (List SavedRegister))
        → IfCaller (ok_or o NO_REGISTERS >>= λ registers.
        if option_map_or (λ s. nat_lt s (8 + 8 * length registers)) size false then Err NO_REGISTERS else
        (needed frame (sp_place frame.registers.arch) >>= λ pointer. ok_or size NOT_MAPPED >>= λ s. Ok (frameless frame pointer s registers)))
    by_registers None = tt
    by_registers (Some registers) = by_size (option_map_or (λ s. nat_lt s (8 + 8 * length registers)) size false) registers

caller_stands : (memory : Contents) (start : ℕ) (frame : Frame) (encoding : Encoding) → IfCaller (caller_by memory start frame encoding)
unfolding caller_by IfCaller
caller_stands memory start frame (encodings.RbpFrame offset registers) =
    by_needed (needed frame (fp_place frame.registers.arch)) (λ pointer. Ok (framed frame pointer (field_words (pos pointer -ℤ pos offset) registers)))
    (λ pointer. framed_stands frame pointer (field_words (pos pointer -ℤ pos offset) registers) (fields_stand (pos pointer -ℤ pos offset) registers))
caller_stands memory start frame (encodings.StackImmediate size saved) = frameless_stands frame (Some size) saved
caller_stands memory start frame (encodings.StackIndirect place adjust saved) = frameless_stands frame (size_at memory start place adjust) saved
caller_stands memory start frame (encodings.Frameless size pairs) =
    by_needed (needed frame (sp_place frame.registers.arch)) (λ pointer. ok_or (link frame) OUT_OF_RANGE >>= λ back. Ok (leaf frame pointer back size pairs))
    (λ pointer. by_needed (ok_or (link frame) OUT_OF_RANGE) (λ back. Ok (leaf frame pointer back size pairs))
    (λ back. pairs_stand ((pos pointer +ℤ pos size) -ℤ pos 8) pairs pair_places all_pairs))
caller_stands memory start frame (encodings.Frame pairs) =
    by_needed (needed frame (fp_place frame.registers.arch)) (λ pointer. Ok (framed frame pointer (pair_words (pos pointer -ℤ pos 8) pairs pair_places)))
    (λ pointer. framed_stands frame pointer (pair_words (pos pointer -ℤ pos 8) pairs pair_places) (pairs_stand (pos pointer -ℤ pos 8) pairs pair_places all_pairs))

pub words_stand : (memory : Contents) (start : ℕ) (frame : Frame) (encoding : Encoding) (caller : Caller) → caller_by memory start frame encoding ≡ Ok caller → AreRegisters caller.words
unfolding IfCaller
words_stand memory start frame encoding caller h = subst IfCaller h (caller_stands memory start frame encoding)
