-- What is known of a caller, as the code keeps it.
use Rattle.std.specs.Prelude.{ℕ, ◌<◌, ℤ, pos, ◌-ℤ◌, Bool, true, false, List, [], ◌∷◌, slice_set, All, Option, Some, None}
use Rattle.plcr_regs.specs.declared.frame.Frame.{Frame}
use Rattle.plcr_regs.specs.declared.limits.TheConstants.{MOST_REGISTERS}
use Rattle.plcr_regs.specs.Places.{pc_place}
use Rattle.plcr_compact.specs.declared.caller.SavedWord.{SavedWord}
use Rattle.plcr_compact.specs.declared.caller.Caller as kept
use Rattle.plcr_compact.specs.declared.encoding.SavedRegister.{SavedRegister}
use Rattle.plcr_compact.specs.Callers.{Caller, kept_in, saved_place, saved_word}

-- the registers before the stack is read: those that functions keep, and the pc where it is known
abbrev pub value_before : Frame → Option ℕ → List (Option ℕ)
value_before frame None = kept_in frame
value_before frame (Some back) =
    slice_set (kept_in frame) (pc_place frame.registers.arch) (Some back)

abbrev pub caller_of : Frame → List SavedWord → kept.Caller → Caller
caller_of frame words caller =
    record { value = value_before frame caller.back; stack = caller.stack; words = words }

-- the word of a register, where one was saved
abbrev pub field_word : ℤ → Option SavedRegister → List SavedWord
field_word at None = []
field_word at (Some register) = saved_word at (saved_place register) ∷ []

-- the words of a pair of registers, where it was saved, and where the next pair stands
abbrev pub pair_word : ℤ → Bool → (ℕ × ℕ) → List SavedWord
pair_word top false place = []
pair_word top true place = saved_word top place.0 ∷ saved_word (top -ℤ pos 8) place.1 ∷ []

abbrev pub pair_top : ℤ → Bool → ℤ
pair_top top false = top
pair_top top true = top -ℤ pos 16

-- each word is a register's
abbrev pub AreRegisters : List SavedWord → Type 0
AreRegisters words = All (λ word. word.place < MOST_REGISTERS) words
