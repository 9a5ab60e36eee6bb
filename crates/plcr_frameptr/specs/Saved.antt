-- Saved frames, as both calling conventions chain them: where the frame pointer leads stands the
-- frame pointer of the caller, and 8 bytes behind it the address to which the call returns. x86-64:
-- System V Application Binary Interface, AMD64 supplement, "The Stack Frame". arm64: Procedure Call
-- Standard for the Arm 64-bit Architecture, "The Frame Pointer".
use Rattle.std.specs.Prelude.{ℕ, ◌+◌, ◌%◌, ◌^◌, ◌==◌, nat_lt, ◌||◌, Bool, false, if◌then◌else◌, List, Option, Some, None, replicate, slice_set}
use Rattle.plcr_base.specs.Numbers.{u64_in}
use Rattle.plcr_memory.specs.Regions.{Contents, bytes_at}
use Rattle.plcr_regs.specs.declared.frame.Frame.{Frame}
use Rattle.plcr_regs.specs.declared.frame.Step.{Step}
use Rattle.plcr_regs.specs.declared.frame.Step.TheVariants as steps
use Rattle.plcr_regs.specs.declared.limits.TheConstants.{MOST_REGISTERS}
use Rattle.plcr_regs.specs.Frames.{cut, register_at}
use Rattle.plcr_regs.specs.Places.{fp_place, pc_place, sp_place}
use Rattle.plcr_frameptr.specs.declared.bad.TheConstants.{DOES_NOT_RISE, NOT_MAPPED, NO_FRAME_POINTER}
use Rattle.plcr_frameptr.specs.declared.saved.TheConstants.{SAVED_FRAME}

-- the caller, by the frame pointer and the two words there: its stack begins behind them, and all
-- other registers are unknown
unfoldable pub caller_of : Frame → ℕ → ℕ → ℕ → Frame
caller_of frame pointer saved back =
    let arch = frame.registers.arch in
    let pc = slice_set (replicate MOST_REGISTERS None) (pc_place arch) (Some (cut frame back)) in
    let fp = slice_set pc (fp_place arch) (Some saved) in
    let sp = slice_set fp (sp_place arch) (Some ((pointer + SAVED_FRAME) % 2 ^ 64)) in
    record { registers = record { arch = arch; value = sp }; exact = false; bits = frame.bits }

-- frames rise: the caller's lies above, or there is no further one
abbrev pub rises : ℕ → ℕ → Bool
rises pointer saved = (saved == 0) || nat_lt pointer saved

-- what the bytes at the frame pointer say
abbrev pub by_bytes : Frame → ℕ → Option (List ℕ) → Step
by_bytes frame pointer None = steps.Bad NOT_MAPPED
by_bytes frame pointer (Some bytes) =
    if rises pointer (u64_in bytes 0)
    then steps.Frame (caller_of frame pointer (u64_in bytes 0) (u64_in bytes 8))
    else steps.Bad DOES_NOT_RISE

-- what the frame pointer says
abbrev pub by_pointer : Contents → Frame → Option ℕ → Step
by_pointer memory frame None = steps.Bad NO_FRAME_POINTER
by_pointer memory frame (Some pointer) =
    if pointer == 0 then steps.End else by_bytes frame pointer (bytes_at memory pointer SAVED_FRAME)

-- the caller of a frame by its saved frame
unfoldable pub saved_frame : Contents → Frame → Step
saved_frame memory frame =
    by_pointer memory frame (register_at frame.registers (fp_place frame.registers.arch))
