-- Which of the readers' answers counts, as they are asked.
use Rattle.std.specs.Prelude.{◌≤◌, if◌then◌else◌, Option, Some, None, option_map, IfSome, IsSomeAnd}
use Rattle.plcr_memory.specs.Regions.{Contents}
use Rattle.plcr_macho.specs.declared.image.Image.{Image}
use Rattle.plcr_regs.specs.declared.frame.Frame.{Frame}
use Rattle.plcr_regs.specs.Frames.{frame_lookup}
use Rattle.plcr_regs.specs.Outcomes.{step_in}
use Rattle.plcr_cursor.specs.declared.given.Given.{Given}
use Rattle.plcr_cursor.specs.declared.given.Reader.{Reader}
use Rattle.plcr_cursor.specs.declared.given.Told.{Told}
use Rattle.plcr_cursor.specs.declared.located.Located.{Located}
use Rattle.plcr_cursor.specs.Frames.{Answer, call_frame_answer, compact_answer, is_bad, saved_answer}

-- an answer, or the next one where it is Bad
abbrev pub or_next : Answer → Answer → Answer
or_next answer next = if is_bad answer.step then next else answer

-- the answer that counts for a frame of code in an image, or in none
abbrev pub answer_by : Contents → Frame → Option Image → Answer
answer_by memory frame None = saved_answer memory frame
answer_by memory frame (Some image) =
    or_next (or_next (compact_answer memory frame image) (call_frame_answer memory frame image))
    (saved_answer memory frame)

-- the image that was located
abbrev pub image_in : Option Located → Option Image
image_in over = option_map (λ located. located.image) over

-- the image that was located, where one was, stands no higher than the address by which the frame's
-- function is looked up
abbrev pub IsBelow : Frame → Option Located → Type 0
IsBelow frame over =
    IfSome over (λ located.
    IsSomeAnd (frame_lookup frame) (λ address. located.image.header ≤ address))

-- the answer that is told with a frame in room
abbrev pub answer_in : Told → Frame → Answer
answer_in told room = record { step = step_in told.outcome room; by = told.by }

-- the frame in room as a reader gives it
abbrev pub given_as : Frame → Reader → Given
given_as room by = record { frame = room; by = by }
