-- The frames of a thread, by the readers of frames in their order.
use Rattle.std.specs.Prelude.{ℕ, zero, suc, nat_lt, Bool, true, false, not, if◌then◌else◌, List, [], ◌∷◌, ◌++◌, find, Option, Some, None, option_map}
use Rattle.std.specs.Option.{option_and_then, option_map_or}
use Rattle.plcr_memory.specs.Regions.{Contents}
use Rattle.plcr_macho.specs.declared.image.Image.{Image}
use Rattle.plcr_macho.specs.Images.{Listed}
use Rattle.plcr_macho.specs.Containing.{first_over}
use Rattle.plcr_regs.specs.declared.frame.Frame.{Frame}
use Rattle.plcr_regs.specs.declared.frame.Step.{Step}
use Rattle.plcr_regs.specs.declared.frame.Step.TheVariants as steps
use Rattle.plcr_regs.specs.declared.registers.Registers.{Registers}
use Rattle.plcr_regs.specs.Frames.{frame_lookup, frame_pc}
use Rattle.plcr_compact.specs.Callers.{compact_frame}
use Rattle.plcr_dwarf_cfi.specs.Caller.{call_frame}
use Rattle.plcr_frameptr.specs.Saved.{saved_frame}
use Rattle.plcr_cursor.specs.declared.given.Given.{Given}
use Rattle.plcr_cursor.specs.declared.given.Reader.{Reader}
use Rattle.plcr_cursor.specs.declared.given.Reader.TheVariants.{ThreadState, CompactUnwind, CallFrameInformation, FramePointer}
use Rattle.plcr_cursor.specs.declared.located.Located.{Located}
use Rattle.plcr_cursor.specs.declared.limits.TheConstants.{MOST_FRAMES, NULL_PAGE}

-- the number of a reader in a report
abbrev pub reader_number : Reader → ℕ
reader_number ThreadState = 0
reader_number CompactUnwind = 1
reader_number CallFrameInformation = 2
reader_number FramePointer = 3

-- an image with its place in the list
abbrev pub located_at : ℕ × Image → Located
located_at found = record { place = found.0; image = found.1 }

-- the first image of the list that has the address by which a frame's function is looked up
abbrev pub located_over : Contents → List Listed → Frame → Option Located
located_over memory images frame =
    option_and_then (λ address.
    option_map located_at (first_over memory frame.registers.arch address 0 images))
    (frame_lookup frame)

abbrev pub image_over : Contents → List Listed → Frame → Option Image
image_over memory images frame =
    option_map (λ found. found.image) (located_over memory images frame)

-- what a reader answers, and which it is
pub record Answer : Type 0 where
  pub step : Step
  pub by : Reader

-- the answer of each reader
abbrev pub compact_answer : Contents → Frame → Image → Answer
compact_answer memory frame image =
    record { step = compact_frame memory image frame; by = CompactUnwind }

abbrev pub call_frame_answer : Contents → Frame → Image → Answer
call_frame_answer memory frame image =
    record { step = call_frame memory image frame; by = CallFrameInformation }

abbrev pub saved_answer : Contents → Frame → Answer
saved_answer memory frame = record { step = saved_frame memory frame; by = FramePointer }

-- the answers of the readers of an image's tables; they aren't asked where no image has the address
abbrev pub image_answers : Contents → Frame → Option Image → List Answer
image_answers memory frame None = []
image_answers memory frame (Some image) =
    compact_answer memory frame image ∷ call_frame_answer memory frame image ∷ []

-- the answers of the readers, in the order in which they are asked
abbrev pub answers : Contents → List Listed → Frame → List Answer
answers memory images frame = image_answers memory frame (image_over memory images frame)
    ++ saved_answer memory frame ∷ []

-- the reader can't tell
abbrev pub is_bad : Step → Bool
is_bad (steps.Frame frame) = false
is_bad steps.End = false
is_bad (steps.Bad number) = true

-- the frame that a reader's answer gives
abbrev pub given_by : Reader → Step → Option Given
given_by by (steps.Frame frame) = Some (record { frame = frame; by = by })
given_by by steps.End = None
given_by by (steps.Bad number) = None

abbrev pub given_in : Answer → Option Given
given_in answer = given_by answer.by answer.step

-- the caller of a frame, by the first answer that isn't Bad
unfoldable pub caller_in : Contents → List Listed → Frame → Option Given
caller_in memory images frame =
    option_and_then given_in
    (find (λ answer. not (is_bad answer.step)) (answers memory images frame))

-- a frame is listed where its pc is known and, without signature, above the first address behind
-- the page at 0
abbrev pub is_listed : Frame → Bool
is_listed frame = option_map_or (λ pc. nat_lt NULL_PAGE pc) (frame_pc frame) false

abbrev pub listed : Option Given → Option Given
listed None = None
listed (Some given) = if is_listed given.frame then Some given else None

-- the frame behind another: its caller, where this is listed
unfoldable pub next_of : Contents → List Listed → Frame → Option Given
next_of memory images frame = listed (caller_in memory images frame)

-- at most so many frames from one on, where there is one
abbrev pub frames_from : Contents → List Listed → ℕ → Option Given → List Given
frames_from memory images zero given = []
frames_from memory images (suc left) None = []
frames_from memory images (suc left) (Some given) =
    given ∷ frames_from memory images left (next_of memory images given.frame)

-- the frame at which a thread in this state was stopped
abbrev pub first_given : Registers → ℕ → Given
first_given state bits =
    record { frame = record { registers = state; exact = true; bits = bits }; by = ThreadState }

-- the frames of a thread in this state, under which so many low bits of an address of code count
unfoldable pub frames_of : Contents → List Listed → Registers → ℕ → List Given
frames_of memory images state bits =
    frames_from memory images MOST_FRAMES (Some (first_given state bits))

-- the address by which the function of a frame is looked up
abbrev pub lookup_of : Option Given → Option ℕ
lookup_of given = option_and_then (λ g. frame_lookup g.frame) given

-- the number of what told a frame
abbrev pub number_of : Option Given → Option ℕ
number_of given = option_map (λ g. reader_number g.by) given
