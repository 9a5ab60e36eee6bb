-- The threads that are made, numbered from 0, and their stacks, among so many images.
use Rattle.std.specs.Prelude.{ℕ, ◌+◌, ◌*◌, ◌/◌, ◌%◌, List, [], ◌∷◌, ◌++◌, ◌==◌, nat_lt, if◌then◌else◌}
use Rattle.std.specs.Int.{w64, to_le_bytes}
use Rattle.plcr_loader.specs.declared.constants.TheConstants.{LC_THREAD}
use Rattle.plcr_regs.specs.declared.flavors.TheConstants.{x86_THREAD_STATE64, x86_THREAD_STATE64_COUNT}
use Rattle.plcr_make.specs.declared.constants.TheConstants.{THREADS, CODE_OFFSET, FIRST_STACK, STACK_SIZE, FRAMES, FRAME_SIZE, THREAD_STRIDE, THREAD_COMMAND_SIZE, VM_PROT_READ_WRITE}
use Rattle.plcr_make.specs.declared.segments.Segment.{Segment}
use Rattle.plcr_make.specs.Numbers.{u32s, u64s, joined}
use Rattle.plcr_make.specs.Images.{image_address, no_name}

-- the address of a thread's stack
abbrev pub stack_address : ℕ → ℕ
stack_address t = FIRST_STACK + STACK_SIZE * t

-- where a frame of a thread stands in code: the frames go from image to image
abbrev pub code_address : (images t frame : ℕ) → ℕ
code_address images t frame = image_address ((THREAD_STRIDE * t + frame) % images) + CODE_OFFSET

-- the command of a thread: rbp and rsp are its stack's address, rip is where it stands, and all
-- other registers are 0
abbrev pub thread_command : (images t : ℕ) → List ℕ
thread_command images t =
    u32s (LC_THREAD ∷ THREAD_COMMAND_SIZE ∷ x86_THREAD_STATE64 ∷ x86_THREAD_STATE64_COUNT ∷ [])
    ++ u64s (0 ∷ 0 ∷ 0 ∷ 0 ∷ 0 ∷ 0 ∷ stack_address t ∷ stack_address t ∷ 0 ∷ 0 ∷ 0 ∷ 0 ∷ 0 ∷ 0 ∷ 0
    ∷ 0 ∷ code_address images t 0 ∷ 0 ∷ 0 ∷ 0 ∷ 0 ∷ [])

-- the word that a frame has first: the address of the next frame, or 0 in the last
abbrev pub next_frame : (t frame : ℕ) → ℕ
next_frame t frame = if frame + 1 == FRAMES then 0 else stack_address t + FRAME_SIZE * (frame + 1)

-- word i of a frame: the next frame, where it returns to, and then zeros
abbrev pub frame_word : (images t frame i : ℕ) → ℕ
frame_word images t frame i = if i == 0 then next_frame t frame else if i == 1
    then code_address images t (frame + 1) else 0

-- word i of a thread's stack: its frames of 4 words, and then zeros
abbrev pub stack_word : (images t i : ℕ) → ℕ
stack_word images t i = if nat_lt (i / 4) FRAMES then frame_word images t (i / 4) (i % 4) else 0

-- a thread's stack, and all stacks
abbrev pub stack_bytes : (images t : ℕ) → List ℕ
stack_bytes images t = joined (λ i. to_le_bytes w64 (stack_word images t i)) (STACK_SIZE / 8)

abbrev pub stacks_bytes : ℕ → List ℕ
stacks_bytes images = joined (stack_bytes images) THREADS

-- the segment of the core with all stacks, whose bytes stand at a place
abbrev pub stacks_segment : ℕ → Segment
stacks_segment place =
    record {
      name = no_name;
      address = FIRST_STACK;
      memory_size = STACK_SIZE * THREADS;
      file_offset = place;
      file_size = STACK_SIZE * THREADS;
      protection = VM_PROT_READ_WRITE;
    }
