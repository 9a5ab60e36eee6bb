-- The frames of several threads that are found together.
use Rattle.std.specs.Prelude.{◌≡◌, ◌≤◌, ℕ, List, length, map}
use Rattle.std.specs.List.{flat_map}
use Rattle.plcr_memory.specs.Regions.{Contents}
use Rattle.plcr_regs.specs.declared.registers.Registers.{Registers}
use Rattle.plcr_macho.specs.Images.{Listed}
use Rattle.plcr_report.specs.declared.messages.Frame.{Frame}
use Rattle.plcr_report.specs.declared.messages.Thread.{Thread}
use Rattle.plcr_cursor.specs.declared.limits.TheConstants.{MOST_FRAMES}
use Rattle.plcr_cursor.specs.Frames.{frames_of}
use Rattle.plcr_encode.specs.declared.frame_rows.FrameRow.{FrameRow}
use Rattle.plcr_encode.specs.Values.{thread_with}
use Rattle.plcr_encode.specs.inner.FrameRows.{frame_in, row_of}

-- the rows of a thread's frames as they are told, without their symbols
abbrev pub walked : Contents → List Listed → ℕ → Registers → List FrameRow
walked memory listed bits state =
    map (row_of memory state.arch listed) (frames_of memory listed state bits)

-- how many a state has
abbrev pub count_of : {A : Type 0} → (Registers → List A) → Registers → ℕ
count_of of state = length (of state)

-- the rows are those of the frames that these states have, one thread behind the other, so many for
-- each
pub record AreRowsOf (frames : Registers → List Frame) (memory : Contents) (rows : List FrameRow)
    (counts : List ℕ) (states : List Registers) : Type 0 where
  pub told : map (frame_in memory) rows ≡ flat_map frames states
  pub split : counts ≡ map (count_of frames) states
  pub few : (state : Registers) → length (frames state) ≤ MOST_FRAMES

-- a thread by its number and its state, with these frames, where `crashed` is the number of the
-- thread that crashed
abbrev pub numbered_thread : ℕ → (Registers → List Frame) → ℕ × Registers → Thread
numbered_thread crashed frames numbered =
    thread_with crashed numbered.0 (frames numbered.1) numbered.1
