-- What the frames of a thread are, above the order in which they are told: each leads to the next.
use Rattle.std.specs.Prelude.{◌≡◌, ◌≤◌, ◌<◌, ℕ, suc, List, length, slice_get, Option, Some}
use Rattle.std.specs.Option.{option_and_then}
use Rattle.plcr_memory.specs.Regions.{Contents}
use Rattle.plcr_macho.specs.Images.{Listed}
use Rattle.plcr_regs.specs.declared.registers.Registers.{Registers}
use Rattle.plcr_cursor.specs.declared.given.Given.{Given}
use Rattle.plcr_cursor.specs.declared.limits.TheConstants.{MOST_FRAMES}
use Rattle.plcr_cursor.specs.Frames.{first_given, next_of}

-- the frame behind another, where there is that other
abbrev pub next_after : Contents → List Listed → Option Given → Option Given
next_after memory images given = option_and_then (λ g. next_of memory images g.frame) given

-- the first frame is where the thread was stopped, behind each stands the next of it, where there
-- is one, and they are at most so many
pub record AreFrames (memory : Contents) (images : List Listed) (state : Registers) (bits : ℕ)
    (frames : List Given) : Type 0 where
  pub first : slice_get frames 0 ≡ Some (first_given state bits)
  pub leads : (k : ℕ) → suc k < MOST_FRAMES →
      slice_get frames (suc k) ≡ next_after memory images (slice_get frames k)
  pub few : length frames ≤ MOST_FRAMES
