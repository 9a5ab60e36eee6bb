-- A walk over the frames of a thread.
use Rattle.std.specs.Prelude.{◌≡◌, ℕ, Bool, false, if◌then◌else◌, List, [], ◌∷◌, Option, Some, None, IsSome}
use Rattle.std.specs.Option.{option_and_then}
use Rattle.plcr_memory.specs.Regions.{Contents}
use Rattle.plcr_macho.specs.Images.{Listed}
use Rattle.plcr_macho.specs.Index.{Extent, index_of}
use Rattle.plcr_regs.specs.declared.arch.Arch.{Arch}
use Rattle.plcr_regs.specs.declared.registers.Registers.{Registers}
use Rattle.plcr_regs.specs.Frames.{frame_pc}
use Rattle.plcr_cursor.specs.declared.given.Given.{Given}
use Rattle.plcr_cursor.specs.declared.limits.TheConstants.{MOST_FRAMES}
use Rattle.plcr_cursor.specs.declared.located.Located.{Located}
use Rattle.plcr_cursor.specs.Frames.{first_given, frames_from, located_over, next_of}

-- how far a walk has come: the frame given last, or the first before it is given, whether one was
-- given, and how many more may be
pub record Walk : Type 0 where
  pub last : Given
  pub given : Bool
  pub left : ℕ

-- the walk before its first frame
abbrev pub start : Registers → ℕ → Walk
start state bits = record { last = first_given state bits; given = false; left = MOST_FRAMES }

-- the frame given last
abbrev pub given_last : Walk → Option Given
given_last walk = if walk.given then Some walk.last else None

-- the image that has the address by which the function of the frame given last is looked up
abbrev pub located_last : Contents → List Listed → Walk → Option Located
located_last memory images walk =
    option_and_then (λ given. located_over memory images given.frame) (given_last walk)

-- the architecture of its thread
abbrev pub arch_of : Walk → Arch
arch_of walk = walk.last.frame.registers.arch

-- an index of images is the one for a memory and an architecture
abbrev pub IsIndex : Contents → Arch → List Listed → Option (List Extent) → Type 0
IsIndex memory arch images extents = extents ≡ Some (index_of memory arch images)

-- the frame that comes next
abbrev pub next_in : Contents → List Listed → Walk → Option Given
next_in memory images walk = if walk.given then next_of memory images walk.last.frame
    else Some walk.last

-- the frames still to come
abbrev pub coming : Contents → List Listed → Walk → List Given
coming memory images walk = frames_from memory images walk.left (next_in memory images walk)

-- of the frames to come before, one answer gives the first and leaves the others; where none are to
-- come it answers None
abbrev pub Gives : List Given → List Given → Option Given → Option Given → Option ℕ → Type 0
Gives [] after last now answer = (answer ≡ None) × (after ≡ []) × (now ≡ last)
Gives (x ∷ xs) after last now answer = IsSome answer × (answer ≡ frame_pc x.frame) × (now ≡ Some x)
    × (after ≡ xs)
