-- What is kept of the searches in the sections of a memory.
use Rattle.std.specs.Prelude.{◌≡◌, ℕ, List, All, Option, Some, None, Result}
use Rattle.plcr_memory.specs.Regions.{Contents}
use Rattle.plcr_macho.specs.declared.image.Part.{Part}
use Rattle.plcr_dwarf_cfi.specs.declared.entries.FrameDescription.{FrameDescription}
use Rattle.plcr_dwarf_cfi.specs.declared.fault.CallFrameFault.{CallFrameFault}
use Rattle.plcr_dwarf_cfi.specs.declared.known.KnownDescription.{KnownDescription}
use Rattle.plcr_dwarf_cfi.specs.declared.known.KnownFront.{KnownFront}
use Rattle.plcr_dwarf_cfi.specs.Entries.{description_for}
use Rattle.plcr_dwarf_cfi.specs.Sections.{section_at}
use Rattle.plcr_dwarf_cfi.specs.inner.Fronts.{IsRun}

-- the answer is what a search of the section for the address gives
abbrev pub IsFound : Contents → Part → ℕ → Result FrameDescription CallFrameFault → Type 0
IsFound memory part address answer =
    answer ≡ description_for (section_at memory part.at part.size) address

-- what a slot has is so
abbrev pub Holds : Contents → Option KnownDescription → Type 0
Holds memory None = Unit {0}
Holds memory (Some known) = IsFound memory known.part known.address known.answer

abbrev pub FrontHolds : Contents → KnownFront → Type 0
FrontHolds memory known = All (IsRun (section_at memory known.part.at known.part.size)) known.runs

-- and so is what all slots have
pub record HoldAll (memory : Contents) (answers : List (Option KnownDescription))
    (heads : List KnownFront) : Type 0 where
  pub descriptions : All (Holds memory) answers
  pub fronts : All (FrontHolds memory) heads
