-- Which instructions bytes spell, above the number of steps in which they are read.
use Rattle.std.specs.Prelude.{◌≡◌, ◌≢◌, ℕ, List, [], ◌∷◌, Option, Some, None, Ok, Err}
use Rattle.plcr_dwarf_cfi.specs.declared.decode.Decoded.{Decoded}
use Rattle.plcr_dwarf_cfi.specs.declared.entries.Encoding.{Encoding}
use Rattle.plcr_dwarf_cfi.specs.declared.entries.Extent.{Extent}
use Rattle.plcr_dwarf_cfi.specs.declared.fault.CallFrameFault.{CallFrameFault}
use Rattle.plcr_dwarf_cfi.specs.declared.instructions.Instruction.{Instruction}
use Rattle.plcr_dwarf_cfi.specs.Instructions.{instruction_at}
use Rattle.plcr_dwarf_cfi.specs.Lists.{Listed}
use Rattle.plcr_dwarf_cfi.specs.Sections.{Section}

-- each instruction stands where the one before it ends, and behind the last one is the end, or a
-- fault stands there
abbrev pub Spelled : Section → Encoding → ℕ → ℕ → List Instruction → Option CallFrameFault → Type 0
Spelled s encoding end place [] None = place ≡ end
Spelled s encoding end place [] (Some fault) =
    (place ≢ end) × (instruction_at s encoding place ≡ Err fault)
Spelled s encoding end place (instruction ∷ instructions) fault =
    (place ≢ end) × ((d : Decoded) × (instruction_at s encoding place ≡ Ok d)
    × (d.instruction ≡ instruction) × Spelled s encoding end d.next instructions fault)

-- the instructions that the bytes of an extent spell
abbrev pub Spells : Section → Encoding → Extent → Listed Instruction → Type 0
Spells s encoding e list = Spelled s encoding e.end e.start list.items list.fault
