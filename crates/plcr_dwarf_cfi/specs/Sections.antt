-- What is read of a section of call frame information: numbers at places, which count from the
-- section's start.
use Rattle.std.specs.Prelude.{ℕ, ◌+◌, nat_le, ◌&&◌, Bool, if◌then◌else◌, None, ok_or, Result, Ok, Err}
use Rattle.plcr_base.specs.Chains.{◌>>=◌}
use Rattle.plcr_memory.specs.Regions.{Contents}
use Rattle.plcr_leb128.specs.declared.fault.Leb128Fault.{Leb128Fault}
use Rattle.plcr_leb128.specs.declared.leb128.Number.{Number}
use Rattle.plcr_leb128.specs.Cells.{Source, bytes_of, number_in, piece_bytes}
use Rattle.plcr_leb128.specs.Leb128.{signed_at, unsigned_at}
use Rattle.plcr_dwarf_cfi.specs.declared.entries.Extent.{Extent}
use Rattle.plcr_dwarf_cfi.specs.declared.fault.CallFrameFault.{CallFrameFault}
use Rattle.plcr_dwarf_cfi.specs.declared.fault.CallFrameFault.TheVariants.{Truncated}

-- a section: its bytes at places, its address and size, and the memory in which it stands
pub record Section : Type 0 where
  pub cells : Source
  pub at : ℕ
  pub size : ℕ
  pub memory : Contents

-- the section that stands in memory
abbrev pub section_at : Contents → ℕ → ℕ → Section
section_at memory at size =
    record { cells = piece_bytes memory at size; at = at; size = size; memory = memory }

-- the bytes that end by a place
unfoldable pub front_of : ℕ → Source → Source
front_of end source place n = if nat_le (place + n) end then source place n else None

-- a section of which only an entry's bytes are read
abbrev pub within : Section → Extent → Section
within s e = record { cells = front_of e.end s.cells; at = s.at; size = s.size; memory = s.memory }

-- a number of a fixed size, where its bytes are there
abbrev pub fixed : ℕ → Source → ℕ → Result ℕ CallFrameFault
fixed size source place = ok_or (number_in size source place) Truncated

abbrev pub byte : Source → ℕ → Result ℕ CallFrameFault
byte source place = ok_or (bytes_of source place) Truncated

-- a LEB128 number; both of its faults are one
abbrev pub whole : Result Number Leb128Fault → Result Number CallFrameFault
whole (Ok number) = Ok number
whole (Err fault) = Err Truncated

abbrev pub unsigned : Source → ℕ → Result Number CallFrameFault
unsigned source place = whole (unsigned_at (bytes_of source) place)

abbrev pub signed : Source → ℕ → Result Number CallFrameFault
signed source place = whole (signed_at (bytes_of source) place)

-- a number of a fixed size and the place behind it
abbrev pub sized : ℕ → Source → ℕ → (ℕ → ℕ) → Result Number CallFrameFault
sized size source place value = fixed size source place >>= λ n.
    Ok (record { value = value n; next = place + size })

-- bytes that are passed over, which aren't read: the place behind them is neither past the entry
-- nor past the section
abbrev pub fits : Section → Extent → ℕ → Bool
fits s e place = nat_le place e.end && nat_le place s.size

-- the place behind a length and so many bytes
abbrev pub passed_over : Section → Extent → ℕ → Result Number CallFrameFault
passed_over s e place =
    unsigned s.cells place >>= λ length.
    if fits s e (length.next + length.value)
    then Ok (record { value = length.next; next = length.next + length.value })
    else Err Truncated
