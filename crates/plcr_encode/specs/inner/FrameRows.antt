-- The rows in which the frames of a thread are kept.
use Rattle.std.specs.Prelude.{◌≡◌, ◌<◌, ◌≤◌, ℕ, List, length, Option, Some, None, All, IsSome, IfSome, option_map, Result, Ok, Err}
use Rattle.plcr_memory.specs.Regions.{Contents, bytes_at}
use Rattle.plcr_regs.specs.declared.arch.Arch.{Arch}
use Rattle.plcr_macho.specs.declared.image.Image.{Image}
use Rattle.plcr_macho.specs.declared.image.ImageFault.{ImageFault}
use Rattle.plcr_macho.specs.Containing.{first_over}
use Rattle.plcr_macho.specs.Images.{Listed, listed_at}
use Rattle.plcr_macho.specs.Loading.{image_at}
use Rattle.plcr_symbols.specs.declared.limits.TheConstants.{SYMBOL_NAME_BYTES}
use Rattle.plcr_symbols.specs.declared.symbol.SymbolAt.{SymbolAt}
use Rattle.plcr_symbols.specs.Symbols.{symbol_at}
use Rattle.plcr_report.specs.declared.messages.Frame.{Frame}
use Rattle.plcr_cursor.specs.declared.given.Given.{Given}
use Rattle.plcr_cursor.specs.declared.limits.TheConstants.{MOST_FRAMES}
use Rattle.plcr_cursor.specs.declared.located.Located.{Located}
use Rattle.plcr_cursor.specs.Frames.{located_at, reader_number}
use Rattle.plcr_encode.specs.declared.frame_rows.FrameRow.{FrameRow}
use Rattle.plcr_encode.specs.Frames.{lookup_in, pc_of, symbol_of}

-- the position of an image that has a symbol table
abbrev pub tabled : Option Located → Option ℕ
tabled None = None
tabled (Some located) = option_map (λ _. located.place) located.image.symtab

-- that of the image that has an address
abbrev pub position_of : Contents → Arch → List Listed → ℕ → Option ℕ
position_of memory arch listed address =
    tabled (option_map located_at (first_over memory arch address 0 listed))

-- what is kept of a frame as it is told, without its symbol
abbrev pub row_of : Contents → Arch → List Listed → Given → FrameRow
row_of memory arch listed given = record {
  pc = pc_of given;
  by = reader_number given.by;
  lookup = lookup_in given;
  position = position_of memory arch listed (lookup_in given);
  symbol = None;
}

-- the symbol of an address in the image, where there is one
abbrev pub symbol_within : Contents → Result Image ImageFault → ℕ → Option SymbolAt
symbol_within memory (Ok image) address = symbol_at memory image address
symbol_within memory (Err fault) address = None

-- the symbol of an address in the image at a position
abbrev pub symbol_by : Contents → Arch → List Listed → Option ℕ → ℕ → Option SymbolAt
symbol_by memory arch listed None address = None
symbol_by memory arch listed (Some i) address =
    symbol_within memory (image_at memory arch (listed_at listed i).header) address

-- the position in a row, where there is one, is in the list
abbrev pub IsPlaced : List Listed → FrameRow → Type 0
IsPlaced listed row = IfSome row.position (λ i. i < length listed)

-- no image with a symbol table has the address of a row, and it has no symbol
pub record IsBare (row : FrameRow) : Type 0 where
  pub nowhere : row.position ≡ None
  pub nameless : row.symbol ≡ None

-- a symbol whose name is mapped and within its limit
pub record IsNamed (memory : Contents) (symbol : SymbolAt) : Type 0 where
  pub mapped : IsSome (bytes_at memory symbol.name_at symbol.name_len)
  pub short : symbol.name_len ≤ SYMBOL_NAME_BYTES

-- the symbol in a row, where there is one, is such
abbrev pub IsNamedIn : Contents → FrameRow → Type 0
IsNamedIn memory row = IfSome row.symbol (IsNamed memory)

-- the frame that is written of a row
abbrev pub frame_in : Contents → FrameRow → Frame
frame_in memory row = record { pc = row.pc; symbol = option_map (symbol_of memory) row.symbol }

-- the rows of a thread that can be written
pub record AreWritable (memory : Contents) (rows : List FrameRow) : Type 0 where
  pub few : length rows ≤ MOST_FRAMES
  pub named : All (IsNamedIn memory) rows
