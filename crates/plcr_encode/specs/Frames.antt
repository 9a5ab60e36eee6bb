-- The frames of a thread as a report has them.
use Rattle.std.specs.Prelude.{ℕ, ◌%◌, ◌^◌, List, [], map, Option, None, option_map, unwrap_or}
use Rattle.std.specs.Option.{option_and_then}
use Rattle.plcr_memory.specs.Regions.{Contents, bytes_at}
use Rattle.plcr_regs.specs.declared.arch.Arch.{Arch}
use Rattle.plcr_regs.specs.declared.registers.Registers.{Registers}
use Rattle.plcr_regs.specs.Frames.{frame_lookup, frame_pc}
use Rattle.plcr_macho.specs.Containing.{first_over}
use Rattle.plcr_macho.specs.Images.{Listed}
use Rattle.plcr_symbols.specs.declared.symbol.SymbolAt.{SymbolAt}
use Rattle.plcr_symbols.specs.Symbols.{symbol_at}
use Rattle.plcr_cursor.specs.declared.given.Given.{Given}
use Rattle.plcr_cursor.specs.Frames.{frames_of}
use Rattle.plcr_report.specs.declared.messages.Frame.{Frame}
use Rattle.plcr_report.specs.declared.messages.Symbol.{Symbol}

-- the address of a frame's code, without signature, as a word of 64 bits; in each frame of a thread
-- it is known
abbrev pub pc_of : Given → ℕ
pc_of given = unwrap_or (frame_pc given.frame) 0 % 2 ^ 64

-- the address by which a frame's function is looked up; it is known where that of the code is
abbrev pub lookup_in : Given → ℕ
lookup_in given = unwrap_or (frame_lookup given.frame) 0

-- the symbol of an address: that in the first image of the list that has the address
abbrev pub symbol_over : Contents → Arch → List Listed → ℕ → Option SymbolAt
symbol_over memory arch listed address =
    option_and_then (λ found. symbol_at memory found.1 address)
    (first_over memory arch address 0 listed)

-- the name of a symbol; the bytes of each symbol's name are mapped
abbrev pub name_of : Contents → SymbolAt → List ℕ
name_of memory symbol = unwrap_or (bytes_at memory symbol.name_at symbol.name_len) []

-- a symbol by its name and its address; where it ends isn't told
abbrev pub symbol_of : Contents → SymbolAt → Symbol
symbol_of memory symbol =
    record { name = name_of memory symbol; start_address = symbol.value; end_address = None }

-- a frame by the address of its code, with the symbol of the address by which its function is
-- looked up
abbrev pub frame_of : Contents → Arch → List Listed → Given → Frame
frame_of memory arch listed given =
    record {
      pc = pc_of given;
      symbol = option_map (symbol_of memory) (symbol_over memory arch listed (lookup_in given));
    }

-- the frames of a thread that was stopped in this state, in a process with this memory and these
-- loaded images, where so many low bits of an address of code count
abbrev pub thread_frames : Contents → List Listed → ℕ → Registers → List Frame
thread_frames memory listed bits state =
    map (frame_of memory state.arch listed) (frames_of memory listed state bits)
