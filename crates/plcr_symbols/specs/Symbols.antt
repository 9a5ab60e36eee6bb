-- The symbol of an address: the row of an image's table that has it, and its name (nlist.h).
-- Addresses are added modulo 2^64.
use Rattle.std.specs.Prelude.{ℕ, zero, suc, ◌+◌, ◌-◌, ◌*◌, Bool, ◌==◌, ◌&&◌, nat_lt, nat_le, if◌then◌else◌, List, [], ◌∷◌, min, Option, Some, None, option_map}
use Rattle.std.specs.Option.{option_and_then}
use Rattle.std.specs.Int.Bits.{bit_and}
use Rattle.plcr_memory.specs.Regions.{Contents, byte_at, bytes_at}
use Rattle.plcr_loader.specs.declared.constants.TheConstants.{N_STAB, N_TYPE, N_SECT}
use Rattle.plcr_loader.specs.declared.nlist_64.TheConstants as nlist_64
use Rattle.plcr_loader.specs.declared.nlist_64.TheConstants.{LENGTH, N_STRX, N_VALUE}
use Rattle.plcr_loader.specs.Fields.{number}
use Rattle.plcr_macho.specs.declared.image.Symtab.{Symtab}
use Rattle.plcr_macho.specs.declared.image.Image.{Image}
use Rattle.plcr_macho.specs.Sources.{plus}
use Rattle.plcr_symbols.specs.declared.limits.TheConstants.{SYMBOL_NAME_BYTES}
use Rattle.plcr_symbols.specs.declared.symbol.SymbolAt.{SymbolAt}

-- the bytes of the row at an index of the table that begins at an address, where all are mapped
unfoldable pub row_at : Contents → ℕ → ℕ → Option (List ℕ)
row_at memory start index = bytes_at memory (plus start (LENGTH * index)) LENGTH

-- a row before those behind it
abbrev pub row_before : Option (List ℕ) → List (List ℕ) → List (List ℕ)
row_before None rows = []
row_before (Some row) rows = row ∷ rows

-- so many rows from an index on, or those before the first that isn't wholly mapped
abbrev pub rows_from : Contents → ℕ → ℕ → ℕ → List (List ℕ)
rows_from memory start zero index = []
rows_from memory start (suc left) index =
    row_before (row_at memory start index) (rows_from memory start left (index + 1))

-- all rows of the table
abbrev pub rows_of : Contents → Symtab → List (List ℕ)
rows_of memory table = rows_from memory table.rows_at table.rows 0

-- the row is of a symbol that is defined in a section, and isn't a debugger's
unfoldable pub is_defined : List ℕ → Bool
is_defined row = (bit_and (number nlist_64.N_TYPE row) N_STAB == 0)
    && (bit_and (number nlist_64.N_TYPE row) N_TYPE == N_SECT)

-- the address of the row's symbol
abbrev pub address_in : Image → List ℕ → ℕ
address_in image row = plus (number N_VALUE row) image.slide

-- the address lies in the image's `__TEXT`
abbrev pub in_text : Image → ℕ → Bool
in_text image a = nat_le image.header a && nat_lt (a - image.header) image.text_size

-- what a row says of its symbol: its address, where its name begins, and how many bytes the table
-- of names has from there on
abbrev pub said_by : Image → Symtab → List ℕ → SymbolAt
said_by image table row = record {
  value = address_in image row;
  name_at = plus table.strings_at (number N_STRX row);
  name_len = table.strings - number N_STRX row;
}

-- the same, where the symbol is defined in a section and lies in the image's `__TEXT`
unfoldable pub defined_in : Image → Symtab → List ℕ → Option SymbolAt
defined_in image table row = if is_defined row && in_text image (address_in image row)
    then Some (said_by image table row) else None

-- a symbol, where its address passes a test
abbrev pub where_its_address : (ℕ → Bool) → Option SymbolAt → Option SymbolAt
where_its_address test None = None
where_its_address test (Some symbol) = if test symbol.value then Some symbol else None

-- the row's symbol, where it may be that of an address: it is defined, lies in `__TEXT` and isn't
-- above the address
abbrev pub candidate : Image → Symtab → ℕ → List ℕ → Option SymbolAt
candidate image table address row =
    where_its_address (λ a. nat_le a address) (defined_in image table row)

-- of two symbols the one with the greater address, the first on a tie
abbrev pub greater : Option SymbolAt → Option SymbolAt → Option SymbolAt
greater None later = later
greater (Some symbol) None = Some symbol
greater (Some symbol) (Some later) = if nat_lt symbol.value later.value then Some later
    else Some symbol

-- the greatest of the symbols that rows have, the first on a tie
abbrev pub greatest : (List ℕ → Option SymbolAt) → List (List ℕ) → Option SymbolAt
greatest symbol [] = None
greatest symbol (row ∷ rows) = greater (symbol row) (greatest symbol rows)

-- how many bytes stand from an address on before the first zero, which is to be one of so many
abbrev pub zero_within : Contents → ℕ → ℕ → Option ℕ
zero_within memory zero at = None
zero_within memory (suc n) at =
    option_and_then (λ b. if b == 0 then Some 0 else option_map suc (zero_within memory n (at + 1)))
    (byte_at memory at)

-- the symbol with the length of its name: a zero within the table of names ends it, behind no more
-- bytes than a name may have
unfoldable pub named : Contents → SymbolAt → Option SymbolAt
named memory symbol =
    option_map (λ n. record symbol { name_len = n })
    (zero_within memory (min symbol.name_len (SYMBOL_NAME_BYTES + 1)) symbol.name_at)

-- the symbol of an address by a table: the greatest candidate, where its name stands; no other is
-- tried
unfoldable pub symbol_by : Contents → Image → Symtab → ℕ → Option SymbolAt
symbol_by memory image table address =
    option_and_then (named memory) (greatest (candidate image table address) (rows_of memory table))

-- the symbol of an address of an image
unfoldable pub symbol_at : Contents → Image → ℕ → Option SymbolAt
symbol_at memory image address =
    option_and_then (λ table. symbol_by memory image table address) image.symtab
