-- What the symbol of an address is, above the choice among the rows and the search for a zero.
use Rattle.std.specs.Prelude.{◌≡◌, ◌≤◌, ◌<◌, ℕ, ◌+◌, List, [], length, slice_index_or, Some, None}
use Rattle.std.specs.Int.Bits.{bit_and}
use Rattle.plcr_memory.specs.Regions.{Contents, byte_at}
use Rattle.plcr_loader.specs.declared.constants.TheConstants.{N_STAB, N_TYPE, N_SECT}
use Rattle.plcr_loader.specs.declared.nlist_64.TheConstants as nlist_64
use Rattle.plcr_loader.specs.declared.nlist_64.TheConstants.{N_STRX}
use Rattle.plcr_loader.specs.Fields.{number}
use Rattle.plcr_macho.specs.declared.image.Symtab.{Symtab}
use Rattle.plcr_macho.specs.declared.image.Image.{Image}
use Rattle.plcr_macho.specs.Sources.{plus}
use Rattle.plcr_symbols.specs.declared.limits.TheConstants.{SYMBOL_NAME_BYTES}
use Rattle.plcr_symbols.specs.declared.symbol.SymbolAt.{SymbolAt}
use Rattle.plcr_symbols.specs.Symbols.{address_in, row_at, rows_of}

-- the row at an index of a list, and an empty one past the end
abbrev pub row_of : List (List ℕ) → ℕ → List ℕ
row_of rows k = slice_index_or rows k []

-- the rows are those of the table, from its first on: all of them, or those before the first that
-- isn't wholly mapped
pub record AreRows (memory : Contents) (table : Symtab) (rows : List (List ℕ)) : Type 0 where
  pub within : length rows ≤ table.rows
  pub each : (k : ℕ) → k < length rows → row_at memory table.rows_at k ≡ Some (row_of rows k)
  pub last : length rows < table.rows → row_at memory table.rows_at (length rows) ≡ None

-- the row may have the symbol of the address: it is no debugger's, is defined in a section, and
-- lies in `__TEXT`, not above the address
pub record IsCandidate (image : Image) (address : ℕ) (row : List ℕ) : Type 0 where
  pub no_stab : bit_and (number nlist_64.N_TYPE row) N_STAB ≡ 0
  pub section : bit_and (number nlist_64.N_TYPE row) N_TYPE ≡ N_SECT
  pub «from» : image.header ≤ address_in image row
  pub to : address_in image row < image.header + image.text_size
  pub below : address_in image row ≤ address

-- of the rows the one at an index is the candidate with the greatest address, the first on a tie
pub record IsGreatest (image : Image) (address : ℕ) (rows : List (List ℕ)) (index : ℕ) : Type 0
  where
    pub inside : index < length rows
    pub here : IsCandidate image address (row_of rows index)
    pub greatest : (k : ℕ) → k < length rows → IsCandidate image address (row_of rows k) →
        address_in image (row_of rows k) ≤ address_in image (row_of rows index)
    pub first : (k : ℕ) → k < index → IsCandidate image address (row_of rows k) →
        address_in image (row_of rows k) < address_in image (row_of rows index)

-- the row's name begins at an address and has so many bytes: they are mapped, none is zero, and a
-- zero follows that stands within the table of names
pub record IsName (memory : Contents) (table : Symtab) (row : List ℕ) (at len : ℕ) : Type 0 where
  pub begins : at ≡ plus table.strings_at (number N_STRX row)
  pub short : len ≤ SYMBOL_NAME_BYTES
  pub within : number N_STRX row + len < table.strings
  pub bytes : (k : ℕ) → k < len → (b : ℕ) × (byte_at memory (at + k) ≡ Some b) × (0 < b)
  pub ends : byte_at memory (at + len) ≡ Some 0

-- the symbol is that of the greatest candidate of the image's table, and its name stands there
pub record IsSymbol (memory : Contents) (image : Image) (address : ℕ) (symbol : SymbolAt) : Type 0
  where
    pub table : Symtab
    pub index : ℕ
    pub has : image.symtab ≡ Some table
    pub row : IsGreatest image address (rows_of memory table) index
    pub value : symbol.value ≡ address_in image (row_of (rows_of memory table) index)
    pub name : IsName memory table (row_of (rows_of memory table) index) symbol.name_at
        symbol.name_len
