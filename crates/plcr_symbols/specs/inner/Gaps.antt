-- How the symbols of rising addresses are gathered: those above the address before and not above an
-- address are in its gap.
use Rattle.std.specs.Prelude.{◌≡◌, ◌<◌, ℕ, zero, suc, Bool, ◌&&◌, nat_lt, nat_le, List, [], ◌∷◌, length, take, drop, slice_index, slice_index_or, Option, Some, None}
use Rattle.plcr_memory.specs.Regions.{Contents}
use Rattle.plcr_loader.specs.declared.nlist_64.TheConstants.{LENGTH}
use Rattle.plcr_macho.specs.declared.image.Symtab.{Symtab}
use Rattle.plcr_macho.specs.declared.image.Image.{Image}
use Rattle.plcr_symbols.specs.declared.symbol.SymbolAt.{SymbolAt}
use Rattle.plcr_symbols.specs.Symbols.{defined_in, greater, greatest, named, rows_from, where_its_address}

-- an address lies in the gap of the address at an index
abbrev pub in_gap : List ℕ → ℕ → ℕ → Bool
in_gap addresses zero a = nat_le a (slice_index addresses 0)
in_gap addresses (suc k) a = nat_lt (slice_index addresses k) a
    && nat_le a (slice_index addresses (suc k))

-- the row's symbol, where it lies in the gap
abbrev pub gap_symbol : Image → Symtab → List ℕ → ℕ → List ℕ → Option SymbolAt
gap_symbol image table addresses k row =
    where_its_address (in_gap addresses k) (defined_in image table row)

-- what is kept at an index
abbrev pub kept_at : List (Option SymbolAt) → ℕ → Option SymbolAt
kept_at found k = slice_index_or found k None

-- each gap gained the symbols that it has more
abbrev pub Gains : List ℕ → (ℕ → Option SymbolAt) → List (Option SymbolAt) →
    List (Option SymbolAt) → Type 0
Gains addresses more old new = (k : ℕ) → k < length addresses →
    kept_at new k ≡ greater (kept_at old k) (more k)

-- so many rows, one behind the other
abbrev pub rows_in : ℕ → List ℕ → List (List ℕ)
rows_in zero bytes = []
rows_in (suc n) bytes = take LENGTH bytes ∷ rows_in n (drop LENGTH bytes)

-- the greatest symbol in a gap among so many rows from an index on
abbrev pub gathered : Contents → Image → Symtab → List ℕ → ℕ → ℕ → ℕ → Option SymbolAt
gathered memory image table addresses left index k =
    greatest (gap_symbol image table addresses k) (rows_from memory table.rows_at left index)

-- what is kept, with what is still to come, is as what was kept with all that was to come
abbrev pub Gathers : List ℕ → List (Option SymbolAt) → (ℕ → Option SymbolAt) →
    List (Option SymbolAt) → (ℕ → Option SymbolAt) → Type 0
Gathers addresses old all new rest = (k : ℕ) → k < length addresses →
    greater (kept_at new k) (rest k) ≡ greater (kept_at old k) (all k)

-- a gap's symbol with its name, or the answer below where the gap has none
abbrev pub named_or : Contents → Option SymbolAt → Option SymbolAt → Option SymbolAt
named_or memory None below = below
named_or memory (Some symbol) below = named memory symbol

-- the answer below an index: that of the last gap before it that has a symbol
abbrev pub settled : Contents → List (Option SymbolAt) → ℕ → Option SymbolAt
settled memory found zero = None
settled memory found (suc k) = named_or memory (kept_at found k) (settled memory found k)
