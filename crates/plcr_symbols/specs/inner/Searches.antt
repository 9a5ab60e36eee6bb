-- What a search for the symbols of rising addresses is to keep.
use Rattle.std.specs.Prelude.{◌≡◌, ℕ, List, length, Option}
use Rattle.std.specs.List.Sorted.{IsNonDecreasing}
use Rattle.plcr_symbols.specs.declared.symbol.SymbolAt.{SymbolAt}
use Rattle.plcr_symbols.specs.declared.table.Search.{Search}
use Rattle.plcr_symbols.specs.Symbols.{greatest}
use Rattle.plcr_symbols.specs.inner.Gaps.{gap_symbol, gathered}

-- the addresses rise, and there is room for the symbol of each
pub record HasRoom (s : Search) (found : List (Option SymbolAt)) : Type 0 where
  pub rising : IsNonDecreasing s.addresses.now
  pub room : length found ≡ length s.addresses.now

-- what a row has for each gap
abbrev pub row_gains : Search → List ℕ → ℕ → Option SymbolAt
row_gains s row k = gap_symbol s.image.now s.table s.addresses.now k row

-- the greatest that rows have for each gap
abbrev pub rows_gain : Search → List (List ℕ) → ℕ → Option SymbolAt
rows_gain s rows k = greatest (gap_symbol s.image.now s.table s.addresses.now k) rows

-- the greatest that so many rows from an index on have for each gap
abbrev pub to_come : Search → ℕ → ℕ → ℕ → Option SymbolAt
to_come s left index = gathered s.memory.now s.image.now s.table s.addresses.now left index
