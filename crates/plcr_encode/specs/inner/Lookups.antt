-- The order in which the symbols of a thread's frames are looked for.
use Rattle.std.specs.Prelude.{◌≡◌, ◌≤◌, ◌<◌, ℕ, List, length, map, Option, IfSome}
use Rattle.std.specs.List.{enumerate_from}
use Rattle.plcr_macho.specs.Images.{Listed}
use Rattle.plcr_symbols.specs.declared.symbol.SymbolAt.{SymbolAt}
use Rattle.plcr_encode.specs.declared.frame_rows.FrameRow.{FrameRow}
use Rattle.plcr_encode.specs.declared.lookups.Lookup.{Lookup}

-- what is looked for a numbered row
abbrev pub lookup_for : ℕ × FrameRow → Lookup
lookup_for numbered =
    record { position = numbered.1.position; address = numbered.1.lookup; frame = numbered.0 }

-- what is looked for all rows
abbrev pub lookups_for : List FrameRow → List Lookup
lookups_for rows = map lookup_for (enumerate_from 0 rows)

-- the answer to a lookup, where this is what answers a position and an address
abbrev pub answer : (Option ℕ → ℕ → Option SymbolAt) → Lookup → Option SymbolAt
answer symbol lookup = symbol lookup.position lookup.address

-- a row with this answer
abbrev pub answered : (Option ℕ → ℕ → Option SymbolAt) → FrameRow → FrameRow
answered symbol row = record row { symbol = symbol row.position row.lookup }

abbrev pub address_of : Lookup → ℕ
address_of lookup = lookup.address

-- a lookup may stand behind another in one search: in the same image, and no lower
pub record Continues (before lookup : Lookup) : Type 0 where
  pub image : lookup.position ≡ before.position
  pub rising : before.address ≤ lookup.address

-- the position that is looked in, where there is one, is in the list
abbrev pub IsWithin : List Listed → Lookup → Type 0
IsWithin listed lookup = IfSome lookup.position (λ i. i < length listed)
