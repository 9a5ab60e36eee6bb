-- What stands in a piece of a name.
use Rattle.std.specs.Prelude.{◌≡◌, ◌<◌, ℕ, true, Some, None, is_some}
use Rattle.plcr_memory.specs.Regions.{Contents, bytes_at}
use Rattle.plcr_symbols.specs.declared.names.Piece.{Piece}
use Rattle.plcr_symbols.specs.declared.names.Piece.TheVariants.{Unmapped, NoZero, Zero}
use Rattle.plcr_symbols.specs.Symbols.{zero_within}

-- so many bytes are such a piece
abbrev pub IsPieceOf : Contents → ℕ → ℕ → Piece → Type 0
IsPieceOf memory at size Unmapped = bytes_at memory at size ≡ None
IsPieceOf memory at size NoZero = (is_some (bytes_at memory at size) ≡ true)
    × (zero_within memory size at ≡ None)
IsPieceOf memory at size (Zero place) = (zero_within memory size at ≡ Some place) × (place < size)
