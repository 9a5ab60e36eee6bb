-- Rows of a table, and the greatest of their symbols.
use Rattle.std.proofs.Common.{◌≡◌, ◌≤◌, ◌<◌, ℕ, suc, ◌/◌, List, length, take, drop, Option, refl, sym, ap, ◌∙◌, arith}
use Rattle.std.proofs.lemmas.List.{length-drop}
use Rattle.plcr_loader.specs.declared.nlist_64.TheConstants.{LENGTH}
use Rattle.plcr_macho.specs.declared.image.Symtab.{Symtab}
use Rattle.plcr_macho.specs.declared.image.Image.{Image}
use Rattle.plcr_symbols.specs.declared.symbol.SymbolAt.{SymbolAt}
use Rattle.plcr_symbols.specs.Symbols.{greater, greatest}
use Rattle.plcr_symbols.specs.inner.Gaps.{Gains, Gathers, gap_symbol, kept_at, rows_in}
use Rattle.plcr_symbols.proofs.Greater.{greater_none, greater_thrice}

-- the symbols of the rows that these bytes have
abbrev pub piece_symbols : Image → Symtab → List ℕ → List ℕ → ℕ → Option SymbolAt
piece_symbols image table addresses bytes k = greatest (gap_symbol image table addresses k) (rows_in (length bytes / LENGTH) bytes)

-- one row, and the rest
rows_split : (f : List ℕ → Option SymbolAt) (bytes : List ℕ) → LENGTH ≤ length bytes
    → greatest f (rows_in (length bytes / LENGTH) bytes) ≡ greater (f (take LENGTH bytes)) (greatest f (rows_in (length (drop LENGTH bytes) / LENGTH) (drop LENGTH bytes)))
rows_split f bytes le =
    let fewer : length bytes / LENGTH ≡ suc (length (drop LENGTH bytes) / LENGTH) = rw (length-drop LENGTH bytes) (omega (arith, le)) in
    ap (λ (n : ℕ). greatest f (rows_in n bytes)) fewer

pub rows_start : (image : Image) (table : Symtab) (addresses bytes : List ℕ) (found : List (Option SymbolAt))
    → Gathers addresses found (piece_symbols image table addresses bytes) found (piece_symbols image table addresses bytes)
rows_start image table addresses bytes found k lt = refl

pub rows_more : (image : Image) (table : Symtab) (addresses bytes rest row behind : List ℕ) (old found new : List (Option SymbolAt))
    → Gathers addresses old (piece_symbols image table addresses bytes) found (piece_symbols image table addresses rest) → LENGTH ≤ length rest
    → row ≡ take LENGTH rest → behind ≡ drop LENGTH rest → Gains addresses (λ k. gap_symbol image table addresses k row) found new
    → Gathers addresses old (piece_symbols image table addresses bytes) new (piece_symbols image table addresses behind)
rows_more image table addresses bytes rest row behind old found new before le front back gains k lt =
    let f = gap_symbol image table addresses k in
    let more = piece_symbols image table addresses behind k in
    let split : greatest f (rows_in (length rest / LENGTH) rest) ≡ greater (f row) more =
    rows_split f rest le ∙ ap (λ (x : List ℕ). greater (f x) (piece_symbols image table addresses (drop LENGTH rest) k)) (sym front)
    ∙ ap (λ (x : List ℕ). greater (f row) (piece_symbols image table addresses x k)) (sym back) in
    ap (λ (o : Option SymbolAt). greater o more) (gains k lt) ∙ greater_thrice (kept_at found k) (f row) more ∙ ap (greater (kept_at found k)) (sym split) ∙ before k lt

pub rows_end : (image : Image) (table : Symtab) (addresses bytes rest : List ℕ) (old found : List (Option SymbolAt))
    → Gathers addresses old (piece_symbols image table addresses bytes) found (piece_symbols image table addresses rest) → length rest < LENGTH
    → Gains addresses (piece_symbols image table addresses bytes) old found
rows_end image table addresses bytes rest old found before short k lt =
    let none : length rest / LENGTH ≡ 0 = omega (arith, short) in
    sym (greater_none (kept_at found k)) ∙ ap (greater (kept_at found k)) (sym (ap (λ (n : ℕ). greatest (gap_symbol image table addresses k) (rows_in n rest)) none)) ∙ before k lt
