-- Rows that are read as one piece.
use Rattle.std.proofs.Common.{◌≡◌, ◌≤◌, ◌<◌, ℕ, zero, suc, ◌+◌, ◌*◌, ◌/◌, ◌^◌, false, List, [], length, take, drop, Option, Some, None, is_some, refl, sym, ap, subst, ◌∙◌, arith}
use Rattle.std.proofs.lemmas.Bool.{false≢true}
use Rattle.plcr_memory.specs.Regions.{Contents, bytes_at}
use Rattle.plcr_loader.specs.declared.nlist_64.TheConstants.{LENGTH}
use Rattle.plcr_macho.specs.declared.image.Symtab.{Symtab}
use Rattle.plcr_macho.specs.declared.image.Image.{Image}
use Rattle.plcr_macho.specs.Sources.{plus}
use Rattle.plcr_memory.proofs.Fronts.{bytes_back, bytes_front}
use Rattle.plcr_symbols.specs.declared.symbol.SymbolAt.{SymbolAt}
use Rattle.plcr_symbols.specs.Symbols.{greater, greatest, row_at, row_before, rows_from}
use Rattle.plcr_symbols.specs.inner.Gaps.{Gains, Gathers, gap_symbol, gathered, kept_at, rows_in}
use Rattle.plcr_symbols.proofs.Addresses.{next_row}
use Rattle.plcr_symbols.proofs.Greater.{greater_none, greater_thrice}
use Rattle.plcr_symbols.proofs.Rows.{piece_symbols}

-- the bytes of so many rows from an index on
record AreRows (m : Contents) (start index n : ℕ) (bytes : List ℕ) : Type 0 where
  pub there : bytes_at m (plus start (LENGTH * index)) (LENGTH * n) ≡ Some bytes
  pub within : plus start (LENGTH * index) + LENGTH * n ≤ 2 ^ 64

first_row : (m : Contents) (start index n : ℕ) (bytes : List ℕ) → AreRows m start index (suc n) bytes → row_at m start index ≡ Some (take LENGTH bytes)
unfolding row_at
first_row m start index n bytes h = bytes_front m (plus start (LENGTH * index)) LENGTH (LENGTH * suc n) bytes (omega arith) h.there

other_rows : (m : Contents) (start index n : ℕ) (bytes : List ℕ) → AreRows m start index (suc n) bytes → 0 < n → AreRows m start (index + 1) n (drop LENGTH bytes)
other_rows m start index n bytes h some =
    let a = plus start (LENGTH * index) in
    let next : plus start (LENGTH * (index + 1)) ≡ a + LENGTH = next_row start index (omega (arith, h.within, some)) in
    let all : LENGTH * suc n ≡ LENGTH + LENGTH * n = omega arith in
    record {
      there = ap (λ (x : ℕ). bytes_at m x (LENGTH * n)) next ∙ bytes_back m a LENGTH (LENGTH * n) bytes (subst (λ (x : ℕ). bytes_at m a x ≡ Some bytes) all h.there);
      within = omega (arith, next, h.within);
    }

-- the symbols of the piece, and of what is behind it
piece_rows : (m : Contents) (start : ℕ) (f : List ℕ → Option SymbolAt) (n more index : ℕ) (bytes : List ℕ) → (0 < n → AreRows m start index n bytes)
    → greatest f (rows_from m start (n + more) index) ≡ greater (greatest f (rows_in n bytes)) (greatest f (rows_from m start more (index + n)))
piece_rows m start f zero more index bytes h =
    let all : 0 + more ≡ more = omega arith in
    let here : index ≡ index + 0 = omega arith in
    ap (λ (x : ℕ). greatest f (rows_from m start x index)) all ∙ ap (λ (x : ℕ). greatest f (rows_from m start more x)) here
piece_rows m start f (suc n) more index bytes h =
    let now = h (omega arith) in
    let total : suc n + more ≡ suc (n + more) = omega arith in
    let place : (index + 1) + n ≡ index + suc n = omega arith in
    let rest = greatest f (rows_in n (drop LENGTH bytes)) in
    ap (λ (x : ℕ). greatest f (rows_from m start x index)) total
    ∙ ap (λ (o : Option (List ℕ)). greatest f (row_before o (rows_from m start (n + more) (index + 1)))) (first_row m start index n bytes now)
    ∙ ap (greater (f (take LENGTH bytes))) (piece_rows m start f n more (index + 1) (drop LENGTH bytes) (other_rows m start index n bytes now))
    ∙ sym (greater_thrice (f (take LENGTH bytes)) rest (greatest f (rows_from m start more ((index + 1) + n))))
    ∙ ap (λ (x : ℕ). greater (greater (f (take LENGTH bytes)) rest) (greatest f (rows_from m start more x))) place

pub gathers_read : (m : Contents) (image : Image) (table : Symtab) (addresses : List ℕ) (at index size : ℕ) (bytes : List ℕ) (old new : List (Option SymbolAt))
    → at ≡ plus table.rows_at (LENGTH * index) → length bytes ≡ LENGTH * size → bytes_at m at (length bytes) ≡ Some bytes → at + length bytes ≤ 2 ^ 64
    → Gains addresses (piece_symbols image table addresses bytes) old new
    → (more : ℕ) → Gathers addresses old (gathered m image table addresses (size + more) index) new (gathered m image table addresses more (index + size))
gathers_read m image table addresses at index size bytes old new is long there within gains more k lt =
    let f = gap_symbol image table addresses k in
    let rest = gathered m image table addresses more (index + size) k in
    let count : length bytes / LENGTH ≡ size = omega (arith, long) in
    let rows : AreRows m table.rows_at index size bytes = record {
      there = ap (λ (x : ℕ). bytes_at m x (LENGTH * size)) (sym is) ∙ ap (bytes_at m at) (sym long) ∙ there;
      within = omega (arith, is, long, within);
    } in
    ap (λ (o : Option SymbolAt). greater o rest) (gains k lt)
    ∙ ap (λ (n : ℕ). greater (greater (kept_at old k) (greatest f (rows_in n bytes))) rest) count
    ∙ greater_thrice (kept_at old k) (greatest f (rows_in size bytes)) rest
    ∙ ap (greater (kept_at old k)) (sym (piece_rows m table.rows_at f size more index bytes (λ _. rows)))

none_from : {A : Type 0} → (o : Option A) → false ≡ is_some o → o ≡ None
none_from None h = refl
none_from (Some x) h = absurd (false≢true h)

pub row_missing : (m : Contents) (start at index size n : ℕ) → at ≡ plus start (LENGTH * index) → n ≡ LENGTH * size → size ≡ 1 → false ≡ is_some (bytes_at m at n) → row_at m start index ≡ None
unfolding row_at
row_missing m start at index size n is long one h =
    let whole : n ≡ LENGTH = omega (arith, long, one) in
    ap (λ (x : ℕ). bytes_at m x LENGTH) (sym is) ∙ none_from (bytes_at m at LENGTH) (h ∙ ap (λ (x : ℕ). is_some (bytes_at m at x)) whole)

-- no row is left, or the next isn't mapped
pub gathers_end : (m : Contents) (image : Image) (table : Symtab) (addresses : List ℕ) (left index : ℕ) (all : ℕ → Option SymbolAt) (old found : List (Option SymbolAt))
    → Gathers addresses old all found (gathered m image table addresses left index) → left ≡ 0 → Gains addresses all old found
gathers_end m image table addresses left index all old found h none k lt =
    sym (greater_none (kept_at found k)) ∙ ap (λ (x : ℕ). greater (kept_at found k) (gathered m image table addresses x index k)) (sym none) ∙ h k lt

pub gathers_missing : (m : Contents) (image : Image) (table : Symtab) (addresses : List ℕ) (left index : ℕ) (all : ℕ → Option SymbolAt) (old found : List (Option SymbolAt))
    → Gathers addresses old all found (gathered m image table addresses left index) → row_at m table.rows_at index ≡ None → Gains addresses all old found
gathers_missing m image table addresses left index all old found h missing k lt =
    sym (greater_none (kept_at found k)) ∙ ap (greater (kept_at found k)) (sym (ap (greatest (gap_symbol image table addresses k)) (ended left))) ∙ h k lt
  where
    ended : (left : ℕ) → rows_from m table.rows_at left index ≡ []
    ended zero = refl
    ended (suc left) = rw missing refl
