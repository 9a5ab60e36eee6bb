-- The answers from the gaps, from low to high.
use Rattle.std.proofs.Common.{◌≡◌, ◌≤◌, ◌<◌, ℕ, zero, suc, ◌+◌, List, length, slice_index, Option, Some, None, refl, sym, ap, ◌∙◌, arith}
use Rattle.std.specs.Prelude.{map, replicate}
use Rattle.std.specs.Option.{option_and_then, option_or}
use Rattle.std.specs.List.Sorted.{IsNonDecreasing}
use Rattle.std.proofs.lemmas.List.{ext_get_or, get_or-map, get_or-replicate, length-map, length-replicate}
use Rattle.plcr_memory.specs.Regions.{Contents}
use Rattle.plcr_macho.specs.declared.image.Symtab.{Symtab}
use Rattle.plcr_macho.specs.declared.image.Image.{Image}
use Rattle.plcr_symbols.specs.declared.symbol.SymbolAt.{SymbolAt}
use Rattle.plcr_symbols.specs.Symbols.{candidate, defined_in, greater, greatest, named, rows_of, symbol_at, symbol_by}
use Rattle.plcr_symbols.specs.inner.Gaps.{Gains, gathered, kept_at, named_or, settled}
use Rattle.plcr_symbols.proofs.Split.{split}

no_below : (m : Contents) (o : Option SymbolAt) → named_or m o None ≡ option_and_then (named m) o
no_below m None = refl
no_below m (Some s) = refl

with_below : (m : Contents) (o p : Option SymbolAt) → named_or m o (option_and_then (named m) p) ≡ option_and_then (named m) (option_or o p)
with_below m None p = refl
with_below m (Some s) p = refl

-- each gap keeps the greatest symbol in it
abbrev pub AreGathered : Contents → Image → Symtab → List ℕ → List (Option SymbolAt) → Type 0
AreGathered m image table addresses found = (k : ℕ) → k < length addresses → kept_at found k ≡ gathered m image table addresses table.rows 0 k

answers : (m : Contents) (image : Image) (table : Symtab) (addresses : List ℕ) (found : List (Option SymbolAt)) (k : ℕ) → IsNonDecreasing addresses → AreGathered m image table addresses found
    → k < length addresses → settled m found (suc k) ≡ option_and_then (named m) (greatest (candidate image table (slice_index addresses k)) (rows_of m table))
answers m image table addresses found zero rises h lt = ap (λ (o : Option SymbolAt). named_or m o None) (h 0 lt) ∙ no_below m (gathered m image table addresses table.rows 0 0)
answers m image table addresses found (suc k) rises h lt =
    let low = slice_index addresses k in
    let high = slice_index addresses (suc k) in
    let gap = gathered m image table addresses table.rows 0 (suc k) in
    let before = greatest (candidate image table low) (rows_of m table) in
    let le : low ≤ high = rises k (suc k) 0 (omega arith) lt in
    ap (λ (o : Option SymbolAt). named_or m o (settled m found (suc k))) (h (suc k) lt)
    ∙ ap (named_or m gap) (answers m image table addresses found k rises h (omega (arith, lt)))
    ∙ with_below m gap before
    ∙ ap (option_and_then (named m)) (sym (split low high (defined_in image table) (rows_of m table) le))

-- what is settled is the list of the symbols
pub symbols_settled : (m : Contents) (image : Image) (table : Symtab) (addresses : List ℕ) (found new : List (Option SymbolAt)) → image.symtab ≡ Some table → IsNonDecreasing addresses
    → length new ≡ length addresses → Gains addresses (gathered m image table addresses table.rows 0) (replicate (length addresses) None) found
    → ((k : ℕ) → k < length addresses → kept_at new k ≡ settled m found (k + 1)) → new ≡ map (symbol_at m image) addresses
unfolding symbol_at symbol_by
symbols_settled m image table addresses found new has rises size gains settles =
    ext_get_or None new (map (symbol_at m image) addresses) (size ∙ sym (length-map addresses (symbol_at m image)))
    (λ k lt.
    let inside : k < length addresses = omega (arith, lt, size) in
    let gathers : AreGathered m image table addresses found = λ i le. gains i le ∙ ap (λ (o : Option SymbolAt). greater o (gathered m image table addresses table.rows 0 i)) (get_or-replicate (length addresses) i None None le) in
    let next : k + 1 ≡ suc k = omega arith in
    settles k inside ∙ ap (settled m found) next ∙ answers m image table addresses found k rises gathers inside
    ∙ sym (ap (option_and_then (λ (t : Symtab). symbol_by m image t (slice_index addresses k))) has)
    ∙ sym (get_or-map (symbol_at m image) addresses k 0 None inside))

-- without a table no address has a symbol
pub symbols_none : (m : Contents) (image : Image) (addresses : List ℕ) (new : List (Option SymbolAt)) → image.symtab ≡ None → new ≡ replicate (length addresses) None → new ≡ map (symbol_at m image) addresses
unfolding symbol_at
symbols_none m image addresses new has is =
    is ∙ ext_get_or None (replicate (length addresses) None) (map (symbol_at m image) addresses)
    (length-replicate (length addresses) None ∙ sym (length-map addresses (symbol_at m image)))
    (λ k lt.
    let inside : k < length addresses = omega (arith, lt, length-replicate {A = Option SymbolAt} (length addresses) None) in
    get_or-replicate (length addresses) k None None inside
    ∙ sym (ap (option_and_then (λ (t : Symtab). symbol_by m image t (slice_index addresses k))) has)
    ∙ sym (get_or-map (symbol_at m image) addresses k 0 None inside))
