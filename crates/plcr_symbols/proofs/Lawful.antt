-- What the symbol of an address is.
use Rattle.std.proofs.Common.{◌≡◌, ◌≤◌, ◌<◌, ℕ, zero, suc, ◌+◌, List, ◌∷◌, length, Option, Some, None, refl, sym, ap, subst, ◌∙◌, arith}
use Rattle.std.specs.Prelude.{IsSome}
use Rattle.std.specs.Option.{option_and_then}
use Rattle.plcr_memory.specs.Regions.{Contents, bytes_at}
use Rattle.plcr_macho.specs.declared.image.Symtab.{Symtab}
use Rattle.plcr_macho.specs.declared.image.Image.{Image}
use Rattle.plcr_symbols.specs.declared.limits.TheConstants.{SYMBOL_NAME_BYTES}
use Rattle.plcr_symbols.specs.declared.symbol.SymbolAt.{SymbolAt}
use Rattle.plcr_symbols.specs.Symbols.{address_in, candidate, greatest, named, row_at, row_before, rows_from, rows_of, said_by, symbol_at, symbol_by}
use Rattle.plcr_symbols.specs.Laws.{AreRows, IsGreatest, IsSymbol, row_of}
use Rattle.plcr_symbols.proofs.Candidates.{candidate_from, candidate_is}
use Rattle.plcr_symbols.proofs.Chosen.{IsBest, best_found, best_only}
use Rattle.plcr_symbols.proofs.NameEnds.{name_found, name_mapped, name_only}

then_some : {A B : Type 0} (f : A → Option B) (o : Option A) (y : B) → option_and_then f o ≡ Some y → (x : A) × (o ≡ Some x) × (f x ≡ Some y)
then_some f None y h = cc
then_some f (Some x) y h = (x, refl, h)

greatest_is : (image : Image) (table : Symtab) (address : ℕ) (rows : List (List ℕ)) (i : ℕ) (u : SymbolAt) → IsBest (candidate image table address) rows i u
    → IsGreatest image address rows i × (said_by image table (row_of rows i) ≡ u)
greatest_is image table address rows i u best =
    let here = candidate_is image table address (row_of rows i) u best.here in
    let same : address_in image (row_of rows i) ≡ u.value = ap (λ (x : SymbolAt). x.value) here.1 in (
      record {
        inside = best.inside;
        here = here.0;
        greatest = λ k lt c. omega (arith, best.greatest k (said_by image table (row_of rows k)) lt (candidate_from image table address (row_of rows k) c), same);
        first = λ k lt c. omega (arith, best.first k (said_by image table (row_of rows k)) lt (candidate_from image table address (row_of rows k) c), same);
      },
      here.1,
    )

best_is : (image : Image) (table : Symtab) (address : ℕ) (rows : List (List ℕ)) (i : ℕ) → IsGreatest image address rows i
    → IsBest (candidate image table address) rows i (said_by image table (row_of rows i))
best_is image table address rows i h = record {
  inside = h.inside;
  here = candidate_from image table address (row_of rows i) h.here;
  greatest = λ k v lt e.
      let c = candidate_is image table address (row_of rows k) v e in
      omega (arith, h.greatest k lt c.0, ap (λ (x : SymbolAt). x.value) c.1);
  first = λ k v lt e.
      let c = candidate_is image table address (row_of rows k) v e in
      omega (arith, h.first k lt c.0, ap (λ (x : SymbolAt). x.value) c.1);
}

pub symbol_found : (m : Contents) (image : Image) (address : ℕ) (s : SymbolAt) → symbol_at m image address ≡ Some s → IsSymbol m image address s
unfolding symbol_at symbol_by
symbol_found m image address s h =
    let t = then_some (λ (table : Symtab). symbol_by m image table address) image.symtab s h in
    let table = t.0 in
    let rows = rows_of m table in
    let u = then_some (named m) (greatest (candidate image table address) rows) s t.2 in
    let best = best_found (candidate image table address) rows u.0 u.1 in
    let row = greatest_is image table address rows best.0 u.0 best.1 in
    let name = name_found m image table (row_of rows best.0) s (ap (named m) row.1 ∙ u.2) in
    record { table = table; index = best.0; has = t.1; row = row.0; value = name.0; name = name.1 }

pub symbol_only : (m : Contents) (image : Image) (address : ℕ) (s : SymbolAt) → IsSymbol m image address s → symbol_at m image address ≡ Some s
unfolding symbol_at symbol_by
symbol_only m image address s h =
    let rows = rows_of m h.table in
    let said = said_by image h.table (row_of rows h.index) in
    let best : greatest (candidate image h.table address) rows ≡ Some said =
    best_only (candidate image h.table address) rows h.index said (best_is image h.table address rows h.index h.row) in
    ap (option_and_then (λ (table : Symtab). symbol_by m image table address)) h.has
    ∙ ap (option_and_then (named m)) best
    ∙ name_only m image h.table (row_of rows h.index) s h.value h.name

pub symbol_named : (m : Contents) (image : Image) (address : ℕ) (s : SymbolAt) → symbol_at m image address ≡ Some s → IsSome (bytes_at m s.name_at s.name_len) × (s.name_len ≤ SYMBOL_NAME_BYTES)
symbol_named m image address s h =
    let is = symbol_found m image address s h in
    (name_mapped m is.table (row_of (rows_of m is.table) is.index) s.name_at s.name_len is.name, is.name.short)

-- rows from an index on
record AreFrom (m : Contents) (start left index : ℕ) (rows : List (List ℕ)) : Type 0 where
  pub within : length rows ≤ left
  pub each : (k : ℕ) → k < length rows → row_at m start (index + k) ≡ Some (row_of rows k)
  pub last : length rows < left → row_at m start (index + length rows) ≡ None

one_before : (m : Contents) (start left index : ℕ) (row : List ℕ) (rows : List (List ℕ)) → row_at m start index ≡ Some row → AreFrom m start left (index + 1) rows → AreFrom m start (suc left) index (row ∷ rows)
one_before m start left index row rows is more = record {
  within = omega (arith, more.within);
  each = all;
  last = λ lt.
      let place : (index + 1) + length rows ≡ index + suc (length rows) = omega arith in
      subst (λ (i : ℕ). row_at m start i ≡ None) place (more.last (omega (arith, lt)));
}
  where
    all : (k : ℕ) → k < suc (length rows) → row_at m start (index + k) ≡ Some (row_of (row ∷ rows) k)
    all zero lt =
        let here : index ≡ index + 0 = omega arith in
        subst (λ (i : ℕ). row_at m start i ≡ Some row) here is
    all (suc k) lt =
        let place : (index + 1) + k ≡ index + suc k = omega arith in
        subst (λ (i : ℕ). row_at m start i ≡ Some (row_of rows k)) place (more.each k (omega (arith, lt)))

next_are : (m : Contents) (start left index : ℕ) (rows : List (List ℕ)) (o : Option (List ℕ)) → row_at m start index ≡ o → AreFrom m start left (index + 1) rows → AreFrom m start (suc left) index (row_before o rows)
next_are m start left index rows None is more =
    let here : index ≡ index + 0 = omega arith in
    record { within = omega arith; each = λ k lt. absurd (omega (arith, lt)); last = λ lt. subst (λ (i : ℕ). row_at m start i ≡ None) here is }
next_are m start left index rows (Some row) is more = one_before m start left index row rows is more

rows_are : (m : Contents) (start left index : ℕ) → AreFrom m start left index (rows_from m start left index)
rows_are m start zero index = record { within = omega arith; each = λ k lt. absurd (omega (arith, lt)); last = λ lt. absurd (omega (arith, lt)) }
rows_are m start (suc left) index = next_are m start left index (rows_from m start left (index + 1)) (row_at m start index) refl (rows_are m start left (index + 1))

pub rows_of_table : (m : Contents) (table : Symtab) → AreRows m table (rows_of m table)
rows_of_table m table =
    let all = rows_are m table.rows_at table.rows 0 in
    let start = λ (k : ℕ). let e : 0 + k ≡ k = omega arith in e in
    record {
      within = all.within;
      each = λ k lt. ap (row_at m table.rows_at) (sym (start k)) ∙ all.each k lt;
      last = λ lt. ap (row_at m table.rows_at) (sym (start (length (rows_of m table)))) ∙ all.last lt;
    }
