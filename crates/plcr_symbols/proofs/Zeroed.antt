-- Rows of zeros, which are of no symbol.
use Rattle.std.proofs.Common.{◌≡◌, ◌≤◌, ◌<◌, ℕ, zero, suc, ◌+◌, ◌-◌, ◌*◌, ◌^◌, ◌/◌, List, Option, Some, None, length, refl, sym, ap, subst, ◌∙◌, arith}
use Rattle.std.proofs.Math.ListN.{replicate}
use Rattle.std.proofs.lemmas.List.{get_or-replicate, length-replicate}
use Rattle.plcr_memory.specs.Regions.{Contents, byte_at, bytes_at}
use Rattle.plcr_memory.proofs.Ranges.{all_stand}
use Rattle.plcr_loader.specs.declared.nlist_64.TheConstants.{LENGTH}
use Rattle.plcr_loader.specs.Fields.{number}
use Rattle.plcr_macho.specs.declared.image.Symtab.{Symtab}
use Rattle.plcr_macho.specs.declared.image.Image.{Image}
use Rattle.plcr_macho.specs.Sources.{plus}
use Rattle.plcr_symbols.specs.declared.symbol.SymbolAt.{SymbolAt}
use Rattle.plcr_symbols.specs.Symbols.{defined_in, greater, greatest, is_defined, row_at, row_before, rows_from, where_its_address}
use Rattle.plcr_symbols.specs.inner.Gaps.{gap_symbol, gathered, in_gap}
use Rattle.plcr_symbols.proofs.Addresses.{next_row}

-- so many zeros stand from an address on
abbrev pub AreZeros : Contents → ℕ → ℕ → Type 0
AreZeros m a n = (j : ℕ) → j < n → byte_at m (a + j) ≡ Some 0

zeros : List ℕ
zeros = replicate LENGTH 0

undefined : (image : Image) (table : Symtab) → defined_in image table zeros ≡ None
unfolding zeros defined_in is_defined number
undefined image table = refl

zeros_row : (m : Contents) (start index : ℕ) → AreZeros m (plus start (LENGTH * index)) LENGTH → row_at m start index ≡ Some zeros
unfolding zeros row_at
zeros_row m start index h =
    let a = plus start (LENGTH * index) in
    let size : length {A = ℕ} (replicate LENGTH 0) ≡ LENGTH = length-replicate {A = ℕ} LENGTH 0 in
    subst (λ (n : ℕ). bytes_at m a n ≡ Some (replicate LENGTH 0)) size
    (all_stand m a (replicate LENGTH 0) (λ k lt. h k (omega (arith, lt, size)) ∙ ap (λ (x : ℕ). Some x) (sym (get_or-replicate LENGTH k 0 0 (omega (arith, lt, size))))))

-- rows of zeros before others
skip : (m : Contents) (image : Image) (table : Symtab) (addresses : List ℕ) (k n more index : ℕ)
    → (0 < n → AreZeros m (plus table.rows_at (LENGTH * index)) (LENGTH * n) × (plus table.rows_at (LENGTH * index) + LENGTH * n ≤ 2 ^ 64))
    → gathered m image table addresses (n + more) index k ≡ gathered m image table addresses more (index + n) k
skip m image table addresses k zero more index h =
    let all : 0 + more ≡ more = omega arith in
    let here : index ≡ index + 0 = omega arith in
    ap (λ (x : ℕ). gathered m image table addresses x index k) all ∙ ap (λ (x : ℕ). gathered m image table addresses more x k) here
skip m image table addresses k (suc n) more index h =
    let a = plus table.rows_at (LENGTH * index) in
    let f = gap_symbol image table addresses k in
    let now = h (omega arith) in
    let total : suc n + more ≡ suc (n + more) = omega arith in
    let place : (index + 1) + n ≡ index + suc n = omega arith in
    let row : row_at m table.rows_at index ≡ Some zeros = zeros_row m table.rows_at index (λ j lt. now.0 j (omega (arith, lt))) in
    let none : f zeros ≡ None = ap (where_its_address (in_gap addresses k)) (undefined image table) in
    ap (λ (x : ℕ). gathered m image table addresses x index k) total
    ∙ ap (λ (o : Option (List ℕ)). greatest f (row_before o (rows_from m table.rows_at (n + more) (index + 1)))) row
    ∙ ap (λ (o : Option SymbolAt). greater o (gathered m image table addresses (n + more) (index + 1) k)) none
    ∙ skip m image table addresses k n more (index + 1)
    (λ some.
    let next : plus table.rows_at (LENGTH * (index + 1)) ≡ a + LENGTH = next_row table.rows_at index (omega (arith, now.1, some)) in (
      λ j lt.
          let there : (a + LENGTH) + j ≡ a + (LENGTH + j) = omega arith in
          ap (λ (x : ℕ). byte_at m (x + j)) next ∙ ap (byte_at m) there ∙ now.0 (LENGTH + j) (omega (arith, lt)),
      omega (arith, next, now.1, some),
    ))
    ∙ ap (λ (x : ℕ). gathered m image table addresses more x k) place

pub none_skipped : (m : Contents) (image : Image) (table : Symtab) (addresses : List ℕ) (k at size rows left index : ℕ)
    → at ≡ plus table.rows_at (LENGTH * index) → AreZeros m at size → rows ≤ size / LENGTH → rows ≤ left → at + LENGTH * rows ≤ 2 ^ 64
    → gathered m image table addresses left index k ≡ gathered m image table addresses (left - rows) (index + rows) k
none_skipped m image table addresses k at size rows left index is h few fit within =
    let all : left ≡ rows + (left - rows) = omega (arith, fit) in
    ap (λ (x : ℕ). gathered m image table addresses x index k) all
    ∙ skip m image table addresses k rows (left - rows) index
    (λ some. (
      λ j lt. ap (λ (x : ℕ). byte_at m (x + j)) (sym is) ∙ h j (omega (arith, lt, few)),
      omega (arith, is, within),
    ))

pub none_passed : (m : Contents) (image : Image) (table : Symtab) (addresses : List ℕ) (k left index : ℕ)
    → gathered m image table addresses left index k ≡ gathered m image table addresses (left - 0) (index + 0) k
none_passed m image table addresses k left index =
    let all : left ≡ left - 0 = omega arith in
    let here : index ≡ index + 0 = omega arith in
    ap (λ (x : ℕ). gathered m image table addresses x index k) all ∙ ap (λ (x : ℕ). gathered m image table addresses (left - 0) x k) here
