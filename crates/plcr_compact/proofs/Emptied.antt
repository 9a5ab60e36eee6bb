-- Zeros of sections.
use Rattle.std.proofs.Common.{◌≡◌, ◌≤◌, ◌<◌, ℕ, zero, suc, ◌+◌, ◌-◌, ◌*◌, ◌/◌, ◌%◌, ◌^◌, Bool, true, false, ◌||◌, replicate, Option, Some, Ok, refl, ap, subst, ◌∙◌, arith}
use Rattle.std.specs.Prelude.{nat_lt}
use Rattle.plcr_base.specs.Chains.{result_map}
use Rattle.plcr_memory.specs.Regions.{Contents, byte_at, bytes_at, cons_known}
use Rattle.plcr_leb128.specs.Cells.{Source, number_in, piece_bytes}
use Rattle.plcr_leb128.proofs.Fixed.{piece_run}
use Rattle.plcr_compact.specs.declared.entry_kind.EntryKind.TheVariants as kinds
use Rattle.plcr_compact.specs.declared.layout.TheConstants.{INDEX_ENTRY}
use Rattle.plcr_compact.specs.declared.section.Table.{Table}
use Rattle.plcr_compact.specs.Sections.{index_entry, word}
use Rattle.plcr_compact.specs.inner.Searches.{empty, entry_by, size_by}
use Rattle.plcr_compact.proofs.Searched.{falls_on, rest_in, rest_more}

-- bytes each of which is zero
zero_bytes : (m : Contents) (at n : ℕ) → ((k : ℕ) → k < n → byte_at m (at + k) ≡ Some 0) → bytes_at m at n ≡ Some (replicate n 0)
zero_bytes m at zero h = refl
zero_bytes m at (suc n) h =
    let here : at + 0 ≡ at = omega arith in
    let first : byte_at m at ≡ Some 0 = subst (λ (a : ℕ). byte_at m a ≡ Some 0) here (h 0 (omega arith)) in
    let rest = zero_bytes m (at + 1) n (λ k lt.
    let next : at + suc k ≡ (at + 1) + k = omega arith in
    subst (λ (a : ℕ). byte_at m a ≡ Some 0) next (h (suc k) (omega arith))) in
    ap (λ (o : Option ℕ). cons_known o (bytes_at m (at + 1) n)) first ∙ ap (cons_known (Some 0)) rest

-- zeros behind a region's bytes of the file are those of a piece
pub piece_zeros : (m : Contents) (start size place many : ℕ) → place < size → many ≤ size - place → ((start + place) % 2 ^ 64) + many ≤ 2 ^ 64
    → ((k : ℕ) → k < many → byte_at m (((start + place) % 2 ^ 64) + k) ≡ Some 0)
    → (k n : ℕ) → k + n ≤ many → piece_bytes m start size (place + k) n ≡ Some (replicate n 0)
piece_zeros m start size place many within few ends each k zero le = piece_run m start size 0 (place + k) (omega (arith, within, few, le))
piece_zeros m start size place many within few ends each k (suc n) le =
    let a = (start + place) % 2 ^ 64 in
    let same : (start + (place + k)) % 2 ^ 64 ≡ a + k = omega (arith, ends, le) in
    piece_run m start size (suc n) (place + k) (omega (arith, within, few, le)) ∙ ap (λ (x : ℕ). bytes_at m x (suc n)) same
    ∙ zero_bytes m (a + k) (suc n) (λ j lt.
    let there : a + (k + j) ≡ (a + k) + j = omega arith in
    subst (λ (x : ℕ). byte_at m x ≡ Some 0) there (each (k + j) (omega (arith, lt, le))))

zero_word : (section : Source) (place : ℕ) → section place 4 ≡ Some (replicate 4 0) → word section place ≡ Ok 0
unfolding word number_in
zero_word section place h = rw h refl

pub zero_entry : (section : Source) (place : ℕ) → ((k n : ℕ) → 0 < n → k + n ≤ INDEX_ENTRY → section (place + k) n ≡ Some (replicate n 0)) → index_entry section place ≡ Ok empty
unfolding index_entry
zero_entry section place h =
    rw (zero_word section (place + 0) (h 0 4 (omega arith) (omega arith)), zero_word section (place + 4) (h 4 4 (omega arith) (omega arith)), zero_word section (place + 8) (h 8 4 (omega arith) (omega arith))) refl

-- so many entries of many, one behind the other
pub rest_empty : (section : Source) (table : Table) (index many : ℕ) (fell : Bool) (before : ℕ) → 0 < many → index + many ≤ table.count
    → ((k : ℕ) → k < many → entry_by kinds.Index section (table.at + size_by kinds.Index * (index + k)) ≡ Ok empty)
    → result_map (falls_on fell before) (rest_in section kinds.Index table index) ≡ result_map (falls_on (fell || nat_lt 0 before) 0) (rest_in section kinds.Index table (index + many))
rest_empty section table index zero fell before some few each = absurd (omega arith)
rest_empty section table index (suc zero) fell before some few each =
    let here : index + 0 ≡ index = omega arith in
    rest_more section kinds.Index table index fell before empty (omega arith)
    (subst (λ (i : ℕ). entry_by kinds.Index section (table.at + size_by kinds.Index * i) ≡ Ok empty) here (each 0 (omega arith)))
rest_empty section table index (suc (suc many)) fell before some few each =
    let here : index + 0 ≡ index = omega arith in
    let next : (index + 1) + suc many ≡ index + suc (suc many) = omega arith in
    rest_more section kinds.Index table index fell before empty (omega arith)
    (subst (λ (i : ℕ). entry_by kinds.Index section (table.at + size_by kinds.Index * i) ≡ Ok empty) here (each 0 (omega arith)))
    ∙ rest_empty section table (index + 1) (suc many) (fell || nat_lt 0 before) 0 (omega arith) (omega (arith, few))
    (λ k lt.
    let there : index + suc k ≡ (index + 1) + k = omega arith in
    subst (λ (i : ℕ). entry_by kinds.Index section (table.at + size_by kinds.Index * i) ≡ Ok empty) there (each (suc k) (omega (arith, lt))))
    ∙ ap (λ (b : Bool). result_map (falls_on b 0) (rest_in section kinds.Index table ((index + 1) + suc many))) (or_false (fell || nat_lt 0 before))
    ∙ ap (λ (i : ℕ). result_map (falls_on (fell || nat_lt 0 before) 0) (rest_in section kinds.Index table i)) next
  where
    or_false : (b : Bool) → (b || nat_lt 0 0) ≡ b
    or_false true = refl
    or_false false = refl

-- an entry among those whose bytes are known to be zero
pub zeros_from : (section : Source) (table : Table) (index k place many : ℕ) → place ≡ table.at + size_by kinds.Index * index → k < many / INDEX_ENTRY
    → ((j n : ℕ) → 0 < n → j + n ≤ many → section (place + j) n ≡ Some (replicate n 0))
    → entry_by kinds.Index section (table.at + size_by kinds.Index * (index + k)) ≡ Ok empty
unfolding entry_by size_by
zeros_from section table index k place many is within each =
    let there : table.at + INDEX_ENTRY * (index + k) ≡ place + INDEX_ENTRY * k = omega arith in
    ap (index_entry section) there
    ∙ zero_entry section (place + INDEX_ENTRY * k) (λ j n some le.
    let here : place + (INDEX_ENTRY * k + j) ≡ (place + INDEX_ENTRY * k) + j = omega arith in
    subst (λ (p : ℕ). section p n ≡ Some (replicate n 0)) here (each (INDEX_ENTRY * k + j) n some (omega (arith, within, le))))
