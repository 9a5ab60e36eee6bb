-- How the answers to sorted lookups come back to the rows that they were made for.
use Rattle.std.proofs.Common.{◌≡◌, inl, inr, ℕ, suc, ◌+◌, ◌<◌, ◌≤◌, List, [], ◌∷◌, ◌++◌, length, map, drop, get_or, slice_set, Option, refl, sym, ap, subst, ◌∙◌, append_assoc, length-append, arith}
use Rattle.std.specs.Prelude.{All}
use Rattle.std.specs.List.{Contains, enumerate_from}
use Rattle.std.specs.List.Sorted.{IsPermutation}
use Rattle.std.proofs.Math.Seq.{map-set_same}
use Rattle.std.proofs.lemmas.Bool.{cases_eq}
use Rattle.std.proofs.lemmas.List.{length-map, get_or-map, get_or_default, same_lists, get_or-set_same, get_or-set_other}
use Rattle.std.proofs.lemmas.List.FromFn.{length-enumerate_from, get_or-enumerate_from}
use Rattle.std.proofs.lemmas.List.Elements.{All-from_get_or, All-get_or, Contains-get_or}
use Rattle.std.proofs.lemmas.List.Sorted.{All-permutation, Contains-permutation}
use Rattle.plcr_macho.specs.Images.{Listed}
use Rattle.plcr_symbols.specs.declared.symbol.SymbolAt.{SymbolAt}
use Rattle.plcr_encode.specs.declared.frame_rows.FrameRow.{FrameRow}
use Rattle.plcr_encode.specs.declared.lookups.Lookup.{Lookup}
use Rattle.plcr_encode.specs.inner.Lookups.{IsWithin, answer, answered, lookup_for, lookups_for}
use Rattle.plcr_encode.specs.inner.FrameRows.{IsPlaced}
use Rattle.plcr_encode.proofs.Rows.{numbered_step}
use Rattle.plcr_encode.proofs.Told.{no_row}
use Rattle.plcr_encode.proofs.Runs.{no_lookup}

-- the lookups of the rows from a number on
abbrev lookups_from : List FrameRow → ℕ → List Lookup
lookups_from rows i = map lookup_for (enumerate_from i (drop i rows))

next_lookup : (rows : List FrameRow) (i : ℕ) → i < length rows → lookups_from rows i ≡ lookup_for (i, get_or rows i no_row) ∷ lookups_from rows (i + 1)
next_lookup rows i lt = ap (map lookup_for) (numbered_step rows i no_row lt)

lookups_length : (rows : List FrameRow) → length (lookups_for rows) ≡ length rows
lookups_length rows = length-map (enumerate_from 0 rows) lookup_for ∙ length-enumerate_from 0 rows

-- one more lookup is listed
pub lookups_more : (rows : List FrameRow) (old new : List Lookup) (i : ℕ) → i < length rows → old ++ lookups_from rows i ≡ lookups_for rows
    → new ≡ old ++ lookup_for (i, get_or rows i no_row) ∷ [] → new ++ lookups_from rows (i + 1) ≡ lookups_for rows
lookups_more rows old new i lt before is =
    ap (λ (l : List Lookup). l ++ lookups_from rows (i + 1)) is
    ∙ append_assoc old (lookup_for (i, get_or rows i no_row) ∷ []) (lookups_from rows (i + 1))
    ∙ ap (λ (l : List Lookup). old ++ l) (sym (next_lookup rows i lt))
    ∙ before

-- there is room for it where there is for as many lookups as rows
pub lookups_fit : (rows : List FrameRow) (old : List Lookup) (i : ℕ) → i < length rows → old ++ lookups_from rows i ≡ lookups_for rows → length old < length rows
lookups_fit rows old i lt before =
    let sum : length old + length (lookups_from rows i) ≡ length (lookups_for rows) = sym (length-append old (lookups_from rows i)) ∙ ap length before in
    let next : length (lookups_from rows i) ≡ suc (length (lookups_from rows (i + 1))) = ap length (next_lookup rows i lt) in
    let all = lookups_length rows in
    omega (arith, sum, next, all)

-- the lookup at a place is that of the row there
lookups_at : (rows : List FrameRow) (i : ℕ) → i < length rows → get_or (lookups_for rows) i no_lookup ≡ lookup_for (i, get_or rows i no_row)
lookups_at rows i lt =
    let numbered : List (ℕ × FrameRow) = enumerate_from 0 rows in
    let size : length numbered ≡ length rows = length-enumerate_from 0 rows in
    let number : 0 + i ≡ i = omega arith in
    get_or-map lookup_for numbered i (0, no_row) no_lookup (omega (arith, size, lt))
    ∙ ap lookup_for (get_or-enumerate_from 0 rows i (0, no_row) lt)
    ∙ ap (λ (n : ℕ). lookup_for (n, get_or rows i no_row)) number

-- a lookup is that of one of the rows
pub record IsFor (rows : List FrameRow) (lookup : Lookup) : Type 0 where
  pub inside : lookup.frame < length rows
  pub is : lookup ≡ lookup_for (lookup.frame, get_or rows lookup.frame no_row)

are_for : (rows : List FrameRow) → All (IsFor rows) (lookups_for rows)
are_for rows = All-from_get_or (IsFor rows) (lookups_for rows) no_lookup (λ i lt.
    let inside : i < length rows = omega (arith, lt, lookups_length rows) in
    subst (λ (l : Lookup). IsFor rows l) (sym (lookups_at rows i inside)) (record { inside = inside; is = refl }))

pub sorted_for : (rows : List FrameRow) (lookups : List Lookup) → IsPermutation (lookups_for rows) lookups → All (IsFor rows) lookups
sorted_for rows lookups sorted = All-permutation (IsFor rows) (lookups_for rows) lookups sorted (are_for rows)

pub within_for : (listed : List Listed) (rows : List FrameRow) (lookups : List Lookup) → IsPermutation (lookups_for rows) lookups → All (IsPlaced listed) rows → All (IsWithin listed) lookups
within_for listed rows lookups sorted placed k d lt =
    let own = All-get_or (IsFor rows) lookups k d lt (sorted_for rows lookups sorted) in
    subst (λ (l : Lookup). IsWithin listed l) (sym own.is) (placed (get_or lookups k d).frame no_row own.inside)

-- and each row has its lookup
covered : (rows : List FrameRow) (lookups : List Lookup) → IsPermutation (lookups_for rows) lookups → (p : ℕ) → p < length rows
    → (k : ℕ) × (k < length lookups) × ((get_or lookups k no_lookup).frame ≡ p)
covered rows lookups sorted p lt =
    let own : Lookup = lookup_for (p, get_or rows p no_row) in
    let here = subst (λ (l : Lookup). Contains (lookups_for rows) l) (lookups_at rows p lt) (Contains-get_or (lookups_for rows) p no_lookup (omega (arith, lt, lookups_length rows))) in
    let there = Contains-permutation (lookups_for rows) lookups own sorted here in
    (there.0, there.1, ap (λ (l : Lookup). l.frame) (get_or_default lookups there.0 no_lookup own there.1 ∙ there.2))

module _ (symbol : Option ℕ → ℕ → Option SymbolAt) (lookups : List Lookup) (first : List FrameRow) where
  -- the first lookups have given their answers, and nothing else was changed
  pub record SpreadUpTo (rows : List FrameRow) (i : ℕ) : Type 0 where
    pub same : map (answered symbol) rows ≡ map (answered symbol) first
    pub done : (k : ℕ) → k < i → answered symbol (get_or rows (get_or lookups k no_lookup).frame no_row) ≡ get_or rows (get_or lookups k no_lookup).frame no_row

  pub spread_start : SpreadUpTo first 0
  spread_start = record { same = refl; done = λ k lt. absurd (omega (arith, lt)) }

  pub spread_length : (rows : List FrameRow) (i : ℕ) → SpreadUpTo rows i → length rows ≡ length first
  spread_length rows i so_far = sym (length-map rows (answered symbol)) ∙ ap (λ (l : List FrameRow). length l) so_far.same ∙ length-map first (answered symbol)

  -- one more answer is given
  pub spread_more : (rows : List FrameRow) (i : ℕ) (found : Option SymbolAt) → IsPermutation (lookups_for first) lookups → i < length lookups → SpreadUpTo rows i
      → found ≡ answer symbol (get_or lookups i no_lookup)
      → SpreadUpTo (slice_set rows (get_or lookups i no_lookup).frame (record (get_or rows (get_or lookups i no_lookup).frame no_row) { symbol = found })) (i + 1)
  spread_more rows i found sorted lt so_far is =
      let l : Lookup = get_or lookups i no_lookup in
      let f : ℕ = l.frame in
      let own = All-get_or (IsFor first) lookups i no_lookup lt (sorted_for first lookups sorted) in
      let size = spread_length rows i so_far in
      let old : FrameRow = get_or rows f no_row in
      let new : FrameRow = record old { symbol = found } in
      let was : answered symbol old ≡ answered symbol (get_or first f no_row) =
      sym (get_or-map (answered symbol) rows f no_row no_row (omega (arith, own.inside, size)))
      ∙ ap (λ (rs : List FrameRow). get_or rs f no_row) so_far.same
      ∙ get_or-map (answered symbol) first f no_row no_row own.inside in
      let position : l.position ≡ old.position = ap (λ (x : Lookup). x.position) own.is ∙ sym (ap (λ (r : FrameRow). r.position) was) in
      let address : l.address ≡ old.lookup = ap (λ (x : Lookup). x.address) own.is ∙ sym (ap (λ (r : FrameRow). r.lookup) was) in
      let answers : symbol old.position old.lookup ≡ found = sym (is ∙ (λ k. symbol (position k) (address k))) in
      let settled : answered symbol new ≡ new = λ k. record old { symbol = answers k } in
      let rows' : List FrameRow = slice_set rows f new in
      let here : get_or rows' f no_row ≡ new = get_or-set_same rows f new no_row (omega (arith, own.inside, size)) in
      record {
        same = map-set_same (answered symbol) rows f new no_row refl ∙ so_far.same;
        done = λ k below.
            let g : ℕ = (get_or lookups k no_lookup).frame in
            elim (cases_eq g f) [
              | inl at ↦ subst (λ (r : FrameRow). answered symbol r ≡ r) (sym (ap (λ (n : ℕ). get_or rows' n no_row) at ∙ here)) settled
              | inr not ↦
                  let other : k < i = elim (cases_eq k i) [
                    | inl e ↦ absurd (not (ap (λ (n : ℕ). (get_or lookups n no_lookup).frame) e))
                    | inr ne ↦ omega (arith, below)
                  ] in
                  subst (λ (r : FrameRow). answered symbol r ≡ r) (sym (get_or-set_other rows f g new no_row not)) (so_far.done k other)
            ];
      }

  -- all answers are given
  pub spread_end : (rows : List FrameRow) (i : ℕ) → IsPermutation (lookups_for first) lookups → length lookups ≤ i → SpreadUpTo rows i → rows ≡ map (answered symbol) first
  spread_end rows i sorted le so_far =
      let size = spread_length rows i so_far in
      let settled : rows ≡ map (answered symbol) rows =
      same_lists rows (map (answered symbol) rows) (sym (length-map rows (answered symbol))) (λ k d lt.
      let own = covered first lookups sorted k (omega (arith, lt, size)) in
      let done = so_far.done own.0 (omega (arith, own.1, le)) in
      let at : answered symbol (get_or rows k no_row) ≡ get_or rows k no_row = subst (λ (n : ℕ). answered symbol (get_or rows n no_row) ≡ get_or rows n no_row) own.2 done in
      get_or_default rows k d no_row lt ∙ sym at ∙ sym (get_or-map (answered symbol) rows k no_row d lt)) in
      settled ∙ so_far.same
