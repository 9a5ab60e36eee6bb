-- What the greatest of the symbols of rows is.
use Rattle.std.proofs.Common.{◌≡◌, ◌≤◌, ◌<◌, ℕ, zero, suc, inl, inr, Bool, true, false, nat_lt, List, [], ◌∷◌, length, Option, Some, None, refl, sym, ap, ◌∙◌, arith}
use Rattle.std.specs.Prelude.{if◌then◌else◌}
use Rattle.std.proofs.lemmas.Bool.{cases_lt, lt-ltb, le-ltb}
use Rattle.plcr_symbols.specs.declared.symbol.SymbolAt.{SymbolAt}
use Rattle.plcr_symbols.specs.Symbols.{greater, greatest}
use Rattle.plcr_symbols.specs.Laws.{row_of}

-- the symbol is that of the row at an index, which is the greatest, the first on a tie
pub record IsBest (f : List ℕ → Option SymbolAt) (rows : List (List ℕ)) (i : ℕ) (u : SymbolAt) : Type 0 where
  pub inside : i < length rows
  pub here : f (row_of rows i) ≡ Some u
  pub greatest : (k : ℕ) (v : SymbolAt) → k < length rows → f (row_of rows k) ≡ Some v → v.value ≤ u.value
  pub first : (k : ℕ) (v : SymbolAt) → k < i → f (row_of rows k) ≡ Some v → v.value < u.value

both_none : (a b : Option SymbolAt) → greater a b ≡ None → (a ≡ None) × (b ≡ None)
both_none None b h = (refl, h)
both_none (Some s) None h = cc
both_none (Some s) (Some t) h = chosen (nat_lt s.value t.value) h
  where
    chosen : (test : Bool) → (if test then Some t else Some s) ≡ None → (Some s ≡ None) × (Some t ≡ None)
    chosen true h = absurd cc
    chosen false h = absurd cc

none_best : (f : List ℕ → Option SymbolAt) (rows : List (List ℕ)) → greatest f rows ≡ None → (k : ℕ) → k < length rows → f (row_of rows k) ≡ None
none_best f [] h k lt = absurd (omega (arith, lt))
none_best f (row ∷ rows) h zero lt = (both_none (f row) (greatest f rows) h).0
none_best f (row ∷ rows) h (suc k) lt = none_best f rows (both_none (f row) (greatest f rows) h).1 k (omega (arith, lt))

-- a row before others: the best is its symbol, or that of the others
here_best : (f : List ℕ → Option SymbolAt) (row : List ℕ) (rows : List (List ℕ)) (s : SymbolAt) → f row ≡ Some s → ((k : ℕ) (v : SymbolAt) → k < length rows → f (row_of rows k) ≡ Some v → v.value ≤ s.value)
    → IsBest f (row ∷ rows) 0 s
here_best f row rows s is least = record {
  inside = omega arith;
  here = is;
  greatest = all;
  first = λ k v lt h. absurd (omega (arith, lt));
}
  where
    all : (k : ℕ) (v : SymbolAt) → k < length (row ∷ rows) → f (row_of (row ∷ rows) k) ≡ Some v → v.value ≤ s.value
    all zero v lt h = let same : s ≡ v = cc in omega (arith, ap (λ (x : SymbolAt). x.value) same)
    all (suc k) v lt h = least k v (omega (arith, lt)) h

there_best : (f : List ℕ → Option SymbolAt) (row : List ℕ) (rows : List (List ℕ)) (i : ℕ) (t : SymbolAt) → IsBest f rows i t → ((s : SymbolAt) → f row ≡ Some s → s.value < t.value) → IsBest f (row ∷ rows) (suc i) t
there_best f row rows i t best less = record {
  inside = omega (arith, best.inside);
  here = best.here;
  greatest = all;
  first = before;
}
  where
    all : (k : ℕ) (v : SymbolAt) → k < length (row ∷ rows) → f (row_of (row ∷ rows) k) ≡ Some v → v.value ≤ t.value
    all zero v lt h = omega (arith, less v h)
    all (suc k) v lt h = best.greatest k v (omega (arith, lt)) h

    before : (k : ℕ) (v : SymbolAt) → k < suc i → f (row_of (row ∷ rows) k) ≡ Some v → v.value < t.value
    before zero v lt h = less v h
    before (suc k) v lt h = best.first k v (omega (arith, lt)) h

best_more : (f : List ℕ → Option SymbolAt) (row : List ℕ) (rows : List (List ℕ)) (a b : Option SymbolAt) (u : SymbolAt) → f row ≡ a → greater a b ≡ Some u
    → ((v : SymbolAt) → b ≡ Some v → (i : ℕ) × IsBest f rows i v) → (b ≡ None → (k : ℕ) → k < length rows → f (row_of rows k) ≡ None) → (i : ℕ) × IsBest f (row ∷ rows) i u
best_more f row rows None None u is h some none = cc
best_more f row rows None (Some t) u is h some none =
    let best = some u h in
    (suc best.0, there_best f row rows best.0 u best.1 (λ s e. let no : ◌≡◌ {A = Option SymbolAt} None (Some s) = sym is ∙ e in cc))
best_more f row rows (Some s) None u is h some none =
    (0, here_best f row rows u (is ∙ h) (λ k v lt e. let no : ◌≡◌ {A = Option SymbolAt} None (Some v) = sym (none refl k lt) ∙ e in cc))
best_more f row rows (Some s) (Some t) u is h some none =
    elim (cases_lt s.value t.value) [
      | inl lt ↦
          let test : nat_lt s.value t.value ≡ true = lt-ltb s.value t.value lt in
          let later : ◌≡◌ {A = Option SymbolAt} (Some t) (Some u) = rw test at h in
          let same : t ≡ u = cc in
          let best = some u later in
          (suc best.0, there_best f row rows best.0 u best.1 (λ v e. let one : s ≡ v = cc in omega (arith, lt, ap (λ (x : SymbolAt). x.value) one, ap (λ (x : SymbolAt). x.value) same)))
      | inr ge ↦
          let test : nat_lt s.value t.value ≡ false = le-ltb s.value t.value ge in
          let first : ◌≡◌ {A = Option SymbolAt} (Some s) (Some u) = rw test at h in
          let same : s ≡ u = cc in
          let best = some t refl in
          (0, here_best f row rows u (is ∙ first) (λ k v lt e. omega (arith, best.1.greatest k v lt e, ge, ap (λ (x : SymbolAt). x.value) same)))
    ]

pub best_found : (f : List ℕ → Option SymbolAt) (rows : List (List ℕ)) (u : SymbolAt) → greatest f rows ≡ Some u → (i : ℕ) × IsBest f rows i u
best_found f [] u h = cc
best_found f (row ∷ rows) u h = best_more f row rows (f row) (greatest f rows) u refl h (λ v e. best_found f rows v e) (none_best f rows)

pub best_only : (f : List ℕ → Option SymbolAt) (rows : List (List ℕ)) (i : ℕ) (u : SymbolAt) → IsBest f rows i u → greatest f rows ≡ Some u
best_only f rows i u best = decide (greatest f rows) refl
  where
    same_row : (j : ℕ) (w : SymbolAt) → IsBest f rows j w → i ≡ j
    same_row j w other =
        let up = best.greatest j w other.inside other.here in
        let down = other.greatest i u best.inside best.here in
        elim (cases_lt i j) [
          | inl lt ↦ absurd (omega (arith, other.first i u lt best.here, up, down))
          | inr ge ↦
              elim (cases_lt j i) [
                | inl lt ↦ absurd (omega (arith, best.first j w lt other.here, up, down))
                | inr le ↦ omega (arith, ge, le)
              ]
        ]

    decide : (o : Option SymbolAt) → greatest f rows ≡ o → greatest f rows ≡ Some u
    decide None is =
        let no : ◌≡◌ {A = Option SymbolAt} None (Some u) = sym (none_best f rows is i best.inside) ∙ best.here in
        cc
    decide (Some w) is =
        let other = best_found f rows w is in
        let there : f (row_of rows i) ≡ Some w = ap (λ (k : ℕ). f (row_of rows k)) (same_row other.0 w other.1) ∙ other.1.here in
        is ∙ sym there ∙ best.here
