-- What isn't above an address lies in its gap, or isn't above the address before.
use Rattle.std.proofs.Common.{◌≡◌, ◌≤◌, ◌<◌, ◌⊎◌, ℕ, inl, inr, Bool, true, false, nat_le, nat_lt, List, [], ◌∷◌, Option, Some, None, refl, sym, ap, ◌∙◌, arith}
use Rattle.std.specs.Prelude.{◌&&◌, if◌then◌else◌}
use Rattle.std.specs.Option.{option_or}
use Rattle.std.proofs.lemmas.Bool.{cases_lt, le-leb, lt-leb, lt-ltb, le-ltb}
use Rattle.std.proofs.lemmas.Bool.Decides.{nat_tests}
use Rattle.plcr_symbols.specs.declared.symbol.SymbolAt.{SymbolAt}
use Rattle.plcr_symbols.specs.Symbols.{greater, greatest, where_its_address}

one_of : (a b : Option SymbolAt) (u : SymbolAt) → greater a b ≡ Some u → (a ≡ Some u) ⊎ (b ≡ Some u)
one_of None b u h = inr h
one_of (Some s) None u h = inl h
one_of (Some s) (Some t) u h = chosen (nat_lt s.value t.value) h
  where
    chosen : (test : Bool) → (if test then Some t else Some s) ≡ Some u → (Some s ≡ Some u) ⊎ (Some t ≡ Some u)
    chosen true h = inr h
    chosen false h = inl h

passes : (test : ℕ → Bool) (o : Option SymbolAt) (u : SymbolAt) → where_its_address test o ≡ Some u → test u.value ≡ true
passes test None u h = cc
passes test (Some s) u h = chosen (test s.value) refl h
  where
    chosen : (b : Bool) → test s.value ≡ b → (if b then Some s else None) ≡ Some u → test u.value ≡ true
    chosen true is h = let same : s ≡ u = cc in ap (λ (x : SymbolAt). test x.value) (sym same) ∙ is
    chosen false is h = cc

-- the greatest passes the test that each of them passes
pub greatest_passes : (test : ℕ → Bool) (symbol : List ℕ → Option SymbolAt) (rows : List (List ℕ)) (u : SymbolAt) → greatest (λ row. where_its_address test (symbol row)) rows ≡ Some u → test u.value ≡ true
greatest_passes test symbol [] u h = cc
greatest_passes test symbol (row ∷ rows) u h =
    elim (one_of (where_its_address test (symbol row)) (greatest (λ r. where_its_address test (symbol r)) rows) u h) [
      | inl here ↦ passes test (symbol row) u here
      | inr there ↦ greatest_passes test symbol rows u there
    ]

-- one symbol before others, of which `up` is above an address and `down` isn't
low_first : (low : ℕ) (s : SymbolAt) (up down : Option SymbolAt) → s.value ≤ low → ((u : SymbolAt) → up ≡ Some u → low < u.value) → greater (Some s) (option_or up down) ≡ option_or up (greater (Some s) down)
low_first low s None down le above = refl
low_first low s (Some u) down le above =
    let less : nat_lt s.value u.value ≡ true = lt-ltb s.value u.value (omega (arith, le, above u refl)) in
    rw less refl

up_first : (low : ℕ) (s : SymbolAt) (up down : Option SymbolAt) → low < s.value → ((d : SymbolAt) → down ≡ Some d → d.value ≤ low) → greater (Some s) (option_or up down) ≡ option_or (greater (Some s) up) down
up_first low s None None lt below = refl
up_first low s None (Some d) lt below =
    let less : nat_lt s.value d.value ≡ false = le-ltb s.value d.value (omega (arith, lt, below d refl)) in
    rw less refl
up_first low s (Some u) down lt below = chosen (nat_lt s.value u.value)
  where
    chosen : (test : Bool) → (if test then Some u else Some s) ≡ option_or (if test then Some u else Some s) down
    chosen true = refl
    chosen false = refl

abbrev above : ℕ → ℕ → ℕ → Bool
above low high a = nat_lt low a && nat_le a high

abbrev by : ℕ → ℕ → Bool
by high a = nat_le a high

above_is : (low high a : ℕ) → above low high a ≡ true → low < a
above_is low high a h = grind (arith, nat_tests)

by_is : (low a : ℕ) → by low a ≡ true → a ≤ low
by_is low a h = grind (arith, nat_tests)

split_here : (low high : ℕ) (o up down : Option SymbolAt) → low ≤ high → ((u : SymbolAt) → up ≡ Some u → low < u.value) → ((d : SymbolAt) → down ≡ Some d → d.value ≤ low)
    → greater (where_its_address (by high) o) (option_or up down) ≡ option_or (greater (where_its_address (above low high) o) up) (greater (where_its_address (by low) o) down)
split_here low high None up down le over under = refl
split_here low high (Some s) up down le over under =
    elim (cases_lt low s.value) [
      | inl lt ↦
          let more : nat_lt low s.value ≡ true = lt-ltb low s.value lt in
          let not_low : nat_le s.value low ≡ false = lt-leb s.value low lt in
          elim (cases_lt high s.value) [
            | inl past ↦
                let not_high : nat_le s.value high ≡ false = lt-leb s.value high past in
                rw (more, not_low, not_high) refl
            | inr within ↦
                let is_high : nat_le s.value high ≡ true = le-leb s.value high within in
                rw (more, not_low, is_high) (up_first low s up down lt under)
          ]
      | inr at ↦
          let not_more : nat_lt low s.value ≡ false = le-ltb low s.value at in
          let is_low : nat_le s.value low ≡ true = le-leb s.value low at in
          let is_high : nat_le s.value high ≡ true = le-leb s.value high (omega (arith, at, le)) in
          rw (not_more, is_low, is_high) (low_first low s up down at over)
    ]

-- the greatest that isn't above `high` is the greatest above `low`, or where there is none the greatest that isn't above `low`
pub split : (low high : ℕ) (symbol : List ℕ → Option SymbolAt) (rows : List (List ℕ)) → low ≤ high
    → greatest (λ row. where_its_address (by high) (symbol row)) rows
    ≡ option_or (greatest (λ row. where_its_address (above low high) (symbol row)) rows) (greatest (λ row. where_its_address (by low) (symbol row)) rows)
split low high symbol [] le = refl
split low high symbol (row ∷ rows) le =
    ap (greater (where_its_address (by high) (symbol row))) (split low high symbol rows le)
    ∙ split_here low high (symbol row) (greatest (λ r. where_its_address (above low high) (symbol r)) rows) (greatest (λ r. where_its_address (by low) (symbol r)) rows) le
    (λ u h. above_is low high u.value (greatest_passes (above low high) symbol rows u h))
    (λ d h. by_is low d.value (greatest_passes (by low) symbol rows d h))
