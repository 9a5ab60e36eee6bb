-- Values kept under their numbers.
use Rattle.std.proofs.Common.{◌≡◌, ◌≢◌, ℕ, zero, suc, ◌+◌, ◌<◌, ◌≤◌, ◌==◌, List, [], ◌∷◌, length, Bool, true, false, cond, Some, None, set, get_or, replicate, refl, sym, ap, subst, ◌∙◌, append-nil, arith}
use Rattle.std.proofs.lemmas.Bool.Decides.{nat_tests}
use Rattle.std.proofs.lemmas.List.{get_or-set_other}
use Rattle.std.proofs.lemmas.Grind.{get_or-set_at}
use Rattle.plcr_wire.specs.Message.{Field, value_bytes}
use Rattle.plcr_wire.specs.Reading.{value_slice}
use Rattle.plcr_wire.specs.declared.slices.ValueSlice.{ValueSlice}
use Rattle.plcr_decode.specs.Fields.{fields_of, messages_in, together, joined, last_or, last_value}
use Rattle.plcr_decode.specs.declared.found.Kept.{Kept}
use Rattle.plcr_decode.specs.inner.Lasts.{nothing, shown, again, KeepsOne, KeepsUpTo, Keeps}

pub equal : (m n : ℕ) → (m == n) ≡ true → n ≡ m
equal m n h = grind (arith, nat_tests)

pub other : (m n : ℕ) → (m == n) ≡ false → n ≢ m
other m n h = grind (arith, nat_tests)

set_either : (b : Bool) (kept : List Kept) (i n : ℕ) (c : ValueSlice) → (i == n) ≡ b → i < length kept
    → get_or (set kept i (again (get_or kept i nothing) c)) n nothing ≡ cond b (again (get_or kept n nothing) c) (get_or kept n nothing)
set_either true kept i n c e h =
    get_or-set_at kept i n (again (get_or kept i nothing) c) nothing (equal i n e) h ∙ ap (λ j. again (get_or kept j nothing) c) (sym (equal i n e))
set_either false kept i n c e h = get_or-set_other kept i n (again (get_or kept i nothing) c) nothing (other i n e)

pub kept_new : (kept : List Kept) (i : ℕ) (c : ValueSlice) → i < length kept → (n : ℕ) → n < 10
    → get_or (set kept i (again (get_or kept i nothing) c)) n nothing ≡ cond (i == n) (again (get_or kept n nothing) c) (get_or kept n nothing)
kept_new kept i c h n small = set_either (i == n) kept i n c refl h

pub past : (m n : ℕ) → 10 ≤ m → n < 10 → (m == n) ≡ false
past m n h small = grind (arith, nat_tests)

pub kept_same : (kept : List Kept) (i : ℕ) (c : ValueSlice) → 10 ≤ i → (n : ℕ) → n < 10
    → get_or kept n nothing ≡ cond (i == n) (again (get_or kept n nothing) c) (get_or kept n nothing)
kept_same kept i c h n small = rw (past i n h small) refl

pub nothing_at : (k n : ℕ) → get_or (replicate k nothing) n nothing ≡ nothing
nothing_at zero n = refl
nothing_at (suc k) zero = refl
nothing_at (suc k) (suc n) = nothing_at k n

-- nothing is kept yet
keeps_none : (n : ℕ) (fs : List Field) → KeepsOne nothing n fs fs
keeps_none n fs = record {
  value = refl;
  count = omega arith;
  none = λ _. refl;
  only = λ e. absurd (omega (arith, e));
}

pub keeps_start : (kept : List Kept) (fs : List Field) → ((n : ℕ) → n < 10 → get_or kept n nothing ≡ nothing) → KeepsUpTo kept fs fs
keeps_start kept fs h n small = subst (λ k. KeepsOne k n fs fs) (sym (h n small)) (keeps_none n fs)

-- one more value of this number
some_more : (n : ℕ) → (suc n == 0) ≡ false
some_more n = grind (arith, nat_tests)

one_here : (k : Kept) (c : ValueSlice) (n : ℕ) (whole fs : List Field) → (value : last_or (Some (value_slice c)) n fs ≡ last_value n whole)
    → (count : k.count + suc (length (messages_in n fs)) ≡ length (messages_in n whole))
    → (k.count ≡ 0 → messages_in n whole ≡ fields_of (value_bytes (value_slice c)) ∷ messages_in n fs) → KeepsOne (again k c) n whole fs
one_here k c n whole fs value count none = record {
  value = ap (λ (x : Bool). last_or (cond x None (Some (value_slice c))) n fs) (some_more k.count) ∙ value;
  count = let e = count in omega (arith, e);
  none = λ e. absurd (omega (arith, e));
  only = λ e. none (omega (arith, e));
}

one_more : (b : Bool) (k : Kept) (c : ValueSlice) (f : Field) (n : ℕ) (whole fs : List Field) → (f.number == n) ≡ b → f.value ≡ value_slice c
    → KeepsOne k n whole (f ∷ fs) → KeepsOne (cond b (again k c) k) n whole fs
one_more true k c f n whole fs e v h =
    let here : cond (f.number == n) (fields_of (value_bytes f.value) ∷ messages_in n fs) (messages_in n fs) ≡ fields_of (value_bytes (value_slice c)) ∷ messages_in n fs =
    ap (λ (x : Bool). cond x (fields_of (value_bytes f.value) ∷ messages_in n fs) (messages_in n fs)) e ∙ ap (λ x. fields_of (value_bytes x) ∷ messages_in n fs) v
    in
    one_here k c n whole fs
    (sym (ap (λ (x : Bool). last_or (cond x (Some f.value) (shown k)) n fs) e ∙ ap (λ x. last_or (Some x) n fs) v) ∙ h.value)
    (ap (λ l. k.count + length l) (sym here) ∙ h.count)
    (λ z. h.none z ∙ here)
one_more false k c f n whole fs e v h =
    let here : cond (f.number == n) (fields_of (value_bytes f.value) ∷ messages_in n fs) (messages_in n fs) ≡ messages_in n fs =
    ap (λ (x : Bool). cond x (fields_of (value_bytes f.value) ∷ messages_in n fs) (messages_in n fs)) e
    in
    record {
      value = sym (ap (λ (x : Bool). last_or (cond x (Some f.value) (shown k)) n fs) e) ∙ h.value;
      count = ap (λ l. k.count + length l) (sym here) ∙ h.count;
      none = λ z. h.none z ∙ here;
      only = λ z. h.only z ∙ ap (λ l. fields_of (value_bytes (value_slice k.value)) ∷ l) here;
    }

-- what is kept, once one more field is passed
pub keeps_more : (kept new : List Kept) (c : ValueSlice) (f : Field) (whole fs gs : List Field) → f.value ≡ value_slice c
    → ((n : ℕ) → n < 10 → get_or new n nothing ≡ cond (f.number == n) (again (get_or kept n nothing) c) (get_or kept n nothing))
    → gs ≡ f ∷ fs → KeepsUpTo kept whole gs → KeepsUpTo new whole fs
keeps_more kept new c f whole fs gs v put e before n small =
    subst (λ k. KeepsOne k n whole fs) (sym (put n small))
    (one_more (f.number == n) (get_or kept n nothing) c f n whole fs refl v (subst (λ gs. KeepsOne (get_or kept n nothing) n whole gs) e (before n small)))

-- so many at most are kept under each number
abbrev pub Few : List Kept → ℕ → Type 0
Few kept most = (n : ℕ) → n < 10 → (get_or kept n nothing).count ≤ most

few_either : (b : Bool) (k : Kept) (c : ValueSlice) (most : ℕ) → k.count ≤ most → (cond b (again k c) k).count ≤ suc most
few_either true k c most h = omega (arith, h)
few_either false k c most h = omega (arith, h)

pub few_more : (kept new : List Kept) (c : ValueSlice) (i most more : ℕ)
    → ((n : ℕ) → n < 10 → get_or new n nothing ≡ cond (i == n) (again (get_or kept n nothing) c) (get_or kept n nothing))
    → most < more → Few kept most → Few new more
few_more kept new c i most more put less before n small =
    let few : (cond (i == n) (again (get_or kept n nothing) c) (get_or kept n nothing)).count ≤ suc most = few_either (i == n) (get_or kept n nothing) c most (before n small) in
    let same : (get_or new n nothing).count ≡ (cond (i == n) (again (get_or kept n nothing) c) (get_or kept n nothing)).count = ap (λ k. k.count) (put n small) in
    omega (arith, few, same, less)

-- all fields are passed
pub keeps_all : (kept : List Kept) (whole rest : List Field) → rest ≡ [] → KeepsUpTo kept whole rest → Keeps kept whole
keeps_all kept whole rest e before n small = subst (λ fs. KeepsOne (get_or kept n nothing) n whole fs) e (before n small)

-- their number is known
pub count_all : (kept : List Kept) (n : ℕ) (whole : List Field) → Keeps kept whole → n < 10 → (get_or kept n nothing).count ≡ length (messages_in n whole)
count_all kept n whole keeps small =
    let count : (get_or kept n nothing).count + 0 ≡ length (messages_in n whole) = (keeps n small).count in
    omega (arith, count)

-- the only message of a number is all of it
pub joined_once : (kept : List Kept) (n : ℕ) (whole : List Field) → Keeps kept whole → n < 10 → (get_or kept n nothing).count ≡ 1
    → fields_of (value_bytes (value_slice (get_or kept n nothing).value)) ≡ joined n whole
joined_once kept n whole keeps small e =
    sym (ap together ((keeps n small).only e) ∙ append-nil (fields_of (value_bytes (value_slice (get_or kept n nothing).value))))
