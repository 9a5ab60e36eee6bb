-- Messages in the fields of a number, one field after the other.
use Rattle.std.proofs.Common.{◌≡◌, ◌≢◌, ℕ, ◌+◌, ◌≤◌, ◌==◌, List, [], ◌∷◌, ◌++◌, length, map, Bool, true, false, cond, refl, sym, ap, ◌∙◌, length-append, arith}
use Rattle.std.proofs.lemmas.List.{nil_from_length, map-append, append_assoc}
use Rattle.std.proofs.lemmas.Bool.{ne_eqb}
use Rattle.plcr_wire.specs.Message.{Field, value_bytes}
use Rattle.plcr_decode.specs.Fields.{fields_of, messages_in}
use Rattle.plcr_base.proofs.Plain.{is_equal}

chosen : {A : Type 0} (b c : Bool) (x y : A) → b ≡ c → cond b x y ≡ cond c x y
chosen b c x y e = ap (λ (b : Bool). cond b x y) e

-- a field of this number holds one
pub row_here : (n : ℕ) (f : Field) → f.number ≡ n → messages_in n (f ∷ []) ≡ fields_of (value_bytes f.value) ∷ []
row_here n f h = chosen (f.number == n) true (fields_of (value_bytes f.value) ∷ []) [] (is_equal f.number n h)

-- one of another number holds none
pub row_other : (n : ℕ) (f : Field) → f.number ≢ n → messages_in n (f ∷ []) ≡ []
row_other n f h = chosen (f.number == n) false (fields_of (value_bytes f.value) ∷ []) [] (ne_eqb f.number n h)

either : (b : Bool) (m : List Field) (ms : List (List Field)) → cond b (m ∷ ms) ms ≡ cond b (m ∷ []) [] ++ ms
either true m ms = refl
either false m ms = refl

-- those of the first field, and then those of the others
pub rows_step : (n : ℕ) (f : Field) (fs : List Field) → messages_in n (f ∷ fs) ≡ messages_in n (f ∷ []) ++ messages_in n fs
rows_step n f fs = either (f.number == n) (fields_of (value_bytes f.value)) (messages_in n fs)

rows_count : (n : ℕ) (f : Field) (fs : List Field) → length (messages_in n (f ∷ fs)) ≡ length (messages_in n (f ∷ [])) + length (messages_in n fs)
rows_count n f fs = rw (rows_step n f fs) (length-append (messages_in n (f ∷ [])) (messages_in n fs))

-- what is built once the first of these fields is passed
pub rows_more : {A : Type 0} (value : List Field → A) (n : ℕ) (f : Field) (fs gs : List Field) (old new whole : List A) → gs ≡ f ∷ fs
    → new ≡ old ++ map value (messages_in n (f ∷ [])) → old ++ map value (messages_in n gs) ≡ whole → new ++ map value (messages_in n fs) ≡ whole
rows_more value n f fs gs old new whole e put before =
    let parts : map value (messages_in n gs) ≡ map value (messages_in n (f ∷ [])) ++ map value (messages_in n fs) =
    ap (λ gs. map value (messages_in n gs)) e ∙ ap (map value) (rows_step n f fs) ∙ map-append value (messages_in n (f ∷ [])) (messages_in n fs)
    in
    ap (λ l. l ++ map value (messages_in n fs)) put
    ∙ append_assoc old (map value (messages_in n (f ∷ []))) (map value (messages_in n fs))
    ∙ ap (λ l. old ++ l) (sym parts) ∙ before

-- there is room for that of the first field
pub room_now : (n k most : ℕ) (f : Field) (fs gs : List Field) → gs ≡ f ∷ fs → k + length (messages_in n gs) ≤ most → k + length (messages_in n (f ∷ [])) ≤ most
room_now n k most f fs gs e room =
    let all : length (messages_in n gs) ≡ length (messages_in n (f ∷ [])) + length (messages_in n fs) = ap (λ gs. length (messages_in n gs)) e ∙ rows_count n f fs in
    omega (arith, all, room)

-- and then for those of the others
pub room_more : (n k now most : ℕ) (f : Field) (fs gs : List Field) → gs ≡ f ∷ fs → now ≡ k + length (messages_in n (f ∷ []))
    → k + length (messages_in n gs) ≤ most → now + length (messages_in n fs) ≤ most
room_more n k now most f fs gs e put room =
    let all : length (messages_in n gs) ≡ length (messages_in n (f ∷ [])) + length (messages_in n fs) = ap (λ gs. length (messages_in n gs)) e ∙ rows_count n f fs in
    omega (arith, all, put, room)

-- of none the list is empty
pub none_counted : (n k : ℕ) (fs : List Field) → k ≡ length (messages_in n fs) → k ≡ 0 → messages_in n fs ≡ []
none_counted n k fs h z = nil_from_length (messages_in n fs) (sym h ∙ z)
