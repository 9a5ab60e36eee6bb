-- One field of a message at a time.
use Rattle.std.proofs.Common.{◌≡◌, ◌≢◌, ℕ, zero, suc, ◌≤◌, ◌==◌, List, [], ◌∷◌, ◌++◌, length, Some, None, Result, Ok, Err, Bool, cond, true, false, refl, sym, ap, ◌∙◌, append-nil, arith}
use Rattle.std.proofs.lemmas.Bool.{ne_eqb}
use Rattle.plcr_base.proofs.Plain.{is_equal}
use Rattle.plcr_wire.specs.Message.{Value, Field, value_bytes}
use Rattle.plcr_wire.specs.Reading.{field_at, number_at}
use Rattle.plcr_wire.specs.declared.fields.WireFault.{WireFault}
use Rattle.plcr_decode.specs.Fields.{front_of, fields_within, fields_of, messages_in, together, joined, last_or, is_there, has}
use Rattle.plcr_wire.proofs.Smaller.{field_smaller}
use Rattle.plcr_wire.proofs.AnyEnd.{field_any}

-- what follows a field may be listed by any number of steps that is enough
front_same : (r : Result (Field × List ℕ) WireFault) (f g : List ℕ → List Field) → ((x : Field × List ℕ) → r ≡ Ok x → f x.1 ≡ g x.1) → front_of f r ≡ front_of g r
front_same (Ok x) f g h = ap (λ l. x.0 ∷ l) (h x refl)
front_same (Err e) f g h = refl

none_at : (end : ℕ) (more : List ℕ → List Field) → front_of more (field_at end []) ≡ []
unfolding field_at number_at
none_at end more = refl

fields_enough : (j k : ℕ) (bytes : List ℕ) → length bytes ≤ j → length bytes ≤ k → fields_within j bytes ≡ fields_within k bytes
fields_enough zero zero bytes p q = refl
fields_enough zero (suc k) [] p q = sym (none_at 0 (fields_within k))
fields_enough zero (suc k) (b ∷ bs) p q = absurd (omega arith)
fields_enough (suc j) zero [] p q = none_at 0 (fields_within j)
fields_enough (suc j) zero (b ∷ bs) p q = absurd (omega arith)
fields_enough (suc j) (suc k) bytes p q =
    front_same (field_at (length bytes) bytes) (fields_within j) (fields_within k) (λ x h.
    let small = field_smaller (length bytes) bytes x h in
    fields_enough j k x.1 (omega arith) (omega arith))

pub fields_none : fields_of [] ≡ []
unfolding fields_of
fields_none = refl

pub fields_front : (bytes : List ℕ) → fields_of bytes ≡ front_of fields_of (field_at (length bytes) bytes)
unfolding fields_of
fields_front [] = sym (none_at 0 (λ bytes. fields_within (length bytes) bytes))
fields_front (b ∷ bs) =
    front_same (field_at (length (b ∷ bs)) (b ∷ bs)) (fields_within (length bs)) (λ bytes. fields_within (length bytes) bytes) (λ x h.
    let small = field_smaller (length (b ∷ bs)) (b ∷ bs) x h in
    fields_enough (length bs) (length x.1) x.1 (omega arith) (omega arith))

pub fields_step : (bytes : List ℕ) (x : Field × List ℕ) → field_at (length bytes) bytes ≡ Ok x → fields_of bytes ≡ x.0 ∷ fields_of x.1
fields_step bytes x h = fields_front bytes ∙ ap (front_of fields_of) h

-- whatever place its message ends at
pub fields_any : (end : ℕ) (bytes : List ℕ) (x : Field × List ℕ) → field_at end bytes ≡ Ok x → fields_of bytes ≡ x.0 ∷ fields_of x.1
fields_any end bytes x h = fields_step bytes x (field_any end (length bytes) bytes x h)

pub fields_fault : (bytes : List ℕ) (e : WireFault) → field_at (length bytes) bytes ≡ Err e → fields_of bytes ≡ []
fields_fault bytes e h = fields_front bytes ∙ ap (front_of fields_of) h

pub fields_alone : (bytes : List ℕ) → fields_of bytes ++ joined 0 (fields_of []) ≡ fields_of bytes
fields_alone bytes = rw fields_none (append-nil (fields_of bytes))

together_step : (b : Bool) (bytes : List ℕ) (others : List (List Field)) → together (cond b (fields_of bytes ∷ others) others) ≡ fields_of (cond b bytes []) ++ together others
together_step true bytes others = refl
together_step false bytes others = rw fields_none refl

-- the parts after those of one field
pub joined_step : (n : ℕ) (f : Field) (fs : List Field) → joined n (f ∷ fs) ≡ fields_of (cond (f.number == n) (value_bytes f.value) []) ++ joined n fs
joined_step n f fs = together_step (f.number == n) (value_bytes f.value) (messages_in n fs)

-- the fields left, once a part is done and the next begins
pub next_part : (n : ℕ) (f : Field) (part outer rest new : List ℕ) → fields_of part ≡ [] → fields_of outer ≡ f ∷ fields_of rest → new ≡ cond (f.number == n) (value_bytes f.value) []
    → fields_of new ++ joined n (fields_of rest) ≡ fields_of part ++ joined n (fields_of outer)
next_part n f part outer rest new done begins e =
    rw (done, begins) (ap (λ l. fields_of l ++ joined n (fields_of rest)) e ∙ sym (joined_step n f (fields_of rest)))

chosen_some : (b : Bool) (v w : Value) → cond b (Some v) (Some w) ≡ Some (cond b v w)
chosen_some true v w = refl
chosen_some false v w = refl

-- once there, a value stays
stays : (v : Value) (n : ℕ) (fs : List Field) → is_there (last_or (Some v) n fs) ≡ true
stays v n [] = refl
stays v n (f ∷ fs) = ap (λ o. is_there (last_or o n fs)) (chosen_some (f.number == n) f.value v) ∙ stays (cond (f.number == n) f.value v) n fs

has_either : (b : Bool) (v : Value) (n : ℕ) (fs : List Field) → is_there (last_or (cond b (Some v) None) n fs) ≡ cond b true (has n fs)
has_either true v n fs = stays v n fs
has_either false v n fs = refl

-- whether a field is there shows at the first one that is
pub has_step : (n : ℕ) (f : Field) (fs : List Field) → has n (f ∷ fs) ≡ cond (f.number == n) true (has n fs)
has_step n f fs = has_either (f.number == n) f.value n fs

pub has_here : (n : ℕ) (f : Field) (fs : List Field) → f.number ≡ n → has n (f ∷ fs) ≡ true
has_here n f fs h = has_step n f fs ∙ ap (λ (b : Bool). cond b true (has n fs)) (is_equal f.number n h)

-- a field of another number holds no part of a message
pub messages_step : (n : ℕ) (f : Field) (fs : List Field) → f.number ≢ n → joined n (f ∷ fs) ≡ joined n fs
messages_step n f fs h = rw (ne_eqb f.number n h) refl

none_either : (b : Bool) (n : ℕ) (f : Field) (fs : List Field) → (f.number == n) ≡ b → cond b true (has n fs) ≡ false → (has n fs ≡ false → messages_in n fs ≡ []) → messages_in n (f ∷ fs) ≡ []
none_either true n f fs e h more = absurd (cc)
none_either false n f fs e h more = ap (λ (b : Bool). cond b (fields_of (value_bytes f.value) ∷ messages_in n fs) (messages_in n fs)) e ∙ more h

-- where no field of a number stands, no message of it does
pub none_there : (n : ℕ) (fs : List Field) → has n fs ≡ false → messages_in n fs ≡ []
none_there n [] h = refl
none_there n (f ∷ fs) h = none_either (f.number == n) n f fs refl (sym (has_step n f fs) ∙ h) (none_there n fs)
