-- What is read as a field is its spelling, long or short as its varints may be, and whatever spells a field is read as it.
use Rattle.std.proofs.Common.{◌≡◌, inl, inr, ℕ, zero, suc, ◌+◌, ◌-◌, ◌*◌, ◌/◌, ◌%◌, ◌^◌, ◌<◌, ◌||◌, List, [], ◌∷◌, ◌++◌, length, take, drop, Option, Some, None, Ok, Err, Bool, true, false, cond, nat_lt, refl, sym, ap, subst, ◌∙◌, length-append, length-take, take-append-drop, arith}
use Rattle.std.proofs.lemmas.Bool.{cases_lt}
use Rattle.std.proofs.lemmas.Bool.Decides.{nat_tests}
use Rattle.std.proofs.lemmas.List.{take_at, drop_at}
use Rattle.std.proofs.lemmas.Nat.{le_bytes_4, le_bytes_8}
use Rattle.std.specs.Int.{w32, w64, to_le_bytes}
use Rattle.plcr_base.specs.Bytes.{IsBytes}
use Rattle.plcr_base.specs.Chains.{◌>>=◌}
use Rattle.plcr_base.proofs.Chained.{bind_ok}
use Rattle.plcr_wire.specs.Wires.{wire_number}
use Rattle.plcr_wire.specs.Message.{Value, Number, Fixed64, Bytes, Fixed32, Field, value_wire, wire_type, FitsValue, FitsField}
use Rattle.plcr_wire.specs.Spelled.{StartsWithNumber, StartsWithValue, StartsWithField}
use Rattle.plcr_wire.specs.Reading.{number_at, fixed_at, text_at, value_at, field_at, tag_wire, wire_named}
use Rattle.plcr_wire.specs.declared.fields.WireFault.TheVariants.{Truncated}
use Rattle.plcr_wire.specs.declared.wires.Wire.{Wire}
use Rattle.plcr_wire.specs.declared.wires.Wire.TheVariants as wires
use Rattle.plcr_wire.proofs.Varints.{below, above}
use Rattle.plcr_wire.proofs.Places.{ok_is, field_steps}
use Rattle.plcr_wire.proofs.ReadVarints.{number_was, number_reads}
use Rattle.plcr_wire.proofs.ReadAgain.{fixed32_again, fixed64_again, wire_again, wire_small}

behind_bytes : (front rest : List ℕ) → IsBytes (front ++ rest) → IsBytes rest
behind_bytes [] rest h = h
behind_bytes (x ∷ front) rest h = behind_bytes front rest (λ i. h (suc i))

-- what is left after a number that was read
rest_bytes : (bytes : List ℕ) (n : ℕ) (rest : List ℕ) (most : ℕ) → IsBytes bytes → StartsWithNumber bytes n rest most → IsBytes rest
rest_bytes bytes n rest most h s = behind_bytes s.front rest (subst IsBytes s.parts h)

take_bytes : (n : ℕ) (xs : List ℕ) → IsBytes xs → IsBytes (take n xs)
take_bytes zero xs h = λ i. omega arith
take_bytes (suc n) [] h = h
take_bytes (suc n) (x ∷ xs) h = elim [ zero ↦ h 0 | suc i ↦ take_bytes n xs (λ i. h (suc i)) i ]

named_some : (n : ℕ) (w : Wire) → wire_named n ≡ Some w → n ≡ wire_number w
named_some n wires.Number h = grind (arith, nat_tests)
named_some n wires.Fixed64 h = grind (arith, nat_tests)
named_some n wires.Bytes h = grind (arith, nat_tests)
named_some n wires.Fixed32 h = grind (arith, nat_tests)

tag_some : (b : Bool) (o : Option Wire) (w : Wire) → cond b None o ≡ Some w → o ≡ Some w
tag_some true o w h = absurd (cc)
tag_some false o w h = h

-- a tag is its field's number and its wire type's
tag_was : (t : ℕ) (w : Wire) → tag_wire t ≡ Some w → t ≡ t / 8 * 8 + wire_number w
tag_was t w h = let low = named_some (t % 8) w (tag_some (nat_lt t 8 || nat_lt (2 ^ 32 - 1) t) (wire_named (t % 8)) w h) in omega (arith, low)

fixed64_was : (end : ℕ) (bytes : List ℕ) (n : ℕ × List ℕ) → IsBytes bytes → fixed_at w64 end bytes ≡ Ok n → bytes ≡ to_le_bytes w64 n.0 ++ n.1
unfolding fixed_at
fixed64_was end bytes n fits h = elim (cases_lt (length bytes) 8) [
  | inl few ↦ absurd (let e = sym (below (length bytes) 8 _ _ few) ∙ h in cc)
  | inr many ↦
      let e = ok_is _ _ (sym (above (length bytes) 8 _ _ many) ∙ h) in
      let whole : length (take 8 bytes) ≡ 8 = let l = length-take 8 bytes in omega (arith, l) in
      let front : to_le_bytes w64 n.0 ≡ take 8 bytes = le_bytes_8 (take 8 bytes) n.0 whole (take_bytes 8 bytes fits) (sym (ap (λ (m : ℕ × List ℕ). m.0) e)) in
      sym (ap (λ l. l ++ n.1) front ∙ ap (λ l. take 8 bytes ++ l) (sym (ap (λ (m : ℕ × List ℕ). m.1) e)) ∙ take-append-drop 8 bytes)
]

fixed32_was : (end : ℕ) (bytes : List ℕ) (n : ℕ × List ℕ) → IsBytes bytes → fixed_at w32 end bytes ≡ Ok n → bytes ≡ to_le_bytes w32 n.0 ++ n.1
unfolding fixed_at
fixed32_was end bytes n fits h = elim (cases_lt (length bytes) 4) [
  | inl few ↦ absurd (let e = sym (below (length bytes) 4 _ _ few) ∙ h in cc)
  | inr many ↦
      let e = ok_is _ _ (sym (above (length bytes) 4 _ _ many) ∙ h) in
      let whole : length (take 4 bytes) ≡ 4 = let l = length-take 4 bytes in omega (arith, l) in
      let front : to_le_bytes w32 n.0 ≡ take 4 bytes = le_bytes_4 (take 4 bytes) n.0 whole (take_bytes 4 bytes fits) (sym (ap (λ (m : ℕ × List ℕ). m.0) e)) in
      sym (ap (λ l. l ++ n.1) front ∙ ap (λ l. take 4 bytes ++ l) (sym (ap (λ (m : ℕ × List ℕ). m.1) e)) ∙ take-append-drop 4 bytes)
]

text_was : (end : ℕ) (bytes : List ℕ) (t : List ℕ × List ℕ) → IsBytes bytes → text_at end bytes ≡ Ok t → StartsWithNumber bytes (length t.0) (t.0 ++ t.1) 10
unfolding text_at
text_was end bytes t fits h =
    let n = bind_ok (number_at end bytes) (λ n. cond (nat_lt (length n.1) n.0) (Err (Truncated end)) (Ok (take n.0 n.1, drop n.0 n.1))) t h in
    let was = number_was end n.0.0 bytes n.0.1 fits n.1 in
    elim (cases_lt (length n.0.1) n.0.0) [
      | inl few ↦ absurd (let e = sym (below (length n.0.1) n.0.0 (Err (Truncated end)) (Ok (take n.0.0 n.0.1, drop n.0.0 n.0.1)) few) ∙ n.2 in cc)
      | inr many ↦
          let e = ok_is _ _ (sym (above (length n.0.1) n.0.0 (Err (Truncated end)) (Ok (take n.0.0 n.0.1, drop n.0.0 n.0.1)) many) ∙ n.2) in
          let len : length (take n.0.0 n.0.1) ≡ n.0.0 = let l = length-take n.0.0 n.0.1 in omega (arith, l) in
          subst (λ (t : List ℕ × List ℕ). StartsWithNumber bytes (length t.0) (t.0 ++ t.1) 10) e
          (rw (len, take-append-drop n.0.0 n.0.1) was)
    ]

-- a value of this wire type was read
record WasValue (bytes : List ℕ) (w : Wire) (v : Value × List ℕ) : Type 0 where
  pub wire : value_wire v.0 ≡ w
  pub value : StartsWithValue bytes v.0 v.1

value_was : (end : ℕ) (w : Wire) (bytes : List ℕ) (v : Value × List ℕ) → IsBytes bytes → value_at end w bytes ≡ Ok v → WasValue bytes w v
unfolding value_at
value_was end wires.Number bytes v fits h =
    let n = bind_ok (number_at end bytes) (λ n. Ok (Number n.0, n.1)) v h in
    subst (WasValue bytes wires.Number) (ok_is _ _ n.2) (record { wire = refl; value = number_was end n.0.0 bytes n.0.1 fits n.1 })
value_was end wires.Fixed64 bytes v fits h =
    let n = bind_ok (fixed_at w64 end bytes) (λ n. Ok (Fixed64 n.0, n.1)) v h in
    subst (WasValue bytes wires.Fixed64) (ok_is _ _ n.2) (record { wire = refl; value = fixed64_was end bytes n.0 fits n.1 })
value_was end wires.Bytes bytes v fits h =
    let t = bind_ok (text_at end bytes) (λ t. Ok (Bytes t.0, t.1)) v h in
    subst (WasValue bytes wires.Bytes) (ok_is _ _ t.2) (record { wire = refl; value = text_was end bytes t.0 fits t.1 })
value_was end wires.Fixed32 bytes v fits h =
    let n = bind_ok (fixed_at w32 end bytes) (λ n. Ok (Fixed32 n.0, n.1)) v h in
    subst (WasValue bytes wires.Fixed32) (ok_is _ _ n.2) (record { wire = refl; value = fixed32_was end bytes n.0 fits n.1 })

pub field_was : (end : ℕ) (bytes : List ℕ) (f : Field) (rest : List ℕ) → IsBytes bytes → field_at end bytes ≡ Ok (f, rest) → StartsWithField bytes f rest
field_was end bytes f rest fits h =
    let s = field_steps end bytes (f, rest) h in
    let tag = number_was end s.tag.0 bytes s.tag.1 fits s.tag_read in
    let value = value_was end s.wire s.tag.1 s.value (rest_bytes bytes s.tag.0 s.tag.1 10 fits tag) s.value_read in
    let number : s.tag.0 ≡ s.tag.0 / 8 * 8 + wire_type s.value.0 = tag_was s.tag.0 s.wire s.wire_is ∙ ap (λ w. s.tag.0 / 8 * 8 + wire_number w) (sym value.wire) in
    subst (λ (g : Field × List ℕ). StartsWithField bytes g.0 g.1) s.whole
    (record { behind = s.tag.1; tag = subst (λ t. StartsWithNumber bytes t s.tag.1 10) number tag; value = value.value })

-- a number is read, however long it is spelled
starts_read : (end : ℕ) (bytes : List ℕ) (n : ℕ) (rest : List ℕ) → n < 2 ^ 64 → StartsWithNumber bytes n rest 10 → number_at end bytes ≡ Ok (n, rest)
starts_read end bytes n rest h s = rw (s.parts) (number_reads end n s.front rest s.spelled s.short h)

text_reads : (end : ℕ) (bytes text rest : List ℕ) → length text < 2 ^ 64 → StartsWithNumber bytes (length text) (text ++ rest) 10 → text_at end bytes ≡ Ok (text, rest)
unfolding text_at
text_reads end bytes text rest h s =
    rw (starts_read end bytes (length text) (text ++ rest) h s)
    (above (length (text ++ rest)) (length text) _ _ (let e = length-append text rest in omega (arith, e))
    ∙ rw (take_at text rest (length text) refl, drop_at text rest (length text) refl) refl)

value_reads : (end : ℕ) (bytes : List ℕ) (v : Value) (rest : List ℕ) → FitsValue v → StartsWithValue bytes v rest → value_at end (value_wire v) bytes ≡ Ok (v, rest)
unfolding value_at
value_reads end bytes (Number n) rest h s = rw (starts_read end bytes n rest h s) refl
value_reads end bytes (Fixed64 n) rest h s = rw s (ap (λ r. r >>= λ m. Ok (Fixed64 m.0, m.1)) (fixed64_again n end rest h))
value_reads end bytes (Bytes text) rest h s = ap (λ r. r >>= λ m. Ok (Bytes m.0, m.1)) (text_reads end bytes text rest h s)
value_reads end bytes (Fixed32 n) rest h s = rw s (ap (λ r. r >>= λ m. Ok (Fixed32 m.0, m.1)) (fixed32_again n end rest h))

pub field_reads : (end : ℕ) (bytes : List ℕ) (f : Field) (rest : List ℕ) → FitsField f → StartsWithField bytes f rest → field_at end bytes ≡ Ok (f, rest)
unfolding field_at
field_reads end bytes f rest fits s =
    let t = f.number * 8 + wire_type f.value in
    let small = wire_small f.value in
    let number : t / 8 ≡ f.number = omega (arith, small) in
    let within : t < 2 ^ 64 = let w = fits.within in omega (arith, small, w) in
    rw (starts_read end bytes t s.behind within s.tag, wire_again f.number f.value fits.some fits.within, number, value_reads end s.behind f.value rest fits.fits s.value) refl
