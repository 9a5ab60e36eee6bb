-- What is spelled is read again, whatever follows it.
use Rattle.std.proofs.Common.{◌≡◌, inl, inr, ℕ, zero, suc, ◌+◌, ◌-◌, ◌*◌, ◌/◌, ◌%◌, ◌^◌, ◌<◌, ◌≤◌, ◌||◌, List, ◌++◌, length, Some, Ok, cond, nat_lt, refl, ap, ◌∙◌, append_assoc, length-append, pow-suc, arith}
use Rattle.std.proofs.lemmas.Bool.{cases_lt}
use Rattle.std.proofs.lemmas.Bool.Decides.{nat_tests}
use Rattle.std.proofs.lemmas.List.{take_at, drop_at}
use Rattle.std.proofs.lemmas.Nat.{from_le_bytes-to_le_bytes_4, from_le_bytes-to_le_bytes_8}
use Rattle.std.specs.Int.{w32, w64, to_le_bytes}
use Rattle.plcr_wire.specs.Varint.{varint, tag}
use Rattle.plcr_wire.specs.Message.{Value, Number, Fixed64, Bytes, Fixed32, Field, value_wire, wire_type, value_spelling, field_spelling, FitsValue, FitsField}
use Rattle.plcr_base.specs.Chains.{◌>>=◌}
use Rattle.plcr_wire.specs.Reading.{varint_at, number_at, fixed_at, text_at, value_at, field_at, tag_wire, wire_named}
use Rattle.plcr_wire.proofs.Varints.{varint_small, varint_large, below, above}

-- the group before the number that the others hold
join : (n : ℕ) → n % 128 + 128 - 128 + 128 * (n / 128) ≡ n
join n = omega arith

varint_again : (k n end first : ℕ) (rest : List ℕ) → n < 2 * 128 ^ k → varint_at end first k (varint n ++ rest) ≡ Ok (n, rest)
varint_again zero n end first rest h = let small : n < 128 = omega arith in rw (varint_small n small) (grind (arith, nat_tests))
varint_again (suc k) n end first rest h = elim (cases_lt n 128) [
  | inl small ↦ rw (varint_small n small) (below n 128 _ _ small)
  | inr large ↦
      let e = pow-suc 128 k in
      let more = varint_again k (n / 128) end first rest (omega (arith, e, h)) in
      rw (varint_large n large) (above (n % 128 + 128) 128 _ _ (omega arith) ∙ ap (λ r. r >>= λ m. Ok (n % 128 + 128 - 128 + 128 * m.0, m.1)) more ∙ ap (λ m. Ok (m, rest)) (join n))
]

pub number_again : (n end : ℕ) (rest : List ℕ) → n < 2 ^ 64 → number_at end (varint n ++ rest) ≡ Ok (n, rest)
unfolding number_at
number_again n end rest h = varint_again 9 n end _ rest (omega arith)

pub fixed64_again : (n end : ℕ) (rest : List ℕ) → n < 2 ^ 64 → fixed_at w64 end (to_le_bytes w64 n ++ rest) ≡ Ok (n, rest)
unfolding fixed_at
fixed64_again n end rest h = above (length (to_le_bytes w64 n ++ rest)) 8 _ _ (omega arith) ∙ ap (λ m. Ok (m, rest)) (from_le_bytes-to_le_bytes_8 n h)

pub fixed32_again : (n end : ℕ) (rest : List ℕ) → n < 2 ^ 32 → fixed_at w32 end (to_le_bytes w32 n ++ rest) ≡ Ok (n, rest)
unfolding fixed_at
fixed32_again n end rest h = above (length (to_le_bytes w32 n ++ rest)) 4 _ _ (omega arith) ∙ ap (λ m. Ok (m, rest)) (from_le_bytes-to_le_bytes_4 n h)

text_again : (end : ℕ) (bytes rest : List ℕ) → length bytes < 2 ^ 64 → text_at end ((varint (length bytes) ++ bytes) ++ rest) ≡ Ok (bytes, rest)
unfolding text_at
text_again end bytes rest h =
    rw (append_assoc (varint (length bytes)) bytes rest, number_again (length bytes) end (bytes ++ rest) h)
    (above (length (bytes ++ rest)) (length bytes) _ _ (let e = length-append bytes rest in omega (arith, e))
    ∙ rw (take_at bytes rest (length bytes) refl, drop_at bytes rest (length bytes) refl) refl)

value_again : (end : ℕ) (v : Value) (rest : List ℕ) → FitsValue v → value_at end (value_wire v) (value_spelling v ++ rest) ≡ Ok (v, rest)
unfolding value_at
value_again end (Number n) rest h = rw (number_again n end rest h) refl
value_again end (Fixed64 n) rest h = ap (λ r. r >>= λ m. Ok (Fixed64 m.0, m.1)) (fixed64_again n end rest h)
value_again end (Bytes bytes) rest h = ap (λ r. r >>= λ m. Ok (Bytes m.0, m.1)) (text_again end bytes rest h)
value_again end (Fixed32 n) rest h = ap (λ r. r >>= λ m. Ok (Fixed32 m.0, m.1)) (fixed32_again n end rest h)

wire_named_again : (v : Value) → wire_named (wire_type v) ≡ Some (value_wire v)
wire_named_again (Number n) = refl
wire_named_again (Fixed64 n) = refl
wire_named_again (Bytes bytes) = refl
wire_named_again (Fixed32 n) = refl

pub wire_small : (v : Value) → wire_type v < 8
wire_small (Number n) = omega arith
wire_small (Fixed64 n) = omega arith
wire_small (Bytes bytes) = omega arith
wire_small (Fixed32 n) = omega arith

within_tags : (t : ℕ) {A : Type 0} (x y : A) → 8 ≤ t → t < 2 ^ 32 → cond (nat_lt t 8 || nat_lt (2 ^ 32 - 1) t) x y ≡ y
within_tags t x y some within = grind (arith, nat_tests)

pub wire_again : (field : ℕ) (v : Value) → 0 < field → field < 2 ^ 29 → tag_wire (field * 8 + wire_type v) ≡ Some (value_wire v)
wire_again field v some within =
    let small = wire_small v in
    let low : (field * 8 + wire_type v) % 8 ≡ wire_type v = omega (arith, small) in
    within_tags (field * 8 + wire_type v) _ _ (omega arith) (omega (arith, small)) ∙ ap wire_named low ∙ wire_named_again v

pub field_again : (end : ℕ) (f : Field) (rest : List ℕ) → FitsField f → field_at end (field_spelling f ++ rest) ≡ Ok (f, rest)
unfolding field_at field_spelling tag
field_again end f rest fits =
    let w = wire_type f.value in
    let t = f.number * 8 + w in
    let small = wire_small f.value in
    let number : t / 8 ≡ f.number = omega (arith, small) in
    let below : t < 2 ^ 64 = let within = fits.within in omega (arith, small, within) in
    let after = value_spelling f.value ++ rest in
    rw (append_assoc (varint t) (value_spelling f.value) rest, number_again t end after below, wire_again f.number f.value fits.some fits.within, number, value_again end f.value rest fits.fits) refl
