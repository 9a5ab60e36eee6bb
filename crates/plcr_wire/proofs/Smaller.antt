-- What is left after a field is shorter: a field has a byte at least besides its bytes.
use Rattle.std.proofs.Common.{◌≡◌, inl, inr, ℕ, zero, suc, ◌+◌, ◌-◌, ◌*◌, ◌<◌, ◌≤◌, List, [], ◌∷◌, length, take, drop, Ok, Err, cond, nat_lt, subst, length-take, length-drop, arith}
use Rattle.std.specs.Int.{Width, w32, w64, byte_len}
use Rattle.plcr_wire.specs.Message.{Value, Number, Fixed64, Bytes, Fixed32, Field, value_bytes}
use Rattle.plcr_wire.specs.Reading.{varint_at, number_at, fixed_at, text_at, value_at, field_at}
use Rattle.plcr_wire.specs.declared.wires.Wire.{Wire}
use Rattle.plcr_wire.specs.declared.wires.Wire.TheVariants as wires
use Rattle.plcr_wire.specs.declared.fields.WireFault.TheVariants.{Truncated}
use Rattle.plcr_base.proofs.Chained.{bind_ok}
use Rattle.plcr_wire.proofs.Places.{ok_is, chosen, field_steps}

varint_smaller : (end first k : ℕ) (bytes : List ℕ) (n : ℕ × List ℕ) → varint_at end first k bytes ≡ Ok n → length n.1 < length bytes
varint_smaller end first zero [] n h = absurd (cc)
varint_smaller end first (suc k) [] n h = absurd (cc)
varint_smaller end first zero (b ∷ bs) n h = elim (chosen (nat_lt b 2) _ _ _ h) [
  | inl e ↦ subst (λ (m : ℕ × List ℕ). length m.1 < length (b ∷ bs)) (ok_is _ _ e) (omega arith)
  | inr e ↦ absurd (cc)
]
varint_smaller end first (suc k) (b ∷ bs) n h = elim (chosen (nat_lt b 128) _ _ _ h) [
  | inl e ↦ subst (λ (m : ℕ × List ℕ). length m.1 < length (b ∷ bs)) (ok_is _ _ e) (omega arith)
  | inr e ↦
      let m = bind_ok (varint_at end first k bs) (λ m. Ok (b - 128 + 128 * m.0, m.1)) n e in
      let less : length m.0.1 < length bs = varint_smaller end first k bs m.0 m.1 in
      subst (λ (m : ℕ × List ℕ). length m.1 < length (b ∷ bs)) (ok_is _ _ m.2) (omega arith)
]

number_smaller : (end : ℕ) (bytes : List ℕ) (n : ℕ × List ℕ) → number_at end bytes ≡ Ok n → length n.1 < length bytes
unfolding number_at
number_smaller end bytes n h = varint_smaller end _ 9 bytes n h

fixed_smaller : (w : Width) (end : ℕ) (bytes : List ℕ) (n : ℕ × List ℕ) → fixed_at w end bytes ≡ Ok n → length n.1 ≤ length bytes
unfolding fixed_at
fixed_smaller w end bytes n h = elim (chosen (nat_lt (length bytes) (byte_len w)) _ _ _ h) [
  | inl e ↦ absurd (cc)
  | inr e ↦ subst (λ (m : ℕ × List ℕ). length m.1 ≤ length bytes) (ok_is _ _ e) (let l = length-drop (byte_len w) bytes in omega arith)
]

text_smaller : (end : ℕ) (bytes : List ℕ) (t : List ℕ × List ℕ) → text_at end bytes ≡ Ok t → length t.0 + length t.1 < length bytes
unfolding text_at
text_smaller end bytes t h =
    let n = bind_ok (number_at end bytes) (λ n. cond (nat_lt (length n.1) n.0) (Err (Truncated end)) (Ok (take n.0 n.1, drop n.0 n.1))) t h in
    let less : length n.0.1 < length bytes = number_smaller end bytes n.0 n.1 in
    elim (chosen (nat_lt (length n.0.1) n.0.0) _ _ _ n.2) [
      | inl e ↦ absurd (cc)
      | inr e ↦ subst (λ (m : List ℕ × List ℕ). length m.0 + length m.1 < length bytes) (ok_is _ _ e)
          (let a = length-take n.0.0 n.0.1 in let b = length-drop n.0.0 n.0.1 in omega arith)
    ]

value_smaller : (end : ℕ) (wire : Wire) (bytes : List ℕ) (v : Value × List ℕ) → value_at end wire bytes ≡ Ok v → length (value_bytes v.0) + length v.1 ≤ length bytes
unfolding value_at
value_smaller end wires.Number bytes v h =
    let n = bind_ok (number_at end bytes) (λ n. Ok (Number n.0, n.1)) v h in
    let less : length n.0.1 < length bytes = number_smaller end bytes n.0 n.1 in
    subst (λ (v : Value × List ℕ). length (value_bytes v.0) + length v.1 ≤ length bytes) (ok_is _ _ n.2) (omega arith)
value_smaller end wires.Fixed64 bytes v h =
    let n = bind_ok (fixed_at w64 end bytes) (λ n. Ok (Fixed64 n.0, n.1)) v h in
    let less : length n.0.1 ≤ length bytes = fixed_smaller w64 end bytes n.0 n.1 in
    subst (λ (v : Value × List ℕ). length (value_bytes v.0) + length v.1 ≤ length bytes) (ok_is _ _ n.2) (omega arith)
value_smaller end wires.Bytes bytes v h =
    let t = bind_ok (text_at end bytes) (λ t. Ok (Bytes t.0, t.1)) v h in
    let less : length t.0.0 + length t.0.1 < length bytes = text_smaller end bytes t.0 t.1 in
    subst (λ (v : Value × List ℕ). length (value_bytes v.0) + length v.1 ≤ length bytes) (ok_is _ _ t.2) (omega arith)
value_smaller end wires.Fixed32 bytes v h =
    let n = bind_ok (fixed_at w32 end bytes) (λ n. Ok (Fixed32 n.0, n.1)) v h in
    let less : length n.0.1 ≤ length bytes = fixed_smaller w32 end bytes n.0 n.1 in
    subst (λ (v : Value × List ℕ). length (value_bytes v.0) + length v.1 ≤ length bytes) (ok_is _ _ n.2) (omega arith)

pub field_smaller : (end : ℕ) (bytes : List ℕ) (f : Field × List ℕ) → field_at end bytes ≡ Ok f → length (value_bytes f.0.value) + length f.1 < length bytes
field_smaller end bytes f h =
    let s = field_steps end bytes f h in
    let less : length s.tag.1 < length bytes = number_smaller end bytes s.tag s.tag_read in
    let more : length (value_bytes s.value.0) + length s.value.1 ≤ length s.tag.1 = value_smaller end s.wire s.tag.1 s.value s.value_read in
    subst (λ (f : Field × List ℕ). length (value_bytes f.0.value) + length f.1 < length bytes) s.whole (omega arith)
