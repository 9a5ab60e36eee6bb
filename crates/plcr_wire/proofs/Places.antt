-- Where a field that was read stands in the bytes that it was read from.
use Rattle.std.proofs.Common.{◌≡◌, ◌⊎◌, inl, inr, ℕ, zero, suc, ◌+◌, ◌-◌, ◌*◌, ◌/◌, ◌≤◌, List, [], ◌∷◌, ◌++◌, length, take, drop, slice_range, Some, Result, Ok, Err, ok_or, Bool, cond, nat_lt, true, false, refl, sym, ap, subst, ◌∙◌, append_assoc, append-nil, length-append, length-take, length-drop, take-append-drop, arith}
use Rattle.std.proofs.lemmas.List.{take_at, drop_at}
use Rattle.std.proofs.lemmas.List.Folds.{drop_split}
use Rattle.std.specs.Int.{Width, w32, w64, byte_len}
use Rattle.plcr_wire.specs.Message.{Number, Fixed64, Bytes, Fixed32, value_bytes}
use Rattle.plcr_wire.specs.Message as message
use Rattle.plcr_base.specs.Chains.{◌>>=◌}
use Rattle.plcr_base.proofs.Chained.{bind_ok, ok_or_ok}
use Rattle.plcr_wire.specs.Reading.{varint_at, number_at, fixed_at, text_at, value_at, field_at, found_at, placed, value_in, Stands, tag_wire}
use Rattle.plcr_wire.specs.declared.wires.Wire.{Wire}
use Rattle.plcr_wire.specs.declared.wires.Wire.TheVariants as wires
use Rattle.plcr_wire.specs.declared.fields.Field.{Field}
use Rattle.plcr_wire.specs.declared.fields.WireFault.TheVariants.{Truncated, BadTag}

-- one of the two sides of a test
pub chosen : {A : Type 0} (b : Bool) (x y z : A) → cond b x y ≡ z → (x ≡ z) ⊎ (y ≡ z)
chosen true x y z h = inl h
chosen false x y z h = inr h

pub ok_is : {A E : Type 0} (x y : A) → ◌≡◌ {A = Result A E} (Ok x) (Ok y) → x ≡ y
ok_is x y h = cc

-- the list ends with this one
pub record EndsWith (bytes tail : List ℕ) : Type 0 where
  pub front : List ℕ
  pub parts : bytes ≡ front ++ tail

-- one byte more in front
ends_more : (b : ℕ) (bytes rest tail : List ℕ) → EndsWith rest tail → bytes ≡ b ∷ rest → EndsWith bytes tail
ends_more b bytes rest tail h e = record { front = b ∷ h.front; parts = e ∙ ap (λ l. b ∷ l) h.parts }

ends_twice : (bytes rest tail : List ℕ) → EndsWith bytes rest → EndsWith rest tail → EndsWith bytes tail
ends_twice bytes rest tail first second = record {
  front = first.front ++ second.front;
  parts = first.parts ∙ ap (λ l. first.front ++ l) second.parts ∙ sym (append_assoc first.front second.front tail);
}

ends_one : (b : ℕ) (rest : List ℕ) → EndsWith (b ∷ rest) rest
ends_one b rest = record { front = b ∷ []; parts = refl }

varint_ends : (end first k : ℕ) (bytes : List ℕ) (n : ℕ × List ℕ) → varint_at end first k bytes ≡ Ok n → EndsWith bytes n.1
varint_ends end first zero [] n h = absurd (cc)
varint_ends end first (suc k) [] n h = absurd (cc)
varint_ends end first zero (b ∷ bs) n h = elim (chosen (nat_lt b 2) _ _ _ h) [
  | inl e ↦ subst (λ (m : ℕ × List ℕ). EndsWith (b ∷ bs) m.1) (ok_is _ _ e) (ends_one b bs)
  | inr e ↦ absurd (cc)
]
varint_ends end first (suc k) (b ∷ bs) n h = elim (chosen (nat_lt b 128) _ _ _ h) [
  | inl e ↦ subst (λ (m : ℕ × List ℕ). EndsWith (b ∷ bs) m.1) (ok_is _ _ e) (ends_one b bs)
  | inr e ↦
      let m = bind_ok (varint_at end first k bs) (λ m. Ok (b - 128 + 128 * m.0, m.1)) n e in
      subst (λ (m : ℕ × List ℕ). EndsWith (b ∷ bs) m.1) (ok_is _ _ m.2) (ends_twice (b ∷ bs) bs m.0.1 (ends_one b bs) (varint_ends end first k bs m.0 m.1))
]

number_ends : (end : ℕ) (bytes : List ℕ) (n : ℕ × List ℕ) → number_at end bytes ≡ Ok n → EndsWith bytes n.1
unfolding number_at
number_ends end bytes n h = varint_ends end _ 9 bytes n h

fixed_ends : (w : Width) (end : ℕ) (bytes : List ℕ) (n : ℕ × List ℕ) → fixed_at w end bytes ≡ Ok n → EndsWith bytes n.1
unfolding fixed_at
fixed_ends w end bytes n h = elim (chosen (nat_lt (length bytes) (byte_len w)) _ _ _ h) [
  | inl e ↦ absurd (cc)
  | inr e ↦ subst (λ (m : ℕ × List ℕ). EndsWith bytes m.1) (ok_is _ _ e) (record { front = take (byte_len w) bytes; parts = sym (take-append-drop (byte_len w) bytes) })
]

text_ends : (end : ℕ) (bytes : List ℕ) (t : List ℕ × List ℕ) → text_at end bytes ≡ Ok t → EndsWith bytes (t.0 ++ t.1)
unfolding text_at
text_ends end bytes t h =
    let n = bind_ok (number_at end bytes) (λ n. cond (nat_lt (length n.1) n.0) (Err (Truncated end)) (Ok (take n.0 n.1, drop n.0 n.1))) t h in
    elim (chosen (nat_lt (length n.0.1) n.0.0) _ _ _ n.2) [
      | inl e ↦ absurd (cc)
      | inr e ↦ subst (λ (m : List ℕ × List ℕ). EndsWith bytes (m.0 ++ m.1)) (ok_is _ _ e)
          (subst (EndsWith bytes) (sym (take-append-drop n.0.0 n.0.1)) (number_ends end bytes n.0 n.1))
    ]

value_ends : (end : ℕ) (wire : Wire) (bytes : List ℕ) (v : message.Value × List ℕ) → value_at end wire bytes ≡ Ok v → EndsWith bytes (value_bytes v.0 ++ v.1)
unfolding value_at
value_ends end wires.Number bytes v h =
    let n = bind_ok (number_at end bytes) (λ n. Ok (Number n.0, n.1)) v h in
    subst (λ (v : message.Value × List ℕ). EndsWith bytes (value_bytes v.0 ++ v.1)) (ok_is _ _ n.2) (number_ends end bytes n.0 n.1)
value_ends end wires.Fixed64 bytes v h =
    let n = bind_ok (fixed_at w64 end bytes) (λ n. Ok (Fixed64 n.0, n.1)) v h in
    subst (λ (v : message.Value × List ℕ). EndsWith bytes (value_bytes v.0 ++ v.1)) (ok_is _ _ n.2) (fixed_ends w64 end bytes n.0 n.1)
value_ends end wires.Bytes bytes v h =
    let t = bind_ok (text_at end bytes) (λ t. Ok (Bytes t.0, t.1)) v h in
    subst (λ (v : message.Value × List ℕ). EndsWith bytes (value_bytes v.0 ++ v.1)) (ok_is _ _ t.2) (text_ends end bytes t.0 t.1)
value_ends end wires.Fixed32 bytes v h =
    let n = bind_ok (fixed_at w32 end bytes) (λ n. Ok (Fixed32 n.0, n.1)) v h in
    subst (λ (v : message.Value × List ℕ). EndsWith bytes (value_bytes v.0 ++ v.1)) (ok_is _ _ n.2) (fixed_ends w32 end bytes n.0 n.1)

-- the steps by which a field was read: its tag, the wire type that the tag names, and the value
pub record FieldSteps (end : ℕ) (bytes : List ℕ) (f : message.Field × List ℕ) : Type 0 where
  pub tag : ℕ × List ℕ
  pub wire : Wire
  pub value : message.Value × List ℕ
  pub tag_read : number_at end bytes ≡ Ok tag
  pub wire_is : tag_wire tag.0 ≡ Some wire
  pub value_read : value_at end wire tag.1 ≡ Ok value
  pub whole : ◌≡◌ {A = message.Field × List ℕ} (record { number = tag.0 / 8; value = value.0 }, value.1) f

pub field_steps : (end : ℕ) (bytes : List ℕ) (f : message.Field × List ℕ) → field_at end bytes ≡ Ok f → FieldSteps end bytes f
unfolding field_at
field_steps end bytes f h =
    let t = bind_ok (number_at end bytes) (λ t. ok_or (tag_wire t.0) (BadTag (end - length bytes)) >>= λ wire. value_at end wire t.1 >>= λ v. Ok (record { number = t.0 / 8; value = v.0 }, v.1)) f h in
    let w = bind_ok (ok_or (tag_wire t.0.0) (BadTag (end - length bytes))) (λ wire. value_at end wire t.0.1 >>= λ v. Ok (record { number = t.0.0 / 8; value = v.0 }, v.1)) f t.2 in
    let v = bind_ok (value_at end w.0 t.0.1) (λ v. Ok (record { number = t.0.0 / 8; value = v.0 }, v.1)) f w.2 in
    record { tag = t.0; wire = w.0; value = v.0; tag_read = t.1; wire_is = ok_or_ok (tag_wire t.0.0) (BadTag (end - length bytes)) w.0 w.1; value_read = v.1; whole = ok_is (record { number = t.0.0 / 8; value = v.0.0 }, v.0.1) f v.2 }

pub field_ends : (end : ℕ) (bytes : List ℕ) (f : message.Field × List ℕ) → field_at end bytes ≡ Ok f → EndsWith bytes (value_bytes f.0.value ++ f.1)
field_ends end bytes f h =
    let s = field_steps end bytes f h in
    subst (λ (f : message.Field × List ℕ). EndsWith bytes (value_bytes f.0.value ++ f.1)) s.whole
    (ends_twice bytes s.tag.1 (value_bytes s.value.0 ++ s.value.1) (number_ends end bytes s.tag s.tag_read) (value_ends end s.wire s.tag.1 s.value s.value_read))

-- the middle of three parts
range_mid : (xs a t b : List ℕ) (i j : ℕ) → xs ≡ a ++ (t ++ b) → i ≡ length a → j ≡ length a + length t → slice_range xs i j ≡ t
range_mid xs a t b i j e p q =
    let len : length t ≡ j - i = omega arith in
    ap (λ l. take (j - i) (drop i l)) e ∙ ap (take (j - i)) (drop_at a (t ++ b) i (sym p)) ∙ take_at t b (j - i) len

-- a part of a part of a list, by its distance from the end
range_in : (bytes front t b : List ℕ) (at end i j : ℕ) → at ≤ end → end ≤ length bytes → slice_range bytes at end ≡ front ++ (t ++ b)
    → i ≡ end - length b - length t → j ≡ end - length b → slice_range bytes i j ≡ t
range_in bytes front t b at end i j p q e from to =
    let whole : bytes ≡ (take at bytes ++ front) ++ (t ++ (b ++ drop end bytes)) =
    sym (take-append-drop at bytes) ∙ ap (λ l. take at bytes ++ l) (drop_split bytes at end p ∙ ap (λ l. l ++ drop end bytes) e)
    ∙ simp append_assoc in
    let size : end - at ≡ length front + (length t + length b) =
    sym (let l = length-drop at bytes in length-take (end - at) (drop at bytes) ∙ omega (arith, l)) ∙ ap length e ∙ length-append front (t ++ b) ∙ ap (λ n. length front + n) (length-append t b) in
    let before : length (take at bytes ++ front) ≡ at + length front = length-append (take at bytes) front ∙ ap (λ n. n + length front) (length-take at bytes ∙ omega arith) in
    range_mid bytes (take at bytes ++ front) t (b ++ drop end bytes) i j whole (omega (arith, size, before, from)) (omega (arith, size, before, to))

placed_back : (bytes : List ℕ) (at end : ℕ) (v : message.Value) (rest : List ℕ) → at ≤ end → end ≤ length bytes
    → EndsWith (slice_range bytes at end) (value_bytes v ++ rest) → value_in bytes (placed (end - length rest) v) ≡ v
placed_back bytes at end (Number n) rest p q ends = refl
placed_back bytes at end (Fixed64 n) rest p q ends = refl
placed_back bytes at end (Bytes t) rest p q ends = ap Bytes (range_in bytes ends.front t rest at end _ _ p q ends.parts refl refl)
placed_back bytes at end (Fixed32 n) rest p q ends = refl

rest_back : (bytes : List ℕ) (at end : ℕ) (v : message.Value) (rest : List ℕ) → at ≤ end → end ≤ length bytes
    → EndsWith (slice_range bytes at end) (value_bytes v ++ rest) → slice_range bytes (end - length rest) end ≡ rest
rest_back bytes at end v rest p q ends =
    range_in bytes (ends.front ++ value_bytes v) rest [] at end (end - length rest) end p q
    (ends.parts ∙ sym (append_assoc ends.front (value_bytes v) rest) ∙ ap (λ l. (ends.front ++ value_bytes v) ++ l) (sym (append-nil rest)))
    (omega arith) (omega arith)

-- the places that a field was found at hold its value, and what is left begins at the next place
pub found_stands : (bytes : List ℕ) (at end : ℕ) (f : Field) → at ≤ end → end ≤ length bytes → found_at end (slice_range bytes at end) ≡ Ok f → Stands bytes at end f
unfolding found_at
found_stands bytes at end f p q h =
    let list = slice_range bytes at end in
    let g = bind_ok (field_at end list) (λ g. Ok (record { number = g.0.number; value = placed (end - length g.1) g.0.value; next = end - length g.1 })) f h in
    let ends = field_ends end list g.0 g.1 in
    let value = placed_back bytes at end g.0.0.value g.0.1 p q ends in
    let rest = rest_back bytes at end g.0.0.value g.0.1 p q ends in
    subst (Stands bytes at end) (ok_is _ _ g.2) (g.1 ∙ ap (λ (v : message.Value). Ok (record { number = g.0.0.number; value = v }, g.0.1)) (sym value)
    ∙ ap (λ (l : List ℕ). Ok (record { number = g.0.0.number; value = value_in bytes (placed (end - length g.0.1) g.0.0.value) }, l)) (sym rest))
