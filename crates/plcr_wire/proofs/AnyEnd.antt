-- A field that is read is the same wherever its message ends.
use Rattle.std.proofs.Common.{◌≡◌, ℕ, zero, suc, ◌+◌, ◌-◌, ◌*◌, List, [], ◌∷◌, length, take, drop, Result, Ok, Err, Bool, cond, nat_lt, true, false, refl, ap}
use Rattle.std.specs.Int.{Width, w32, w64, byte_len}
use Rattle.plcr_base.specs.Chains.{◌>>=◌}
use Rattle.plcr_wire.specs.Message.{Value, Number, Fixed64, Bytes, Fixed32, Field}
use Rattle.plcr_wire.specs.Reading.{varint_at, number_at, fixed_at, text_at, value_at, field_at}
use Rattle.plcr_wire.specs.declared.wires.Wire.{Wire}
use Rattle.plcr_wire.specs.declared.wires.Wire.TheVariants as wires
use Rattle.plcr_wire.specs.declared.fields.WireFault.TheVariants.{Truncated}
use Rattle.plcr_wire.proofs.Places.{field_steps}

-- a test and a chain that went well also go well with other faults
cond_any : {A E : Type 0} (b : Bool) (x y z : Result A E) (n : A) → (y ≡ Ok n → z ≡ Ok n) → cond b x y ≡ Ok n → cond b x z ≡ Ok n
cond_any true x y z n f h = h
cond_any false x y z n f h = f h

cond_first : {A E : Type 0} (b : Bool) (e d : E) (x : Result A E) (n : A) → cond b (Err e) x ≡ Ok n → cond b (Err d) x ≡ Ok n
cond_first true e d x n h = absurd (cc)
cond_first false e d x n h = h

bind_any : {A B E : Type 0} (r s : Result A E) (f g : A → Result B E) (y : B) → ((x : A) → r ≡ Ok x → s ≡ Ok x) → ((x : A) → f x ≡ Ok y → g x ≡ Ok y) → (r >>= f) ≡ Ok y → (s >>= g) ≡ Ok y
bind_any (Ok x) s f g y p q h = rw (p x refl) (q x h)
bind_any (Err e) s f g y p q h = absurd (cc)

no_ok : {A E : Type 0} (e d : E) (n : A) → ◌≡◌ {A = Result A E} (Err e) (Ok n) → ◌≡◌ {A = Result A E} (Err d) (Ok n)
no_ok e d n h = absurd (cc)

varint_any : (end to first place k : ℕ) (bytes : List ℕ) (n : ℕ × List ℕ) → varint_at end first k bytes ≡ Ok n → varint_at to place k bytes ≡ Ok n
varint_any end to first place zero [] n h = absurd (cc)
varint_any end to first place (suc k) [] n h = absurd (cc)
varint_any end to first place zero (b ∷ bs) n h = cond_any (nat_lt b 2) _ _ _ n (no_ok _ _ n) h
varint_any end to first place (suc k) (b ∷ bs) n h =
    cond_any (nat_lt b 128) (Ok (b, bs)) (varint_at end first k bs >>= λ m. Ok (b - 128 + 128 * m.0, m.1)) (varint_at to place k bs >>= λ m. Ok (b - 128 + 128 * m.0, m.1)) n
    (bind_any (varint_at end first k bs) (varint_at to place k bs) (λ m. Ok (b - 128 + 128 * m.0, m.1)) (λ m. Ok (b - 128 + 128 * m.0, m.1)) n (varint_any end to first place k bs) (λ m e. e)) h

number_any : (end to : ℕ) (bytes : List ℕ) (n : ℕ × List ℕ) → number_at end bytes ≡ Ok n → number_at to bytes ≡ Ok n
unfolding number_at
number_any end to bytes n h = varint_any end to _ _ 9 bytes n h

fixed_any : (w : Width) (end to : ℕ) (bytes : List ℕ) (n : ℕ × List ℕ) → fixed_at w end bytes ≡ Ok n → fixed_at w to bytes ≡ Ok n
unfolding fixed_at
fixed_any w end to bytes n h = cond_first (nat_lt (length bytes) (byte_len w)) _ _ _ n h

text_any : (end to : ℕ) (bytes : List ℕ) (t : List ℕ × List ℕ) → text_at end bytes ≡ Ok t → text_at to bytes ≡ Ok t
unfolding text_at
text_any end to bytes t h =
    bind_any (number_at end bytes) (number_at to bytes) (λ n. cond (nat_lt (length n.1) n.0) (Err (Truncated end)) (Ok (take n.0 n.1, drop n.0 n.1))) (λ n. cond (nat_lt (length n.1) n.0) (Err (Truncated to)) (Ok (take n.0 n.1, drop n.0 n.1))) t
    (number_any end to bytes) (λ n e. cond_first (nat_lt (length n.1) n.0) _ _ _ t e) h

value_any : (end to : ℕ) (wire : Wire) (bytes : List ℕ) (v : Value × List ℕ) → value_at end wire bytes ≡ Ok v → value_at to wire bytes ≡ Ok v
unfolding value_at
value_any end to wires.Number bytes v h = bind_any (number_at end bytes) (number_at to bytes) (λ n. Ok (Number n.0, n.1)) (λ n. Ok (Number n.0, n.1)) v (number_any end to bytes) (λ n e. e) h
value_any end to wires.Fixed64 bytes v h = bind_any (fixed_at w64 end bytes) (fixed_at w64 to bytes) (λ n. Ok (Fixed64 n.0, n.1)) (λ n. Ok (Fixed64 n.0, n.1)) v (fixed_any w64 end to bytes) (λ n e. e) h
value_any end to wires.Bytes bytes v h = bind_any (text_at end bytes) (text_at to bytes) (λ t. Ok (Bytes t.0, t.1)) (λ t. Ok (Bytes t.0, t.1)) v (text_any end to bytes) (λ n e. e) h
value_any end to wires.Fixed32 bytes v h = bind_any (fixed_at w32 end bytes) (fixed_at w32 to bytes) (λ n. Ok (Fixed32 n.0, n.1)) (λ n. Ok (Fixed32 n.0, n.1)) v (fixed_any w32 end to bytes) (λ n e. e) h

pub field_any : (end to : ℕ) (bytes : List ℕ) (f : Field × List ℕ) → field_at end bytes ≡ Ok f → field_at to bytes ≡ Ok f
unfolding field_at
field_any end to bytes f h =
    let s = field_steps end bytes f h in
    rw (number_any end to bytes s.tag s.tag_read, s.wire_is, value_any end to s.wire s.tag.1 s.value s.value_read) (ap Ok s.whole)
