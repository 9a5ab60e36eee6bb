-- One field of a scan at a time.
use Rattle.std.proofs.Common.{◌≡◌, inl, inr, ℕ, zero, suc, ◌+◌, ◌-◌, ◌<◌, ◌≤◌, List, [], ◌∷◌, length, Option, Some, None, Result, Ok, Err, cond, refl, ap, subst, ◌∙◌, arith}
use Rattle.plcr_wire.specs.Message.{Value, value_bytes}
use Rattle.plcr_base.specs.Chains.{◌>>=◌}
use Rattle.plcr_wire.specs.Reading.{field_at}
use Rattle.plcr_base.proofs.Chained.{bind_ok}
use Rattle.plcr_wire.proofs.Places.{ok_is, chosen}
use Rattle.plcr_wire.specs.declared.fields.WireFault.{WireFault}
use Rattle.plcr_report.specs.Schema.{rule}
use Rattle.plcr_report.specs.declared.kinds.Kind.{Kind}
use Rattle.plcr_report.specs.declared.kinds.Holds.{Holds}
use Rattle.plcr_report.specs.declared.kinds.Holds.TheVariants as holds
use Rattle.plcr_decode.specs.declared.faults.DecodeFault.{DecodeFault}
use Rattle.plcr_decode.specs.declared.faults.DecodeFault.TheVariants.{WrongWire}
use Rattle.plcr_decode.specs.Scan.{lifted, fits, inside, Step, step_at, scan_within, scan}
use Rattle.plcr_wire.proofs.Smaller.{field_smaller}

-- two chains agree where their first results do, and what follows an Ok
pub bind_same : {A B E : Type 0} (r : Result A E) (f g : A → Result B E) → ((x : A) → r ≡ Ok x → f x ≡ g x) → (r >>= f) ≡ (r >>= g)
bind_same (Ok x) f g h = h x refl
bind_same (Err e) f g h = refl

pub lifted_ok : {A : Type 0} (r : Result A WireFault) (x : A) → lifted r ≡ Ok x → r ≡ Ok x
lifted_ok (Ok y) x h = cc
lifted_ok (Err e) x h = absurd (cc)

pub inside_rest : (kind : Kind) (h : Option Holds) (v : Value) (rest : List ℕ) → (inside kind h v rest).rest ≡ rest
inside_rest kind None v rest = refl
inside_rest kind (Some holds.Number) v rest = refl
inside_rest kind (Some holds.Text) v rest = refl
inside_rest kind (Some (holds.Message inner)) v rest = refl

inside_small : (kind : Kind) (h : Option Holds) (v : Value) (rest : List ℕ) → length (inside kind h v rest).text + length (inside kind h v rest).rest ≤ length (value_bytes v) + length rest
inside_small kind None v rest = omega arith
inside_small kind (Some holds.Number) v rest = omega arith
inside_small kind (Some holds.Text) v rest = omega arith
inside_small kind (Some (holds.Message inner)) v rest = omega arith

pub step_smaller : (kind : Kind) (end : ℕ) (bytes : List ℕ) (s : Step) → step_at kind end bytes ≡ Ok s → length s.text + length s.rest < length bytes
unfolding step_at
step_smaller kind end bytes s h =
    let f = bind_ok (lifted (field_at end bytes)) (λ f. cond (fits (rule kind f.0.number) f.0.value) (Ok (inside kind (rule kind f.0.number) f.0.value f.1)) (Err (WrongWire f.0.number (end - length bytes)))) s h in
    let less : length (value_bytes f.0.0.value) + length f.0.1 < length bytes = field_smaller end bytes f.0 (lifted_ok _ _ f.1) in
    let small = inside_small kind (rule kind f.0.0.number) f.0.0.value f.0.1 in
    elim (chosen (fits (rule kind f.0.0.number) f.0.0.value) _ _ _ f.2) [
      | inl e ↦ subst (λ (s : Step). length s.text + length s.rest < length bytes) (ok_is _ _ e) (omega arith)
      | inr e ↦ absurd (cc)
    ]

-- any number of steps from the length on is enough
scan_enough : (j k : ℕ) (kind : Kind) (end : ℕ) (bytes : List ℕ) → length bytes ≤ j → length bytes ≤ k → scan_within j kind end bytes ≡ scan_within k kind end bytes
scan_enough zero zero kind end bytes p q = refl
scan_enough zero (suc k) kind end [] p q = refl
scan_enough zero (suc k) kind end (b ∷ bs) p q = absurd (omega arith)
scan_enough (suc j) zero kind end [] p q = refl
scan_enough (suc j) zero kind end (b ∷ bs) p q = absurd (omega arith)
scan_enough (suc j) (suc k) kind end [] p q = refl
scan_enough (suc j) (suc k) kind end (b ∷ bs) p q =
    bind_same (step_at kind end (b ∷ bs)) (λ s. scan_within j s.kind (end - length s.rest) s.text >>= λ u. scan_within j kind end s.rest)
    (λ s. scan_within k s.kind (end - length s.rest) s.text >>= λ u. scan_within k kind end s.rest)
    (λ s h.
    let small = step_smaller kind end (b ∷ bs) s h in
    ap (λ r. r >>= λ u. scan_within j kind end s.rest) (scan_enough j k s.kind (end - length s.rest) s.text (omega arith) (omega arith))
    ∙ bind_same (scan_within k s.kind (end - length s.rest) s.text) (λ u. scan_within j kind end s.rest) (λ u. scan_within k kind end s.rest)
    (λ u e. scan_enough j k kind end s.rest (omega arith) (omega arith)))

pub scan_none : (kind : Kind) (end : ℕ) → scan kind end [] ≡ Ok tt
unfolding scan
scan_none kind end = refl

pub scan_step : (kind : Kind) (end : ℕ) (bytes : List ℕ) → 0 < length bytes → scan kind end bytes ≡ (step_at kind end bytes >>= λ s. (scan s.kind (end - length s.rest) s.text >>= λ u. scan kind end s.rest))
unfolding scan
scan_step kind end [] h = absurd (omega arith)
scan_step kind end (b ∷ bs) h =
    bind_same (step_at kind end (b ∷ bs)) (λ s. scan_within (length bs) s.kind (end - length s.rest) s.text >>= λ u. scan_within (length bs) kind end s.rest)
    (λ s. scan_within (length s.text) s.kind (end - length s.rest) s.text >>= λ u. scan_within (length s.rest) kind end s.rest)
    (λ s h.
    let small = step_smaller kind end (b ∷ bs) s h in
    ap (λ r. r >>= λ u. scan_within (length bs) kind end s.rest) (scan_enough (length bs) (length s.text) s.kind (end - length s.rest) s.text (omega arith) (omega arith))
    ∙ bind_same (scan_within (length s.text) s.kind (end - length s.rest) s.text) (λ u. scan_within (length bs) kind end s.rest) (λ u. scan_within (length s.rest) kind end s.rest)
    (λ u e. scan_enough (length bs) (length s.rest) kind end s.rest (omega arith) (omega arith)))

-- the first fault is in the field itself
pub scan_fault : (kind : Kind) (end : ℕ) (bytes : List ℕ) (e : DecodeFault) → 0 < length bytes → step_at kind end bytes ≡ Err e → scan kind end bytes ≡ Err e
scan_fault kind end bytes e some h = scan_step kind end bytes some ∙ ap (λ r. r >>= λ s. (scan s.kind (end - length s.rest) s.text >>= λ u. scan kind end s.rest)) h

-- or in the message within it
pub scan_within_fault : (kind : Kind) (end : ℕ) (bytes : List ℕ) (s : Step) (e : DecodeFault) → 0 < length bytes → step_at kind end bytes ≡ Ok s → scan s.kind (end - length s.rest) s.text ≡ Err e → scan kind end bytes ≡ Err e
scan_within_fault kind end bytes s e some h inner =
    scan_step kind end bytes some ∙ ap (λ r. r >>= λ s. (scan s.kind (end - length s.rest) s.text >>= λ u. scan kind end s.rest)) h
    ∙ ap (λ r. r >>= λ u. scan kind end s.rest) inner

-- or after it
pub scan_more : (kind : Kind) (end : ℕ) (bytes : List ℕ) (s : Step) → 0 < length bytes → step_at kind end bytes ≡ Ok s → scan s.kind (end - length s.rest) s.text ≡ Ok tt → scan kind end bytes ≡ scan kind end s.rest
scan_more kind end bytes s some h inner =
    scan_step kind end bytes some ∙ ap (λ r. r >>= λ s. (scan s.kind (end - length s.rest) s.text >>= λ u. scan kind end s.rest)) h
    ∙ ap (λ r. r >>= λ u. scan kind end s.rest) inner
