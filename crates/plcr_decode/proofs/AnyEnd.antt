-- The fields of a message without a fault are all its bytes.
use Rattle.std.proofs.Common.{◌≡◌, inl, inr, ℕ, zero, suc, ◌-◌, ◌<◌, ◌≤◌, List, [], ◌∷◌, length, Ok, Err, cond, refl, sym, ap, subst, ◌∙◌, arith}
use Rattle.plcr_wire.specs.Message.{Field}
use Rattle.plcr_base.specs.Chains.{◌>>=◌}
use Rattle.plcr_base.proofs.Chained.{bind_ok}
use Rattle.plcr_wire.proofs.Places.{ok_is, chosen}
use Rattle.plcr_wire.proofs.Smaller.{field_smaller}
use Rattle.plcr_wire.proofs.AnyEnd.{field_any}
use Rattle.plcr_wire.specs.Reading.{field_at}
use Rattle.plcr_report.specs.Schema.{rule}
use Rattle.plcr_report.specs.declared.kinds.Kind.{Kind}
use Rattle.plcr_decode.specs.declared.faults.DecodeFault.TheVariants.{WrongWire}
use Rattle.plcr_decode.specs.Fields.{fields_of}
use Rattle.plcr_decode.specs.Scan.{lifted, fits, inside, Step, step_at, scan}
use Rattle.plcr_decode.specs.Covered.{AreFieldsOf, FieldsCover}
use Rattle.plcr_decode.proofs.Listed.{fields_none, fields_step}
use Rattle.plcr_decode.proofs.Scans.{scan_step, lifted_ok, inside_rest}

-- the field of a step
step_field : (kind : Kind) (end : ℕ) (bytes : List ℕ) (s : Step) → step_at kind end bytes ≡ Ok s → (f : Field × List ℕ) × (field_at end bytes ≡ Ok f) × (s.rest ≡ f.1)
unfolding step_at
step_field kind end bytes s h =
    let f = bind_ok (lifted (field_at end bytes)) (λ f. cond (fits (rule kind f.0.number) f.0.value) (Ok (inside kind (rule kind f.0.number) f.0.value f.1)) (Err (WrongWire f.0.number (end - length bytes)))) s h in
    elim (chosen (fits (rule kind f.0.0.number) f.0.0.value) _ _ _ f.2) [
      | inl e ↦ (f.0, lifted_ok _ _ f.1, ap (λ (s : Step). s.rest) (sym (ok_is _ _ e)) ∙ inside_rest kind (rule kind f.0.0.number) f.0.0.value f.0.1)
      | inr e ↦ absurd (cc)
    ]

covers : (k : ℕ) (kind : Kind) (end : ℕ) (bytes : List ℕ) → length bytes ≤ k → scan kind end bytes ≡ Ok tt → AreFieldsOf (fields_of bytes) bytes
covers k kind end [] small h = subst (λ fs. AreFieldsOf fs []) (sym fields_none) refl
covers zero kind end (b ∷ bs) small h = absurd (omega arith)
covers (suc k) kind end (b ∷ bs) small h =
    let some : 0 < length (b ∷ bs) = omega arith in
    let s = bind_ok (step_at kind end (b ∷ bs)) (λ s. scan s.kind (end - length s.rest) s.text >>= λ u. scan kind end s.rest) tt (sym (scan_step kind end (b ∷ bs) some) ∙ h) in
    let more = bind_ok (scan s.0.kind (end - length s.0.rest) s.0.text) (λ u. scan kind end s.0.rest) tt s.2 in
    let f = step_field kind end (b ∷ bs) s.0 s.1 in
    let less = field_smaller end (b ∷ bs) f.0 f.1 in
    let here = field_any end (length (b ∷ bs)) (b ∷ bs) f.0 f.1 in
    let others = covers k kind end f.0.1 (omega arith) (subst (λ (rest : List ℕ). scan kind end rest ≡ Ok tt) f.2 more.2) in
    subst (λ fs. AreFieldsOf fs (b ∷ bs)) (sym (fields_step (b ∷ bs) f.0 here)) (f.0.1, here, others)

pub fields_cover : FieldsCover
fields_cover kind end bytes h = covers (length bytes) kind end bytes (omega arith) h
