-- What is read as a number are the varints of ten bytes at most, the tenth 0 or 1.
use Rattle.std.proofs.Common.{◌≡◌, inl, inr, ℕ, zero, suc, ◌+◌, ◌-◌, ◌*◌, ◌^◌, ◌<◌, ◌≤◌, List, [], ◌∷◌, ◌++◌, length, Ok, Err, sym, ap, ◌∙◌, pow-suc, arith}
use Rattle.std.proofs.lemmas.Bool.{cases_lt}
use Rattle.plcr_wire.specs.Varint.{IsVarint}
use Rattle.plcr_base.specs.Chains.{◌>>=◌}
use Rattle.plcr_base.specs.Bytes.{IsBytes}
use Rattle.plcr_wire.specs.Reading.{varint_at, number_at}
use Rattle.plcr_wire.specs.Spelled.{StartsWithNumber}
use Rattle.plcr_wire.specs.declared.fields.WireFault.TheVariants.{BadVarint}
use Rattle.plcr_base.proofs.Chained.{bind_ok}
use Rattle.plcr_wire.proofs.Places.{ok_is}
use Rattle.plcr_wire.proofs.Varints.{below, above}
use Rattle.plcr_wire.proofs.Shortest.{varint_front}

varint_reads : (front rest : List ℕ) (end first k n : ℕ) → IsVarint front n → length front ≤ k + 1 → n < 2 * 128 ^ k → varint_at end first k (front ++ rest) ≡ Ok (n, rest)
varint_reads [] rest end first k n h short fits = absurd h
varint_reads (b ∷ []) rest end first zero n h short fits = below b 2 _ _ (omega (arith, h.1)) ∙ ap (λ m. Ok (m, rest)) (sym h.1)
varint_reads (b ∷ []) rest end first (suc k) n h short fits = below b 128 _ _ h.0 ∙ ap (λ m. Ok (m, rest)) (sym h.1)
varint_reads (b ∷ c ∷ bs) rest end first zero n h short fits = absurd (omega arith)
varint_reads (b ∷ c ∷ bs) rest end first (suc k) n h short fits =
    let e = pow-suc 128 k in
    let more = varint_reads (c ∷ bs) rest end first k h.2 h.4 (omega arith) (omega (arith, e, h.0, h.1, h.3)) in
    let joined : b - 128 + 128 * h.2 ≡ n = omega (arith, h.0, h.3) in
    above b 128 _ _ h.0 ∙ ap (λ r. r >>= λ m. Ok (b - 128 + 128 * m.0, m.1)) more ∙ ap (λ m. Ok (m, rest)) joined

more : (b : ℕ) (bs : List ℕ) (high : ℕ) (left : List ℕ) (n : ℕ) (rest : List ℕ) (k : ℕ) → 128 ≤ b → b < 256 → StartsWithNumber bs high left (k + 1)
    → ◌≡◌ {A = ℕ × List ℕ} (b - 128 + 128 * high, left) (n, rest) → StartsWithNumber (b ∷ bs) n rest (suc k + 1)
more b bs high left n rest k large small read e =
    let value : b - 128 + 128 * high ≡ n = ap (λ (m : ℕ × List ℕ). m.0) e in
    let same : left ≡ rest = ap (λ (m : ℕ × List ℕ). m.1) e in
    record {
      front = b ∷ read.front;
      parts = ap (λ l. b ∷ l) (read.parts ∙ ap (λ l. read.front ++ l) same);
      spelled = varint_front b n high read.front large small (omega arith) read.spelled;
      short = let s = read.short in omega arith;
    }

varint_was : (bytes : List ℕ) (end first k n : ℕ) (rest : List ℕ) → IsBytes bytes → varint_at end first k bytes ≡ Ok (n, rest) → StartsWithNumber bytes n rest (k + 1)
varint_was [] end first zero n rest fits h = absurd (cc)
varint_was [] end first (suc k) n rest fits h = absurd (cc)
varint_was (b ∷ bs) end first zero n rest fits h = elim (cases_lt b 2) [
  | inl small ↦
      let e = ok_is _ _ (sym (below b 2 (Ok (b, bs)) (Err (BadVarint first)) small) ∙ h) in
      record { front = b ∷ []; parts = ap (λ (m : ℕ × List ℕ). b ∷ m.1) e; spelled = (omega arith, sym (ap (λ (m : ℕ × List ℕ). m.0) e)); short = omega arith }
  | inr large ↦ absurd (let e = sym (above b 2 (Ok (b, bs)) (Err (BadVarint first)) large) ∙ h in cc)
]
varint_was (b ∷ bs) end first (suc k) n rest fits h = elim (cases_lt b 128) [
  | inl small ↦
      let e = ok_is _ _ (sym (below b 128 (Ok (b, bs)) (varint_at end first k bs >>= λ m. Ok (b - 128 + 128 * m.0, m.1)) small) ∙ h) in
      record { front = b ∷ []; parts = ap (λ (m : ℕ × List ℕ). b ∷ m.1) e; spelled = (small, sym (ap (λ (m : ℕ × List ℕ). m.0) e)); short = omega arith }
  | inr large ↦
      let g = bind_ok (varint_at end first k bs) (λ m. Ok (b - 128 + 128 * m.0, m.1)) (n, rest) (sym (above b 128 (Ok (b, bs)) (varint_at end first k bs >>= λ m. Ok (b - 128 + 128 * m.0, m.1)) large) ∙ h) in
      let e = ok_is _ _ g.2 in
      more b bs g.0.0 g.0.1 n rest k large (fits 0) (varint_was bs end first k g.0.0 g.0.1 (λ i. fits (suc i)) g.1) e
]

pub number_reads : (end n : ℕ) (front rest : List ℕ) → IsVarint front n → length front ≤ 10 → n < 2 ^ 64 → number_at end (front ++ rest) ≡ Ok (n, rest)
unfolding number_at
number_reads end n front rest h short fits = varint_reads front rest end _ 9 n h short (omega arith)

pub number_was : (end n : ℕ) (bytes rest : List ℕ) → IsBytes bytes → number_at end bytes ≡ Ok (n, rest) → StartsWithNumber bytes n rest 10
unfolding number_at
number_was end n bytes rest fits h = varint_was bytes end _ 9 n rest fits h
