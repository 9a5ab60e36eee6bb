-- The bytes of a list, read in words of 8.
use Rattle.std.proofs.Common.{◌≡◌, inl, inr, ℕ, ◌+◌, ◌-◌, ◌*◌, ◌<◌, ◌≤◌, min, List, ◌++◌, sym, ap, ◌∙◌, arith, length, take, drop}
use Rattle.std.proofs.lemmas.Bool.{cases_lt}
use Rattle.std.proofs.lemmas.List.{take_all}
use Rattle.std.proofs.Math.Seq.{take-add}
use Rattle.std.specs.Int.{w64, to_le_bytes}
use Rattle.plcr_base.specs.Bytes.{IsBytes}
use Rattle.plcr_base.specs.Numbers.{u64_in}
use Rattle.plcr_base.proofs.Words.{take-bytes_from, word_bytes}

-- two fronts are one where the shorter has all
take-same : (m n : ℕ) (xs : List ℕ) → m ≤ n → (m < n → length xs ≤ m) → take m xs ≡ take n xs
take-same m n xs h all = elim (cases_lt m n) [
  | inl below ↦ take_all m xs (all below) ∙ sym (take_all n xs (let short = all below in omega (arith, short, h)))
  | inr above ↦ let e : m ≡ n = omega arith in ap (λ k. take k xs) e
]

-- one more word of a list, whose last word may be short
pub word_more : (name have more : List ℕ) (j word : ℕ) → IsBytes name → 8 * j < length name → word ≡ u64_in name (8 * j) → have ≡ take (8 * j) name
    → more ≡ have ++ take (min (length name - 8 * j) 8) (to_le_bytes w64 word) → more ≡ take (8 * (j + 1)) name
word_more name have more j word bytes inside is before after =
    let m : ℕ = min (length name - 8 * j) 8 in
    let chunk : take m (to_le_bytes w64 word) ≡ take m (drop (8 * j) name) =
    ap (λ w. take m (to_le_bytes w64 w)) is ∙ ap (take m) (word_bytes name (8 * j) bytes) ∙ take-bytes_from m 8 (8 * j) name (omega arith) (omega arith) in
    after ∙ (λ k. before k ++ chunk k) ∙ sym (take-add (8 * j) m name) ∙ take-same (8 * j + m) (8 * (j + 1)) name (omega arith) (λ below. omega arith)
