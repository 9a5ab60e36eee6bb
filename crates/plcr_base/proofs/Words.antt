-- The bytes of a list, read in words of 8.
use Rattle.std.proofs.Common.{◌≡◌, ℕ, zero, suc, ◌+◌, ◌*◌, ◌<◌, ◌≤◌, List, [], ◌∷◌, ◌++◌, refl, sym, ap, ◌∙◌, subst, arith, length, take, drop, slice_index}
use Rattle.std.proofs.lemmas.List.{get_or-drop}
use Rattle.std.proofs.Math.ListN.{get_or-eq_default}
use Rattle.std.proofs.Math.Seq.{drop-cons}
use Rattle.std.specs.Int.{byte_at}
use Rattle.byteorder.specs.Endian.{little_bytes}
use Rattle.plcr_base.specs.Bytes.{IsBytes}
use Rattle.plcr_base.specs.Numbers.{u64_in}

-- past the end a byte reads as zero
pub past_end : (xs : List ℕ) (i : ℕ) → length xs ≤ i → slice_index xs i ≡ 0
past_end xs i h = get_or-eq_default xs 0 h

-- the 8 bytes of the number that 8 bytes make
eight : (a b c d e f g h : ℕ) → a < 256 → b < 256 → c < 256 → d < 256 → e < 256 → f < 256 → g < 256 → h < 256
    → little_bytes 8 (a + 256 * (b + 256 * (c + 256 * (d + 256 * (e + 256 * (f + 256 * (g + 256 * (h + 256 * 0)))))))) ≡ a ∷ b ∷ c ∷ d ∷ e ∷ f ∷ g ∷ h ∷ []
eight a b c d e f g h la lb lc ld le lf lg lh =
    let n : ℕ = a + 256 * (b + 256 * (c + 256 * (d + 256 * (e + 256 * (f + 256 * (g + 256 * (h + 256 * 0))))))) in
    let p0 : byte_at 0 n ≡ a = omega arith in
    let p1 : byte_at 1 n ≡ b = omega arith in
    let p2 : byte_at 2 n ≡ c = omega arith in
    let p3 : byte_at 3 n ≡ d = omega arith in
    let p4 : byte_at 4 n ≡ e = omega arith in
    let p5 : byte_at 5 n ≡ f = omega arith in
    let p6 : byte_at 6 n ≡ g = omega arith in
    let p7 : byte_at 7 n ≡ h = omega arith in
    λ i. p0 i ∷ p1 i ∷ p2 i ∷ p3 i ∷ p4 i ∷ p5 i ∷ p6 i ∷ p7 i ∷ []

-- the bytes from place i on, so many, with zeros past the end
abbrev pub bytes_from : ℕ → ℕ → List ℕ → List ℕ
bytes_from i zero xs = []
bytes_from i (suc k) xs = slice_index xs i ∷ bytes_from (suc i) k xs

-- so many and then so many more
pub bytes_from-parts : (a b c i : ℕ) (xs : List ℕ) → c ≡ a + b → bytes_from i c xs ≡ bytes_from i a xs ++ bytes_from (i + a) b xs
bytes_from-parts zero b c i xs e = let z : c ≡ b = omega arith in let y : i ≡ i + 0 = omega arith in λ k. bytes_from (y k) (z k) xs
bytes_from-parts (suc a) b zero i xs e = absurd (omega arith)
bytes_from-parts (suc a) b (suc c) i xs e =
    let y : suc i + a ≡ i + suc a = omega arith in
    ap (λ (l : List ℕ). slice_index xs i ∷ l) (bytes_from-parts a b c (suc i) xs (omega arith) ∙ ap (λ j. bytes_from (suc i) a xs ++ bytes_from j b xs) y)

-- a front of them, within the list, is a piece of the list
pub take-bytes_from : (m k i : ℕ) (xs : List ℕ) → m ≤ k → i + m ≤ length xs → take m (bytes_from i k xs) ≡ take m (drop i xs)
take-bytes_from zero k i xs h l = refl
take-bytes_from (suc m) zero i xs h l = absurd (omega arith)
take-bytes_from (suc m) (suc k) i xs h l =
    ap (λ (t : List ℕ). slice_index xs i ∷ t) (take-bytes_from m k (suc i) xs (omega arith) (omega arith)) ∙ sym (ap (take (suc m)) (drop-cons xs i 0 (omega arith)))

-- the bytes of one word
pub word_bytes : (name : List ℕ) (at : ℕ) → IsBytes name → little_bytes 8 (u64_in name at) ≡ bytes_from at 8 name
unfolding u64_in
word_bytes name at b =
    let s : ℕ → ℕ = λ i. slice_index (drop at name) i in
    let same : (i j : ℕ) → j ≡ at + i → s i ≡ slice_index name j = λ i j e. get_or-drop at name i 0 ∙ ap (λ q. slice_index name q) (sym e) in
    let small : (i : ℕ) → s i < 256 = λ i. subst (λ x. x < 256) (sym (same i (at + i) refl)) (b (at + i)) in
    eight (s 0) (s 1) (s 2) (s 3) (s 4) (s 5) (s 6) (s 7) (small 0) (small 1) (small 2) (small 3) (small 4) (small 5) (small 6) (small 7)
    ∙ (λ k. same 0 at (omega arith) k ∷ same 1 (suc at) (omega arith) k ∷ same 2 (suc (suc at)) (omega arith) k ∷ same 3 (suc (suc (suc at))) (omega arith) k
    ∷ same 4 (suc (suc (suc (suc at)))) (omega arith) k ∷ same 5 (suc (suc (suc (suc (suc at))))) (omega arith) k
    ∷ same 6 (suc (suc (suc (suc (suc (suc at)))))) (omega arith) k ∷ same 7 (suc (suc (suc (suc (suc (suc (suc at))))))) (omega arith) k ∷ [])
