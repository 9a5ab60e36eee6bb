-- The words of a name spell the name: what a caller stores is what the load has.
use Rattle.std.proofs.Common.{◌≡◌, ℕ, zero, suc, ◌+◌, ◌*◌, ◌/◌, ◌%◌, ◌^◌, ◌<◌, List, [], ◌∷◌, ◌++◌, refl, sym, ap, ◌∙◌, arith, length, take}
use Rattle.std.proofs.lemmas.List.{take_all}
use Rattle.std.specs.Int.{byte_at, bytes_low_first}
use Rattle.byteorder.specs.Endian.{little_bytes}
use Rattle.plcr_base.specs.Bytes.{IsBytes}
use Rattle.plcr_base.specs.Numbers.{u64_in}
use Rattle.plcr_base.proofs.Words.{bytes_from, bytes_from-parts, take-bytes_from, word_bytes}
use Rattle.plcr_nodes.specs.declared.view.Store.{Store}
use Rattle.plcr_nodes.specs.Names.{stored_or, stored_bytes, words_of, name_in}

stored_spell : (n : ℕ) (name : List ℕ) (ss : List Store) → IsBytes name → (c j : ℕ) → ((i : ℕ) → i < c → stored_or n (2 + j + i + 1) ss ≡ u64_in name (8 * (j + i)))
    → stored_bytes n (2 + j) c ss ≡ bytes_from (8 * j) (8 * c) name
stored_spell n name ss b zero j words = refl
stored_spell n name ss b (suc c) j words =
    let first : stored_or n (2 + j + 1) ss ≡ u64_in name (8 * j) = let x : 2 + j + 1 ≡ 2 + j + 0 + 1 = omega arith in let y : 8 * (j + 0) ≡ 8 * j = omega arith in
    ap (λ k. stored_or n k ss) x ∙ words 0 (omega arith) ∙ ap (u64_in name) y in
    let rest = stored_spell n name ss b c (j + 1) (λ i below. let x : 2 + (j + 1) + i + 1 ≡ 2 + j + suc i + 1 = omega arith in let y : 8 * (j + suc i) ≡ 8 * (j + 1 + i) = omega arith in
    ap (λ k. stored_or n k ss) x ∙ words (suc i) (omega arith) ∙ ap (u64_in name) y) in
    let place : 2 + j + 1 ≡ 2 + (j + 1) = omega arith in
    let at : 8 * (j + 1) ≡ 8 * j + 8 = omega arith in
    (λ k. little_bytes 8 (first k) ++ stored_bytes n (place k) c ss)
    ∙ (λ k. word_bytes name (8 * j) b k ++ rest k)
    ∙ (ap (λ i. bytes_from (8 * j) 8 name ++ bytes_from i (8 * c) name) at ∙ sym (bytes_from-parts 8 (8 * c) (8 * suc c) (8 * j) name (omega arith)))

-- where the words of a name and its length are stored in a node, the name stored there is that name
pub spelled : (n : ℕ) (name : List ℕ) (ss : List Store) → IsBytes name → stored_or n 2 ss ≡ length name
    → ((k : ℕ) → k < words_of (length name) → stored_or n (k + 3) ss ≡ u64_in name (8 * k)) → name_in n ss ≡ name
spelled n name ss b len words =
    let l : ℕ = length name in
    let bytes : stored_bytes n 2 (words_of l) ss ≡ bytes_from 0 (8 * words_of l) name =
    stored_spell n name ss b (words_of l) 0 (λ i below. let x : 2 + 0 + i + 1 ≡ i + 3 = omega arith in let y : 8 * i ≡ 8 * (0 + i) = omega arith in ap (λ k. stored_or n k ss) x ∙ words i below ∙ ap (u64_in name) y) in
    ap (λ m. take m (stored_bytes n 2 (words_of m) ss)) len ∙ ap (take l) bytes ∙ take-bytes_from l (8 * words_of l) 0 name (omega arith) (omega arith) ∙ take_all l name (omega arith)

bytes_both : (xs ys : List ℕ) → IsBytes xs → IsBytes ys → IsBytes (xs ++ ys)
bytes_both [] ys a b i = b i
bytes_both (x ∷ xs) ys a b zero = a 0
bytes_both (x ∷ xs) ys a b (suc i) = bytes_both xs ys (λ k. a (suc k)) b i

pub no_bytes : IsBytes []
no_bytes i = omega arith

bytes_taken : (m : ℕ) (xs : List ℕ) → IsBytes xs → IsBytes (take m xs)
bytes_taken zero xs a i = no_bytes i
bytes_taken (suc m) [] a i = a i
bytes_taken (suc m) (x ∷ xs) a zero = a 0
bytes_taken (suc m) (x ∷ xs) a (suc i) = bytes_taken m xs (λ k. a (suc k)) i

rest_small : (m : ℕ) → m % 256 < 256
rest_small m = omega arith

byte_small : (k n : ℕ) → byte_at k n < 256
byte_small zero n = rest_small n
byte_small (suc k) n = rest_small (n / 256 ^ suc k)

word_small : (k n x : ℕ) → IsBytes (bytes_low_first k n x)
word_small k zero x i = no_bytes i
word_small k (suc n) x zero = byte_small k x
word_small k (suc n) x (suc i) = word_small (suc k) n x i

words_small : (n k count : ℕ) (ss : List Store) → IsBytes (stored_bytes n k count ss)
words_small n k zero ss i = no_bytes i
words_small n k (suc count) ss i = bytes_both (little_bytes 8 (stored_or n (k + 1) ss)) (stored_bytes n (k + 1) count ss) (word_small 0 8 (stored_or n (k + 1) ss)) (words_small n (k + 1) count ss) i

-- what is stored as a name is a list of bytes
pub name_bytes : (n : ℕ) (ss : List Store) → IsBytes (name_in n ss)
name_bytes n ss = bytes_taken (stored_or n 2 ss) (stored_bytes n 2 (words_of (stored_or n 2 ss)) ss) (words_small n 2 (words_of (stored_or n 2 ss)) ss)
