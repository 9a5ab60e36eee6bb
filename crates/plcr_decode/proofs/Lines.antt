-- How a loop writes the texts of several, one after the other.
use Rattle.std.proofs.Common.{◌≡◌, ℕ, zero, suc, ◌+◌, ◌/◌, ◌%◌, ◌<◌, ◌≤◌, List, [], ◌∷◌, ◌++◌, length, map, take, drop, set, get_or, refl, sym, ap, subst, ◌∙◌, append_assoc, append-nil, add-one, arith}
use Rattle.plcr_wire.specs.Pen.{Pen, Wrote}
use Rattle.plcr_wire.proofs.Writing.{wrote_twice}
use Rattle.plcr_decode.specs.Text.{all_from, hex_digit, hex}

module _ {A : Type 0} (text : ℕ → A → List ℕ) where
  -- one more after the first i
  pub all_next : (xs : List A) (i n : ℕ) (d : A) → i < length xs → all_from text n (take (suc i) xs) ≡ all_from text n (take i xs) ++ text (n + i) (get_or xs i d)
  all_next [] i n d h = absurd (omega arith)
  all_next (x ∷ xs) zero n d h = let e : n + 0 ≡ n = omega arith in rw e (append-nil (text n x))
  all_next (x ∷ xs) (suc i) n d h =
      let e : n + 1 + i ≡ n + suc i = omega arith in
      ap (λ l. text n x ++ l) (all_next xs i (n + 1) d (omega arith) ∙ ap (λ m. all_from text (n + 1) (take i xs) ++ text m (get_or xs i d)) e)
      ∙ sym (append_assoc (text n x) (all_from text (n + 1) (take i xs)) (text (n + suc i) (get_or xs i d)))

  pub wrote_next : (old mid new : Pen) (xs : List A) (i : ℕ) (d : A) → i < length xs → Wrote old mid (all_from text 0 (take i xs)) → Wrote mid new (text i (get_or xs i d)) → Wrote old new (all_from text 0 (take (i + 1) xs))
  wrote_next old mid new xs i d h before wrote =
      let e : 0 + i ≡ i = omega arith in
      let parts : all_from text 0 (take (i + 1) xs) ≡ all_from text 0 (take i xs) ++ text i (get_or xs i d) =
      rw (add-one i) (all_next xs i 0 d h ∙ ap (λ m. all_from text 0 (take i xs) ++ text m (get_or xs i d)) e) in
      subst (Wrote old new) (sym parts) (wrote_twice old mid new (all_from text 0 (take i xs)) (text i (get_or xs i d)) before wrote)

  -- the same, of an item that was read
  pub wrote_item : (old mid new : Pen) (xs : List A) (i : ℕ) (x : A) → i < length xs → x ≡ get_or xs i x → Wrote old mid (all_from text 0 (take i xs)) → Wrote mid new (text i x) → Wrote old new (all_from text 0 (take (i + 1) xs))
  wrote_item old mid new xs i x h is before wrote = wrote_next old mid new xs i x h before (subst (λ (y : A). Wrote mid new (text i y)) is wrote)

take_all : {A : Type 0} (xs : List A) → take (length xs) xs ≡ xs
take_all [] = refl
take_all (x ∷ xs) = ap (λ l. x ∷ l) (take_all xs)

pub wrote_all : {A : Type 0} (text : ℕ → A → List ℕ) (old new : Pen) (xs : List A) (i : ℕ) → length xs ≤ i → i ≤ length xs → Wrote old new (all_from text 0 (take i xs)) → Wrote old new (all_from text 0 xs)
wrote_all text old new xs i p q wrote =
    let e : i ≡ length xs = omega arith in
    subst (λ l. Wrote old new (all_from text 0 l)) (ap (λ j. take j xs) e ∙ take_all xs) wrote

pub all_map : {A : Type 0} (text : ℕ → List ℕ → List ℕ) (word : A → List ℕ) (n : ℕ) (xs : List A) → all_from (λ k x. text k (word x)) n xs ≡ all_from text n (map word xs)
all_map text word n [] = refl
all_map text word n (x ∷ xs) = ap (λ l. text n (word x) ++ l) (all_map text word (n + 1) xs)

hex_next : (j n : ℕ) → hex (suc j) n ≡ hex j (n / 16) ++ hex_digit (n % 16) ∷ []
unfolding hex
hex_next j n = refl

drop_set : (xs : List ℕ) (j d : ℕ) → j < length xs → drop j (set xs j d) ≡ d ∷ drop (suc j) xs
drop_set [] j d h = absurd (omega arith)
drop_set (x ∷ xs) zero d h = refl
drop_set (x ∷ xs) (suc j) d h = drop_set xs j d (omega arith)

-- one more digit before those that are there
pub digits_more : (k j p rest d : ℕ) (digits all : List ℕ) → k ≡ suc j → p ≡ j → j < length digits → d ≡ hex_digit (rest % 16) → hex k rest ++ drop k digits ≡ all
    → hex j (rest / 16) ++ drop j (set digits p d) ≡ all
digits_more k j p rest d digits all e q h is before =
    let more : hex (suc j) rest ++ drop (suc j) digits ≡ all = rw e at before in
    ap (λ p. hex j (rest / 16) ++ drop j (set digits p d)) q
    ∙ ap (λ l. hex j (rest / 16) ++ l) (drop_set digits j d h)
    ∙ sym (append_assoc (hex j (rest / 16)) (d ∷ []) (drop (suc j) digits))
    ∙ ap (λ l. l ++ drop (suc j) digits) (ap (λ x. hex j (rest / 16) ++ x ∷ []) is ∙ sym (hex_next j rest))
    ∙ more

-- all digits are there
pub digits_all : (k rest : ℕ) (digits all : List ℕ) → k ≡ 0 → hex k rest ++ drop k digits ≡ all → digits ≡ all
unfolding hex
digits_all zero rest digits all e h = h
digits_all (suc k) rest digits all e h = absurd (omega arith)

-- the digits of a byte
pub pair_is : (b x y : ℕ) → b < 256 → x ≡ hex_digit (b / 16) → y ≡ hex_digit (b % 16) → x ∷ y ∷ [] ≡ hex 2 b
unfolding hex
pair_is b x y h high low =
    let e : b / 16 % 16 ≡ b / 16 = omega arith in
    ap (λ x. x ∷ y ∷ []) (high ∙ ap hex_digit (sym e)) ∙ ap (λ y. hex_digit (b / 16 % 16) ∷ y ∷ []) low
