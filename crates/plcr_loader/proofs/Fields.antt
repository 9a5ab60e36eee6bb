-- Fields in a front of the bytes.
use Rattle.std.proofs.Common.{◌≡◌, ◌≤◌, ◌<◌, ℕ, zero, suc, ◌+◌, ◌-◌, List, [], ◌∷◌, take, drop, slice_index, refl, sym, ap, ◌∙◌, arith}
use Rattle.std.proofs.lemmas.List.{get_or-take, take-take}
use Rattle.byteorder.specs.Endian.{little_from, little_number}
use Rattle.plcr_loader.specs.declared.field.Field.{Field}
use Rattle.plcr_loader.specs.Fields.{number, bytes_of, is_named}

abbrev no_bytes : List ℕ
no_bytes = []

take_nil : (n : ℕ) → take n no_bytes ≡ no_bytes
take_nil zero = refl
take_nil (suc n) = refl

-- the rest of a front is a front of the rest
drop_take : (p r : ℕ) (xs : List ℕ) → drop p (take (p + r) xs) ≡ take r (drop p xs)
drop_take zero r xs = let e : 0 + r ≡ r = omega arith in ap (λ (n : ℕ). take n xs) e
drop_take (suc p) r [] = ap (drop (suc p)) (take_nil (suc p + r)) ∙ sym (take_nil r)
drop_take (suc p) r (x ∷ xs) =
    let e : suc p + r ≡ suc (p + r) = omega arith in
    ap (λ (n : ℕ). drop (suc p) (take n (x ∷ xs))) e ∙ drop_take p r xs

-- a number is that of its cells
same_number : (n i : ℕ) (xs ys : List ℕ) → ((k : ℕ) → i ≤ k → k < i + n → slice_index xs k ≡ slice_index ys k) → little_from i n xs ≡ little_from i n ys
same_number zero i xs ys h = refl
same_number (suc n) i xs ys h =
    let here : slice_index xs i ≡ slice_index ys i = h i (omega arith) (omega arith) in
    let others : little_from (suc i) n xs ≡ little_from (suc i) n ys = same_number n (suc i) xs ys (λ k l m. h k (omega arith) (omega arith)) in
    rw (here, others) refl

-- a number within a front
number_in_front : (w r : ℕ) (xs : List ℕ) → w ≤ r → little_number w (take r xs) ≡ little_number w xs
number_in_front w r xs h = same_number w 0 (take r xs) xs (λ k l m. get_or-take r xs k 0 (omega arith))

field_rest : (f : Field) (n : ℕ) (xs : List ℕ) → f.at ≤ n → drop f.at (take n xs) ≡ take (n - f.at) (drop f.at xs)
field_rest f n xs h =
    let e : n ≡ f.at + (n - f.at) = omega arith in
    ap (λ (k : ℕ). drop f.at (take k xs)) e ∙ drop_take f.at (n - f.at) xs

-- the number in a field that stands in a front
pub number_front : (f : Field) (n : ℕ) (xs : List ℕ) → f.at + f.size ≤ n → number f (take n xs) ≡ number f xs
unfolding number
number_front f n xs h =
    ap (little_number f.size) (field_rest f n xs (omega arith)) ∙ number_in_front f.size (n - f.at) (drop f.at xs) (omega arith)

-- the bytes of such a field
pub bytes_front : (f : Field) (n : ℕ) (xs : List ℕ) → f.at + f.size ≤ n → bytes_of f (take n xs) ≡ bytes_of f xs
unfolding bytes_of
bytes_front f n xs h =
    ap (take f.size) (field_rest f n xs (omega arith)) ∙ take-take f.size (n - f.at) (drop f.at xs) (omega arith)

pub name_front : (f : Field) (n : ℕ) (name xs : List ℕ) → f.at + f.size ≤ n → is_named f name (take n xs) ≡ is_named f name xs
name_front f n name xs h = rw (bytes_front f n xs h) refl
