-- A list of which at most so many are kept. The number is a variable, so that no numeral unfolds.
use Rattle.std.proofs.Common.{◌≡◌, ℕ, zero, suc, refl, ◌<◌, ◌≤◌, List, [], ◌∷◌, ◌++◌, length, take, Option, Some, None, sym, ap, ◌∙◌, arith, append-nil, length-append, All, IfSome}
use Rattle.std.specs.Option.{option_to_list}
use Rattle.std.proofs.lemmas.List.Elements.{All-append, All-nil, All-push}
use Rattle.std.proofs.lemmas.List.{take_all, take_at, length-take}

-- all of a list that is short enough are kept
pub kept_more : {X : Type 0} (n : ℕ) (xs : List X) (x : X) → length xs < n → xs ++ x ∷ [] ≡ take n (xs ++ x ∷ [])
kept_more n xs x h = sym (take_all n (xs ++ x ∷ []) (omega (arith, length-append xs (x ∷ []))))

-- nothing is kept beside a list that is long enough
pub kept_full : {X : Type 0} (n : ℕ) (xs ys : List X) → length xs ≤ n → n ≤ length xs → xs ≡ take n (xs ++ ys)
kept_full n xs ys h k = sym (take_at xs ys n (omega arith))

pub kept_same : {X : Type 0} (n : ℕ) (xs : List X) → length xs ≤ n → xs ≡ take n (xs ++ [])
kept_same n xs h = sym (ap (take n) (append-nil xs) ∙ take_all n xs h)

pub kept_few : {X : Type 0} (n : ℕ) (xs : List X) → length (take n xs) ≤ n
kept_few n xs = omega (arith, length-take n xs)

-- keeping at each step keeps the same as keeping at the end
pub kept_twice : {X : Type 0} (n : ℕ) (xs ys : List X) → take n (take n xs ++ ys) ≡ take n (xs ++ ys)
kept_twice zero xs ys = refl
kept_twice (suc n) [] ys = refl
kept_twice {X = X} (suc n) (x ∷ xs) ys = ap (λ (l : List X). x ∷ l) (kept_twice n xs ys)

-- what holds of each of a list and of one that may be there
pub All-option : {X : Type 0} (P : X → Type 0) (xs : List X) (o : Option X) → All P xs → IfSome o P → All P (xs ++ option_to_list o)
All-option P xs None h k = All-append P xs [] h (All-nil P)
All-option P xs (Some x) h k = All-push P xs x h k

pub length-option : {X : Type 0} (o : Option X) → length (option_to_list o) ≤ 1
length-option None = omega arith
length-option (Some x) = omega arith
