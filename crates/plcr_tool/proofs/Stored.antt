-- What a memory over bytes holds: each of its bytes is below 256, so the numbers in them are small.
use Rattle.std.proofs.Common.{◌≡◌, ℕ, zero, suc, ◌+◌, ◌*◌, ◌^◌, ◌<◌, Bool, true, false, cond, List, [], ◌∷◌, length, drop, Option, Some, refl, sym, ap, subst, arith, lit<}
use Rattle.std.specs.Prelude.{IfSome}
use Rattle.std.proofs.lemmas.List.{get_or-drop}
use Rattle.plcr_base.specs.Bytes.{IsBytes}
use Rattle.plcr_memory.specs.declared.region.Region.{Region}
use Rattle.plcr_memory.specs.Regions.{Contents, covers, byte_in, byte_among, byte_at, bytes_at}
use Rattle.plcr_loader.specs.Fields.{number}
use Rattle.plcr_memory.proofs.Fronts.{cons_known_some}

-- so many bytes
pub record IsPiece (n : ℕ) (xs : List ℕ) : Type 0 where
  pub length : length xs ≡ n
  pub bytes : IsBytes xs

chosen_small : (t : Bool) (x y : ℕ) → x < 256 → y < 256 → cond t x y < 256
chosen_small true x y h k = h
chosen_small false x y h k = k

in_small : (file : List ℕ) (r : Region) (a : ℕ) → IsBytes file → byte_in file r a < 256
in_small file r a bytes = chosen_small _ _ 0 (bytes _) (lit< tt)

-- what a test finds, or what is found behind it
pub first_found : {A : Type 0} (P : A → Type 0) (t : Bool) (x : A) (o : Option A) → (t ≡ true → P x) → IfSome o P → IfSome (cond t (Some x) o) P
first_found P true x o here later = here refl
first_found P false x o here later = later

among_small : (file : List ℕ) (rs : List Region) (a : ℕ) → IsBytes file → IfSome (byte_among file rs a) (λ b. b < 256)
among_small file [] a bytes = tt
among_small file (r ∷ rs) a bytes = first_found (λ b. b < 256) (covers r a) (byte_in file r a) (byte_among file rs a) (λ _. in_small file r a bytes) (among_small file rs a bytes)

known : {A : Type 0} (P : A → Type 0) (o : Option A) (x : A) → o ≡ Some x → IfSome o P → P x
known P o x same holds = subst (λ o. IfSome o P) same holds

front_bytes : (b : ℕ) (bs : List ℕ) → b < 256 → IsBytes bs → IsBytes (b ∷ bs)
front_bytes b bs small bytes zero = small
front_bytes b bs small bytes (suc i) = bytes i

-- what a memory tells from an address on
pub piece_there : (m : Contents) (a n : ℕ) (xs : List ℕ) → IsBytes m.file → bytes_at m a n ≡ Some xs → IsPiece n xs
piece_there m a zero xs bytes h =
    let none : [] ≡ xs = cc in
    subst (IsPiece 0) none (record { length = refl; bytes = λ i. lit< tt })
piece_there m a (suc n) xs bytes h =
    let p = cons_known_some (byte_at m a) (bytes_at m (a + 1) n) xs h in
    let rest = piece_there m (a + 1) n p.1 bytes p.3 in
    let small = known (λ b. b < 256) (byte_at m a) p.0 p.2 (among_small m.file m.regions a bytes) in
    subst (IsPiece (suc n)) (sym p.4) (record { length = ap (λ k. suc k) rest.length; bytes = front_bytes p.0 p.1 small rest.bytes })

pub dropped_bytes : (n : ℕ) (xs : List ℕ) → IsBytes xs → IsBytes (drop n xs)
dropped_bytes n xs bytes i = subst (λ x. x < 256) (sym (get_or-drop n xs i 0)) (bytes (n + i))

of_four : (a b c d : ℕ) → a < 256 → b < 256 → c < 256 → d < 256 → a + 256 * (b + 256 * (c + 256 * (d + 256 * 0))) < 2 ^ 32
of_four a b c d la lb lc ld = omega arith

of_eight : (a b c d e f g h : ℕ) → a < 256 → b < 256 → c < 256 → d < 256 → e < 256 → f < 256 → g < 256 → h < 256
    → a + 256 * (b + 256 * (c + 256 * (d + 256 * (e + 256 * (f + 256 * (g + 256 * (h + 256 * 0))))))) < 2 ^ 64
of_eight a b c d e f g h la lb lc ld le lf lg lh = omega arith

-- the number in a field of 4 bytes
pub four_small : (at : ℕ) (xs : List ℕ) → IsBytes xs → number (record { at = at; size = 4 }) xs < 2 ^ 32
unfolding number
four_small at xs bytes =
    let b = dropped_bytes at xs bytes in
    of_four _ _ _ _ (b 0) (b 1) (b 2) (b 3)

-- the number in a field of 8 bytes
pub eight_small : (at : ℕ) (xs : List ℕ) → IsBytes xs → number (record { at = at; size = 8 }) xs < 2 ^ 64
unfolding number
eight_small at xs bytes =
    let b = dropped_bytes at xs bytes in
    of_eight _ _ _ _ _ _ _ _ (b 0) (b 1) (b 2) (b 3) (b 4) (b 5) (b 6) (b 7)
