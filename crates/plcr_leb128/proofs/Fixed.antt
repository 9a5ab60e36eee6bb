-- Numbers of a fixed size and single bytes, in a piece of memory and in a list.
use Rattle.std.proofs.Common.{◌≡◌, ◌≤◌, ◌<◌, ℕ, zero, suc, ◌+◌, ◌%◌, ◌^◌, inl, inr, List, [], Option, Some, None, option_map, true, false, length, take, drop, slice_index, refl, sym, ap, ◌∙◌, arith}
use Rattle.std.specs.Prelude.{is_some, nat_le}
use Rattle.std.proofs.lemmas.Bool.{cases_lt}
use Rattle.std.proofs.lemmas.Bool.Decides.{nat_tests}
use Rattle.std.proofs.Math.Seq.{drop-cons}
use Rattle.byteorder.specs.Endian.{little_number}
use Rattle.byteorder.specs.Numbers.{little_from-take}
use Rattle.plcr_memory.specs.Regions.{Contents, byte_at, bytes_at, cons_known, number_at}
use Rattle.plcr_memory.proofs.Fronts.{bytes_count, bytes_within}
use Rattle.plcr_leb128.specs.Cells.{bytes_of, number_in, piece_bytes, list_bytes}

-- bytes within a piece are those of the memory
pub piece_run : (m : Contents) (at size n place : ℕ) → place + n ≤ size → piece_bytes m at size place n ≡ bytes_at m ((at + place) % 2 ^ 64) n
unfolding piece_bytes
piece_run m at size n place h = let test : nat_le (place + n) size ≡ true = grind (arith, nat_tests) in rw test refl

-- and past its end there are none
pub piece_past : (m : Contents) (at size n place : ℕ) → size < place + n → piece_bytes m at size place n ≡ None
unfolding piece_bytes
piece_past m at size n place h = let test : nat_le (place + n) size ≡ false = grind (arith, nat_tests) in rw test refl

-- a number within a piece
pub piece_number : (m : Contents) (at size n place : ℕ) → place + n ≤ size → number_in n (piece_bytes m at size) place ≡ number_at n m ((at + place) % 2 ^ 64)
unfolding number_in number_at
piece_number m at size n place h = ap (option_map (little_number n)) (piece_run m at size n place h)

pub piece_short : (m : Contents) (at size n place : ℕ) → size < place + n → number_in n (piece_bytes m at size) place ≡ None
unfolding number_in
piece_short m at size n place h = ap (option_map (little_number n)) (piece_past m at size n place h)

-- a byte within a piece
alone : (o : Option ℕ) → option_map (λ bytes. slice_index bytes 0) (cons_known o (Some [])) ≡ o
alone None = refl
alone (Some b) = refl

pub piece_byte : (m : Contents) (at size place : ℕ) → place + 1 ≤ size → bytes_of (piece_bytes m at size) place ≡ byte_at m ((at + place) % 2 ^ 64)
unfolding bytes_of
piece_byte m at size place h = ap (option_map (λ bytes. slice_index bytes 0)) (piece_run m at size 1 place h) ∙ alone (byte_at m ((at + place) % 2 ^ 64))

pub piece_end : (m : Contents) (at size place : ℕ) → size < place + 1 → bytes_of (piece_bytes m at size) place ≡ None
unfolding bytes_of
piece_end m at size place h = ap (option_map (λ bytes. slice_index bytes 0)) (piece_past m at size 1 place h)

-- bytes within a list
list_run : (xs : List ℕ) (n place : ℕ) → place + n ≤ length xs → list_bytes xs place n ≡ Some (take n (drop place xs))
unfolding list_bytes
list_run xs n place h = let test : nat_le (place + n) (length xs) ≡ true = grind (arith, nat_tests) in rw test refl

list_past : (xs : List ℕ) (n place : ℕ) → length xs < place + n → list_bytes xs place n ≡ None
unfolding list_bytes
list_past xs n place h = let test : nat_le (place + n) (length xs) ≡ false = grind (arith, nat_tests) in rw test refl

-- a number within a list
pub list_number : (xs : List ℕ) (n place : ℕ) → place + n ≤ length xs → number_in n (list_bytes xs) place ≡ Some (little_number n (drop place xs))
unfolding number_in
list_number xs n place h = ap (option_map (little_number n)) (list_run xs n place h) ∙ ap Some (little_from-take 0 n n (drop place xs) (omega arith))

pub list_short : (xs : List ℕ) (n place : ℕ) → length xs < place + n → number_in n (list_bytes xs) place ≡ None
unfolding number_in
list_short xs n place h = ap (option_map (little_number n)) (list_past xs n place h)

-- a byte within a list
pub list_byte : (xs : List ℕ) (place : ℕ) → place + 1 ≤ length xs → bytes_of (list_bytes xs) place ≡ Some (slice_index xs place)
unfolding bytes_of
list_byte xs place h =
    ap (option_map (λ bytes. slice_index bytes 0)) (list_run xs 1 place h)
    ∙ ap (λ (ys : List ℕ). let byte : Option ℕ = Some (slice_index (take 1 ys) 0) in byte) (drop-cons xs place 0 (omega (arith, h)))

pub list_end : (xs : List ℕ) (place : ℕ) → length xs < place + 1 → bytes_of (list_bytes xs) place ≡ None
unfolding bytes_of
list_end xs place h = ap (option_map (λ bytes. slice_index bytes 0)) (list_past xs 1 place h)

-- whether bytes are within a piece and mapped
pub piece_has : (m : Contents) (at size n place : ℕ) → place + n ≤ size → is_some (piece_bytes m at size place n) ≡ is_some (bytes_at m ((at + place) % 2 ^ 64) n)
piece_has m at size n place h = ap is_some (piece_run m at size n place h)

pub piece_lacks : (m : Contents) (at size n place : ℕ) → size < place + n → is_some (piece_bytes m at size place n) ≡ false
piece_lacks m at size n place h = ap is_some (piece_past m at size n place h)

-- whether bytes are within a list
pub list_has : (xs : List ℕ) (n place : ℕ) → place + n ≤ length xs → is_some (list_bytes xs place n) ≡ true
list_has xs n place h = ap is_some (list_run xs n place h)

pub list_lacks : (xs : List ℕ) (n place : ℕ) → length xs < place + n → is_some (list_bytes xs place n) ≡ false
list_lacks xs n place h = ap is_some (list_past xs n place h)

-- bytes that end within the addresses of 64 bits stand where they are counted from an address, modulo 2^64
bytes_modulo : (m : Contents) (at place n size : ℕ) → place + n ≤ size → at + size ≤ 2 ^ 64 → bytes_at m ((at + place) % 2 ^ 64) n ≡ bytes_at m (at + place) n
bytes_modulo m at place zero size le within = refl
bytes_modulo m at place (suc n) size le within =
    let same : (at + place) % 2 ^ 64 ≡ at + place = omega (arith, le, within) in
    ap (λ (a : ℕ). bytes_at m a (suc n)) same

-- bytes that stand one after the other in a file are those of their piece
stored_run : (m : Contents) (at size : ℕ) (xs : List ℕ) → at + size ≤ 2 ^ 64 → bytes_at m at size ≡ Some xs → (place n : ℕ) → list_bytes xs place n ≡ piece_bytes m at size place n
stored_run m at size xs within h place n =
    let count : length xs ≡ size = bytes_count m at size xs h in
    elim (cases_lt size (place + n)) [
      | inl past ↦ list_past xs n place (omega (arith, count, past)) ∙ sym (piece_past m at size n place past)
      | inr le ↦
          list_run xs n place (omega (arith, count, le)) ∙ sym (bytes_within m at n place size xs le h)
          ∙ sym (bytes_modulo m at place n size le within) ∙ sym (piece_run m at size n place le)
    ]

pub stored_bytes : (m : Contents) (at size : ℕ) (xs : List ℕ) → at + size ≤ 2 ^ 64 → bytes_at m at size ≡ Some xs → list_bytes xs ≡ piece_bytes m at size
stored_bytes m at size xs within h = λ i place n. stored_run m at size xs within h place n i
