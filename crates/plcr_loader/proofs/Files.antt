-- Bytes of a file.
use Rattle.std.proofs.Common.{◌≡◌, ◌≤◌, ◌<◌, ℕ, ◌+◌, ◌-◌, true, false, List, length, take, drop, Some, None, is_some, nat_le, if◌then◌else◌, refl, sym, ap, ◌∙◌, arith}
use Rattle.std.proofs.lemmas.List.{take-take}
use Rattle.plcr_loader.specs.Commands.{IsPlain}
use Rattle.std.proofs.lemmas.Bool.Decides.{nat_tests}
use Rattle.plcr_loader.specs.Sources.{file_bytes}

-- bytes are there where they end within the file
pub file_has : (file : List ℕ) (at n : ℕ) → is_some (file_bytes file at n) ≡ nat_le (at + n) (length file)
unfolding file_bytes
file_has file at n =
    elim (nat_le (at + n) (length file)) as (λ b. is_some (if b then Some (take n (drop at file)) else None) ≡ b) [ true ↦ refl | false ↦ refl ]

-- what is there
pub file_piece : (file : List ℕ) (at n : ℕ) → at + n ≤ length file → file_bytes file at n ≡ Some (take n (drop at file))
unfolding file_bytes
file_piece file at n h = grind (arith, nat_tests)

-- past the end there is nothing
pub file_past : (file : List ℕ) (at n : ℕ) → length file < at + n → file_bytes file at n ≡ None
unfolding file_bytes
file_past file at n h = grind (arith, nat_tests)

-- the test by a difference
pub le_rest : (at n m : ℕ) → at ≤ m → nat_le n (m - at) ≡ nat_le (at + n) m
le_rest at n m h = grind (arith, nat_tests)

-- what is there ends within the file
pub within_file : (file : List ℕ) (at n : ℕ) (xs : List ℕ) → file_bytes file at n ≡ Some xs → at + n ≤ length file
within_file file at n xs there =
    let has : nat_le (at + n) (length file) ≡ true = sym (file_has file at n) ∙ ap is_some there in
    grind (arith, nat_tests)

-- fewer bytes from the same place of a file
pub files_are_plain : (file : List ℕ) → IsPlain (file_bytes file)
files_are_plain file = record {
  front = λ at m n xs le there.
      let within : at + n ≤ length file = within_file file at n xs there in
      let piece : Some (take n (drop at file)) ≡ Some xs = sym (file_piece file at n within) ∙ there in
      let same : take n (drop at file) ≡ xs = cc in
      file_piece file at m (omega arith) ∙ ap Some (sym (take-take m n (drop at file) le) ∙ ap (λ ys. take m ys) same);
}
