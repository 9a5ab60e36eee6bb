-- Bytes up to a place.
use Rattle.std.proofs.Common.{◌≡◌, ◌≤◌, ◌<◌, ℕ, ◌+◌, List, None, option_map, true, false, slice_index, refl, ap, arith}
use Rattle.std.specs.Prelude.{is_some, nat_le}
use Rattle.std.proofs.lemmas.Bool.Decides.{nat_tests}
use Rattle.byteorder.specs.Endian.{little_number}
use Rattle.plcr_leb128.specs.Cells.{Source, bytes_of, number_in}
use Rattle.plcr_dwarf_cfi.specs.Sections.{front_of}

front_run : (end n place : ℕ) (source : Source) → place + n ≤ end → front_of end source place n ≡ source place n
unfolding front_of
front_run end n place source h = let test : nat_le (place + n) end ≡ true = grind (arith, nat_tests) in rw test refl

front_past : (end n place : ℕ) (source : Source) → end < place + n → front_of end source place n ≡ None
unfolding front_of
front_past end n place source h = let test : nat_le (place + n) end ≡ false = grind (arith, nat_tests) in rw test refl

pub front_number : (end n place : ℕ) (source : Source) → place + n ≤ end → number_in n (front_of end source) place ≡ number_in n source place
unfolding number_in
front_number end n place source h = ap (option_map (little_number n)) (front_run end n place source h)

pub front_short : (end n place : ℕ) (source : Source) → end < place + n → number_in n (front_of end source) place ≡ None
unfolding number_in
front_short end n place source h = ap (option_map (little_number n)) (front_past end n place source h)

pub front_byte : (end place : ℕ) (source : Source) → place + 1 ≤ end → bytes_of (front_of end source) place ≡ bytes_of source place
unfolding bytes_of
front_byte end place source h = ap (option_map (λ (bytes : List ℕ). slice_index bytes 0)) (front_run end 1 place source h)

pub front_end : (end place : ℕ) (source : Source) → end < place + 1 → bytes_of (front_of end source) place ≡ None
unfolding bytes_of
front_end end place source h = ap (option_map (λ (bytes : List ℕ). slice_index bytes 0)) (front_past end 1 place source h)

pub front_has : (end n place : ℕ) (source : Source) → place + n ≤ end → is_some (front_of end source place n) ≡ is_some (source place n)
front_has end n place source h = ap is_some (front_run end n place source h)

pub front_lacks : (end n place : ℕ) (source : Source) → end < place + n → is_some (front_of end source place n) ≡ false
front_lacks end n place source h = ap is_some (front_past end n place source h)
