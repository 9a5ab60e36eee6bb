-- LEB128 numbers, read group by group.
use Rattle.std.proofs.Common.{◌≡◌, ℕ, zero, suc, ◌+◌, ◌*◌, ◌-◌, ◌%◌, ◌^◌, ◌<◌, ◌≤◌, List, [], ◌∷◌, Some, None, Result, Ok, Err, inl, inr, true, false, nat_lt, refl, ap, ◌∙◌, arith}
use Rattle.std.specs.Prelude.{ok_or, if◌then◌else◌, ℤ, pos, negsuc, ◌+ℤ◌, ◌-ℤ◌, ◌*ℤ◌, unsigned_abs}
use Rattle.std.proofs.lemmas.Int.{int_rem_euclid_is, ints}
use Rattle.std.proofs.lemmas.Bool.Decides.{nat_tests}
use Rattle.std.proofs.lemmas.Bool.{cases_lt}
use Rattle.plcr_base.proofs.Chained.{bind_ok}
use Rattle.plcr_base.specs.Chains.{◌>>=◌, result_map}
use Rattle.plcr_leb128.specs.declared.fault.Leb128Fault.{Leb128Fault}
use Rattle.plcr_leb128.specs.declared.fault.Leb128Fault.TheVariants.{Absent, Long}
use Rattle.plcr_leb128.specs.declared.leb128.Form.{Form}
use Rattle.plcr_leb128.specs.declared.leb128.Form.TheVariants.{Unsigned, Signed}
use Rattle.plcr_leb128.specs.declared.leb128.Number.{Number}
use Rattle.plcr_leb128.specs.Cells.{Bytes}
use Rattle.plcr_leb128.specs.Leb128.{bytes_within, signed_value, signed_group, word_of}
use Rattle.plcr_leb128.specs.inner.Forms.{number_of, last_group, with_group}

-- a whole number and how it wraps: k times 2^64 more is the natural m
pub record Wraps (z : ℤ) : Type 0 where
  pub times : ℕ
  pub sum : ℕ
  pub is : z +ℤ pos (times * 2 ^ 64) ≡ pos sum

pub wraps : (z : ℤ) → Wraps z
wraps (pos n) = record { times = 0; sum = n; is = omega (arith, ints) }
wraps (negsuc n) = record { times = suc n; sum = suc n * 2 ^ 64 - suc n; is = omega (arith, ints) }

pub word_is : (z : ℤ) (k m : ℕ) → z +ℤ pos (k * 2 ^ 64) ≡ pos m → word_of z ≡ m % 2 ^ 64
word_is z k m e = ap unsigned_abs (int_rem_euclid_is z (pos (2 ^ 64)) (2 ^ 64) k m (omega arith) refl e)

-- a natural number wraps as naturals do
pub word_pos : (n : ℕ) → word_of (pos n) ≡ n % 2 ^ 64
word_pos n = word_is (pos n) 0 n (omega (arith, ints))

-- a group below a whole number
pub word_group : (g : ℕ) (z : ℤ) → word_of (pos g +ℤ pos 128 *ℤ z) ≡ (g + 128 * word_of z) % 2 ^ 64
word_group g z =
    let w = wraps z in
    let inner : word_of z ≡ w.sum % 2 ^ 64 = word_is z w.times w.sum w.is in
    let is : z +ℤ pos (w.times * 2 ^ 64) ≡ pos w.sum = w.is in
    let outer : word_of (pos g +ℤ pos 128 *ℤ z) ≡ (g + 128 * w.sum) % 2 ^ 64 = word_is (pos g +ℤ pos 128 *ℤ z) (128 * w.times) (g + 128 * w.sum) (omega (arith, ints)) in
    omega (arith, inner, outer)

-- the last group
pub word_last : (byte : ℕ) → byte < 128 → word_of (signed_group (byte % 128)) ≡ last_group Signed byte
word_last byte h = grind (arith, ints, nat_tests, word_pos, word_is (pos byte -ℤ pos 128) 1 (byte + (2 ^ 64 - 128)))

abbrev number : ℕ → ℕ → Number
number v n = record { value = v; next = n }

number_is : (v w n m : ℕ) → v ≡ w → n ≡ m → number v n ≡ number w m
number_is v w n m e d = rw (e, d) refl

-- the last byte of a number
pub ends : (form : Form) (left : ℕ) (cells : Bytes) (place byte : ℕ) → 0 < left → cells place ≡ Some byte → byte < 128
    → result_map (number_of form place) (bytes_within left cells place) ≡ Ok (number (last_group form byte) (place + 1))
ends form zero cells place byte some here h = absurd (omega arith)
ends Unsigned (suc left) cells place byte some here h =
    let test : nat_lt byte 128 ≡ true = grind (arith, nat_tests) in
    rw (here, test) (ap Ok (number_is _ _ _ _ (omega arith) refl))
ends Signed (suc left) cells place byte some here h =
    let test : nat_lt byte 128 ≡ true = grind (arith, nat_tests) in
    rw (here, test) (ap Ok (number_is _ _ _ _ (word_last byte h) refl))

-- no byte
pub is_absent : (form : Form) (left : ℕ) (cells : Bytes) (place : ℕ) → 0 < left → cells place ≡ None
    → result_map (number_of form place) (bytes_within left cells place) ≡ Err Absent
is_absent form zero cells place some here = absurd (omega arith)
is_absent form (suc left) cells place some here = rw here refl

-- no more bytes are read
pub is_long : (form : Form) (cells : Bytes) (left place : ℕ) → left ≡ 0 → result_map (number_of form place) (bytes_within left cells place) ≡ Err Long
is_long form cells zero place h = refl
is_long form cells (suc left) place h = absurd (omega arith)

-- a byte at least
abbrev pub HasByte : List ℕ → Type 0
HasByte [] = ⊥
HasByte (byte ∷ bytes) = Unit {0}

pub has_byte : (left : ℕ) (cells : Bytes) (place : ℕ) (bytes : List ℕ) → bytes_within left cells place ≡ Ok bytes → HasByte bytes
has_byte left cells place (byte ∷ bytes) h = tt
has_byte zero cells place [] h = cc
has_byte (suc left) cells place [] h =
    let first = bind_ok (ok_or (cells place) Absent) (λ byte. if nat_lt byte 128 then Ok (byte ∷ []) else (bytes_within left cells (place + 1) >>= λ bytes. Ok (byte ∷ bytes))) [] h in
    elim (cases_lt first.0 128) [
      | inl low ↦
          let test : nat_lt first.0 128 ≡ true = grind (arith, nat_tests) in
          let last = rw test at first.2 in
          cc
      | inr high ↦
          let test : nat_lt first.0 128 ≡ false = grind (arith, nat_tests) in
          let more = rw test at first.2 in
          let rest = bind_ok (bytes_within left cells (place + 1)) (λ bytes. Ok (first.0 ∷ bytes)) [] more in
          let none = rest.2 in
          cc
    ]

-- a byte before those of a number
grows : (form : Form) (place byte next : ℕ) (bytes : List ℕ) → number_of form place (byte ∷ next ∷ bytes)
    ≡ number (with_group byte (number_of form (place + 1) (next ∷ bytes)).value) (number_of form (place + 1) (next ∷ bytes)).next
grows Unsigned place byte next bytes = number_is _ _ _ _ (omega arith) (omega arith)
grows Signed place byte next bytes = number_is _ _ _ _ (word_group (byte % 128) (signed_value (next ∷ bytes))) (omega arith)

grows_from : (form : Form) (place byte : ℕ) (rest : Result (List ℕ) Leb128Fault) (high : Number) → ((bytes : List ℕ) → rest ≡ Ok bytes → HasByte bytes)
    → result_map (number_of form (place + 1)) rest ≡ Ok high
    → result_map (number_of form place) (rest >>= λ bytes. Ok (byte ∷ bytes)) ≡ Ok (number (with_group byte high.value) high.next)
grows_from form place byte (Err e) high some h = cc
grows_from form place byte (Ok []) high some h = absurd (some [] refl)
grows_from form place byte (Ok (next ∷ bytes)) high some h =
    let same : number_of form (place + 1) (next ∷ bytes) ≡ high = cc in
    ap Ok (grows form place byte next bytes ∙ ap (λ (x : Number). number (with_group byte x.value) x.next) same)

fails_from : (form : Form) (place byte : ℕ) (rest : Result (List ℕ) Leb128Fault) (e : Leb128Fault) → result_map (number_of form (place + 1)) rest ≡ Err e
    → result_map (number_of form place) (rest >>= λ bytes. Ok (byte ∷ bytes)) ≡ Err e
fails_from form place byte (Ok bytes) e h = cc
fails_from form place byte (Err d) e h = cc

-- a byte that goes on, and the number behind it
pub goes_on : (form : Form) (left : ℕ) (cells : Bytes) (place byte : ℕ) (high : Number) → 0 < left → cells place ≡ Some byte → 128 ≤ byte
    → result_map (number_of form (place + 1)) (bytes_within (left - 1) cells (place + 1)) ≡ Ok high
    → result_map (number_of form place) (bytes_within left cells place) ≡ Ok (number (with_group byte high.value) high.next)
goes_on form zero cells place byte high some here h rest = absurd (omega arith)
goes_on form (suc left) cells place byte high some here h rest =
    let test : nat_lt byte 128 ≡ false = grind (arith, nat_tests) in
    let one : suc left - 1 ≡ left = omega arith in
    rw (here, test) (grows_from form place byte (bytes_within left cells (place + 1)) high (has_byte left cells (place + 1)) (rw one at rest))

-- and no number behind it
pub fails_on : (form : Form) (left : ℕ) (cells : Bytes) (place byte : ℕ) (e : Leb128Fault) → 0 < left → cells place ≡ Some byte → 128 ≤ byte
    → result_map (number_of form (place + 1)) (bytes_within (left - 1) cells (place + 1)) ≡ Err e
    → result_map (number_of form place) (bytes_within left cells place) ≡ Err e
fails_on form zero cells place byte e some here h rest = absurd (omega arith)
fails_on form (suc left) cells place byte e some here h rest =
    let test : nat_lt byte 128 ≡ false = grind (arith, nat_tests) in
    let one : suc left - 1 ≡ left = omega arith in
    rw (here, test) (fails_from form place byte (bytes_within left cells (place + 1)) e (rw one at rest))
