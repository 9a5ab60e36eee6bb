-- What LEB128 numbers are.
use Rattle.std.proofs.Common.{◌≡◌, ℕ, zero, suc, ◌+◌, ◌%◌, ◌^◌, ◌<◌, ◌≤◌, List, [], ◌∷◌, Option, Some, None, Result, Ok, Err, inl, inr, true, false, length, nat_lt, add-zero, refl, sym, ap, subst, ◌∙◌, arith}
use Rattle.std.specs.Prelude.{ok_or, if◌then◌else◌, ℤ}
use Rattle.std.proofs.lemmas.Int.{ints}
use Rattle.std.proofs.lemmas.Bool.{cases_lt}
use Rattle.std.proofs.lemmas.Bool.Decides.{nat_tests}
use Rattle.plcr_base.specs.Chains.{◌>>=◌, result_map}
use Rattle.plcr_base.proofs.Chained.{bind_ok, bind_err, map_ok, map_err, ok_or_ok}
use Rattle.plcr_leb128.specs.declared.fault.Leb128Fault.{Leb128Fault}
use Rattle.plcr_leb128.specs.declared.fault.Leb128Fault.TheVariants.{Absent, Long}
use Rattle.plcr_leb128.specs.declared.leb128.Number.{Number}
use Rattle.plcr_leb128.specs.Cells.{Bytes, AreBytes}
use Rattle.plcr_leb128.specs.Leb128.{bytes_within, leb128_bytes, unsigned_value, signed_group, signed_value, word_of, unsigned_number, signed_number, unsigned_at, signed_at, IsUnsigned, IsSigned, Stand, GoOn, IsCut, IsLong, HasUnsigned, HasSigned}

-- bytes of one number: the high bit of all but the last is set
abbrev pub AreOne : List ℕ → Type 0
AreOne [] = ⊥
AreOne (byte ∷ []) = byte < 128
AreOne (byte ∷ next ∷ bytes) = (128 ≤ byte) × AreOne (next ∷ bytes)

unsigned_one : (bytes : List ℕ) (n : ℕ) → IsUnsigned bytes n → AreOne bytes
unsigned_one [] n h = absurd h
unsigned_one (byte ∷ []) n h = h.0
unsigned_one (byte ∷ next ∷ bytes) n h = (h.0, unsigned_one (next ∷ bytes) h.2.0 h.2.2)

signed_one : (bytes : List ℕ) (z : ℤ) → IsSigned bytes z → AreOne bytes
signed_one [] z h = absurd h
signed_one (byte ∷ []) z h = h.0
signed_one (byte ∷ next ∷ bytes) z h = (h.0, signed_one (next ∷ bytes) h.2.0 h.2.2)

-- the bytes of one number are read where they stand
one_read : (left : ℕ) (cells : Bytes) (place : ℕ) (bytes : List ℕ) → length bytes ≤ left → AreOne bytes → Stand cells place bytes → bytes_within left cells place ≡ Ok bytes
one_read left cells place [] most one stand = absurd one
one_read zero cells place (byte ∷ bytes) most one stand = absurd (omega arith)
one_read (suc left) cells place (byte ∷ []) most one stand =
    let test : nat_lt byte 128 ≡ true = grind (arith, nat_tests) in
    rw (stand.0, test) refl
one_read (suc left) cells place (byte ∷ next ∷ bytes) most one stand =
    let test : nat_lt byte 128 ≡ false = grind (arith, nat_tests, one.0) in
    rw (stand.0, test, one_read left cells (place + 1) (next ∷ bytes) (omega arith) one.1 stand.1) refl

unsigned_value_is : (bytes : List ℕ) (n : ℕ) → IsUnsigned bytes n → unsigned_value bytes ≡ n
unsigned_value_is [] n h = absurd h
unsigned_value_is (byte ∷ []) n h = omega (arith, h.0, h.1)
unsigned_value_is (byte ∷ next ∷ bytes) n h =
    let rest : unsigned_value (next ∷ bytes) ≡ h.2.0 = unsigned_value_is (next ∷ bytes) h.2.0 h.2.2 in
    omega (arith, rest, h.0, h.1, h.2.1)

signed_value_is : (bytes : List ℕ) (z : ℤ) → IsSigned bytes z → signed_value bytes ≡ z
signed_value_is [] z h = absurd h
signed_value_is (byte ∷ []) z h =
    let group : byte % 128 ≡ byte = omega (arith, h.0) in
    ap signed_group group ∙ sym h.1
signed_value_is (byte ∷ next ∷ bytes) z h =
    let rest : signed_value (next ∷ bytes) ≡ h.2.0 = signed_value_is (next ∷ bytes) h.2.0 h.2.2 in
    omega (arith, ints, rest, h.0, h.1, h.2.1)

-- the bytes of a number, at most ten, are read where they stand
pub unsigned_read : (cells : Bytes) (place : ℕ) (bytes : List ℕ) (n : ℕ) → length bytes ≤ 10 → IsUnsigned bytes n → Stand cells place bytes
    → unsigned_at cells place ≡ Ok (record { value = n % 2 ^ 64; next = place + length bytes })
unfolding leb128_bytes
unsigned_read cells place bytes n most h stand = rw (one_read 10 cells place bytes most (unsigned_one bytes n h) stand, unsigned_value_is bytes n h) refl

pub signed_read : (cells : Bytes) (place : ℕ) (bytes : List ℕ) (z : ℤ) → length bytes ≤ 10 → IsSigned bytes z → Stand cells place bytes
    → signed_at cells place ≡ Ok (record { value = word_of z; next = place + length bytes })
unfolding leb128_bytes
signed_read cells place bytes z most h stand = rw (one_read 10 cells place bytes most (signed_one bytes z h) stand, signed_value_is bytes z h) refl

-- what is read at a place
record Found (left : ℕ) (cells : Bytes) (place : ℕ) (bytes : List ℕ) : Type 0 where
  pub most : length bytes ≤ left
  pub one : AreOne bytes
  pub stand : Stand cells place bytes

more_one : (byte : ℕ) (bytes : List ℕ) → 128 ≤ byte → AreOne bytes → AreOne (byte ∷ bytes)
more_one byte [] high one = absurd one
more_one byte (next ∷ bytes) high one = (high, one)

read_found : (left : ℕ) (cells : Bytes) (place : ℕ) (bytes : List ℕ) → bytes_within left cells place ≡ Ok bytes → Found left cells place bytes
read_found zero cells place bytes h = cc
read_found (suc left) cells place bytes h =
    let first = bind_ok (ok_or (cells place) Absent) (λ byte. if nat_lt byte 128 then Ok (byte ∷ []) else (bytes_within left cells (place + 1) >>= λ bytes. Ok (byte ∷ bytes))) bytes h in
    let here = ok_or_ok (cells place) Absent first.0 first.1 in
    elim (cases_lt first.0 128) [
      | inl low ↦
          let test : nat_lt first.0 128 ≡ true = grind (arith, nat_tests) in
          let same : Ok (first.0 ∷ []) ≡ Ok bytes = rw test at first.2 in
          let is : first.0 ∷ [] ≡ bytes = cc in
          subst (Found (suc left) cells place) is (record { most = omega arith; one = low; stand = (here, tt) })
      | inr high ↦
          let test : nat_lt first.0 128 ≡ false = grind (arith, nat_tests) in
          let more = rw test at first.2 in
          let rest = bind_ok (bytes_within left cells (place + 1)) (λ bytes. Ok (first.0 ∷ bytes)) bytes more in
          let behind = read_found left cells (place + 1) rest.0 rest.1 in
          let last = rest.2 in
          let is : first.0 ∷ rest.0 ≡ bytes = cc in
          subst (Found (suc left) cells place) is (record { most = omega (arith, behind.most); one = more_one first.0 rest.0 high behind.one; stand = (here, behind.stand) })
    ]

unsigned_encoding : (cells : Bytes) → AreBytes cells → (place : ℕ) (bytes : List ℕ) → AreOne bytes → Stand cells place bytes → IsUnsigned bytes (unsigned_value bytes)
unsigned_encoding cells are place [] one stand = absurd one
unsigned_encoding cells are place (byte ∷ []) one stand = (one, omega arith)
unsigned_encoding cells are place (byte ∷ next ∷ bytes) one stand =
    let low : byte < 256 = are place byte stand.0 in
    (one.0, low, (unsigned_value (next ∷ bytes), omega (arith, low, one.0), unsigned_encoding cells are (place + 1) (next ∷ bytes) one.1 stand.1))

signed_encoding : (cells : Bytes) → AreBytes cells → (place : ℕ) (bytes : List ℕ) → AreOne bytes → Stand cells place bytes → IsSigned bytes (signed_value bytes)
signed_encoding cells are place [] one stand = absurd one
signed_encoding cells are place (byte ∷ []) one stand =
    let group : byte % 128 ≡ byte = omega (arith, one) in
    (one, ap signed_group group)
signed_encoding cells are place (byte ∷ next ∷ bytes) one stand =
    let low : byte < 256 = are place byte stand.0 in
    (one.0, low, (signed_value (next ∷ bytes), omega (arith, ints, low, one.0), signed_encoding cells are (place + 1) (next ∷ bytes) one.1 stand.1))

pub unsigned_has : (cells : Bytes) → AreBytes cells → (place : ℕ) (number : Number) → unsigned_at cells place ≡ Ok number → HasUnsigned cells place number
unfolding leb128_bytes
unsigned_has cells are place number h =
    let r = map_ok (unsigned_number place) (bytes_within 10 cells place) number h in
    let f = read_found 10 cells place r.0 r.1 in
    record { bytes = r.0; most = f.most; stand = f.stand; value = unsigned_value r.0; encoding = unsigned_encoding cells are place r.0 f.one f.stand; is = sym r.2 }

pub signed_has : (cells : Bytes) → AreBytes cells → (place : ℕ) (number : Number) → signed_at cells place ≡ Ok number → HasSigned cells place number
unfolding leb128_bytes
signed_has cells are place number h =
    let r = map_ok (signed_number place) (bytes_within 10 cells place) number h in
    let f = read_found 10 cells place r.0 r.1 in
    record { bytes = r.0; most = f.most; stand = f.stand; value = signed_value r.0; encoding = signed_encoding cells are place r.0 f.one f.stand; is = sym r.2 }

-- so many bytes of a number stand at a place and go on
record Goes (cells : Bytes) (place : ℕ) (bytes : List ℕ) : Type 0 where
  pub stand : Stand cells place bytes
  pub go_on : GoOn bytes

-- where reading ends without a number
abbrev Ended : Leb128Fault → ℕ → Bytes → ℕ → List ℕ → Type 0
Ended Absent left cells place bytes = (length bytes < left) × (cells (place + length bytes) ≡ None)
Ended Long left cells place bytes = length bytes ≡ left

ok_or_err : {A E : Type 0} (o : Option A) (d e : E) → ok_or o d ≡ Err e → (o ≡ None) × (d ≡ e)
ok_or_err None d e h = (refl, cc)
ok_or_err (Some x) d e h = cc

ended_more : (e : Leb128Fault) (left : ℕ) (cells : Bytes) (place byte : ℕ) (bytes : List ℕ) → Ended e left cells (place + 1) bytes → Ended e (suc left) cells place (byte ∷ bytes)
ended_more Absent left cells place byte bytes h =
    let next : place + suc (length bytes) ≡ (place + 1) + length bytes = omega arith in
    (omega (arith, h.0), rw next h.1)
ended_more Long left cells place byte bytes h = ap (λ (n : ℕ). suc n) h

read_ended : (left : ℕ) (cells : Bytes) (place : ℕ) (e : Leb128Fault) → bytes_within left cells place ≡ Err e → (bytes : List ℕ) × Goes cells place bytes × Ended e left cells place bytes
read_ended zero cells place Absent h = cc
read_ended zero cells place Long h = ([], record { stand = tt; go_on = tt }, refl)
read_ended (suc left) cells place e h =
    elim (bind_err (ok_or (cells place) Absent) (λ byte. if nat_lt byte 128 then Ok (byte ∷ []) else (bytes_within left cells (place + 1) >>= λ bytes. Ok (byte ∷ bytes))) e h) [
      | inl here ↦
          let none = ok_or_err (cells place) Absent e here in
          subst (λ (x : Leb128Fault). (bytes : List ℕ) × Goes cells place bytes × Ended x (suc left) cells place bytes) none.1
          ([], record { stand = tt; go_on = tt }, (omega arith, rw add-zero none.0))
      | inr first ↦
          let here = ok_or_ok (cells place) Absent first.0 first.1 in
          elim (cases_lt first.0 128) [
            | inl low ↦
                let test : nat_lt first.0 128 ≡ true = grind (arith, nat_tests) in
                let none = rw test at first.2 in
                cc
            | inr high ↦
                let test : nat_lt first.0 128 ≡ false = grind (arith, nat_tests) in
                let more = rw test at first.2 in
                elim (bind_err (bytes_within left cells (place + 1)) (λ bytes. Ok (first.0 ∷ bytes)) e more) [
                  | inl there ↦
                      let rest = read_ended left cells (place + 1) e there in
                      (first.0 ∷ rest.0, record { stand = (here, rest.1.stand); go_on = (high, rest.1.go_on) }, ended_more e left cells place first.0 rest.0 rest.2)
                  | inr none ↦
                      let never = none.2 in
                      cc
                ]
          ]
    ]

is_cut : (cells : Bytes) (place : ℕ) → leb128_bytes cells place ≡ Err Absent → IsCut cells place
unfolding leb128_bytes
is_cut cells place h =
    let e = read_ended 10 cells place Absent h in
    record { bytes = e.0; fewer = e.2.0; stand = e.1.stand; go_on = e.1.go_on; missing = e.2.1 }

is_long : (cells : Bytes) (place : ℕ) → leb128_bytes cells place ≡ Err Long → IsLong cells place
unfolding leb128_bytes
is_long cells place h =
    let e = read_ended 10 cells place Long h in
    record { bytes = e.0; all = e.2; stand = e.1.stand; go_on = e.1.go_on }

pub unsigned_cut : (cells : Bytes) (place : ℕ) → unsigned_at cells place ≡ Err Absent → IsCut cells place
unsigned_cut cells place h = is_cut cells place (map_err (unsigned_number place) (leb128_bytes cells place) Absent h)

pub unsigned_long : (cells : Bytes) (place : ℕ) → unsigned_at cells place ≡ Err Long → IsLong cells place
unsigned_long cells place h = is_long cells place (map_err (unsigned_number place) (leb128_bytes cells place) Long h)

pub signed_cut : (cells : Bytes) (place : ℕ) → signed_at cells place ≡ Err Absent → IsCut cells place
signed_cut cells place h = is_cut cells place (map_err (signed_number place) (leb128_bytes cells place) Absent h)

pub signed_long : (cells : Bytes) (place : ℕ) → signed_at cells place ≡ Err Long → IsLong cells place
signed_long cells place h = is_long cells place (map_err (signed_number place) (leb128_bytes cells place) Long h)
