-- The list of instructions is the one that the bytes spell: each takes some bytes of the section, so that no list is cut off.
use Rattle.std.proofs.Common.{◌≡◌, ◌≤◌, ℕ, zero, suc, ◌+◌, Bool, true, false, cond, List, [], ◌∷◌, length, Option, Some, None, option_map, Ok, Err, Result, refl, ap, subst, arith}
use Rattle.std.specs.Prelude.{nat_lt, nat_le, ok_or}
use Rattle.std.proofs.lemmas.Bool.Decides.{nat_tests}
use Rattle.plcr_base.specs.Chains.{◌>>=◌, result_map}
use Rattle.plcr_base.proofs.Chained.{bind_ok, map_ok, ok_or_ok}
use Rattle.plcr_memory.specs.Regions.{Contents}
use Rattle.plcr_leb128.specs.declared.fault.Leb128Fault.{Leb128Fault}
use Rattle.plcr_leb128.specs.declared.fault.Leb128Fault.TheVariants.{Absent}
use Rattle.plcr_leb128.specs.declared.leb128.Number.{Number}
use Rattle.plcr_leb128.specs.declared.constants.TheConstants.{HIGH_BIT, MOST_BYTES}
use Rattle.plcr_leb128.specs.Cells.{Source, bytes_of, number_in, piece_bytes}
use Rattle.plcr_leb128.specs.Leb128.{bytes_within, leb128_bytes, signed_at, signed_number, unsigned_at, unsigned_number}
use Rattle.plcr_dwarf_cfi.specs.declared.entries.Extent.{Extent}
use Rattle.plcr_dwarf_cfi.specs.declared.fault.CallFrameFault.TheVariants.{Truncated}
use Rattle.plcr_dwarf_cfi.specs.Sections.{Section, fixed, front_of, section_at, signed, unsigned, whole, within}

-- what is read ends within the section
pub record Inside (s : Section) : Type 0 where
  pub ends : (place n : ℕ) (bytes : List ℕ) → s.cells place n ≡ Some bytes → place + n ≤ s.size

piece_ends : (memory : Contents) (at size place n : ℕ) (bytes : List ℕ) (b : Bool) → nat_le (place + n) size ≡ b → piece_bytes memory at size place n ≡ Some bytes → place + n ≤ size
unfolding piece_bytes
piece_ends memory at size place n bytes true test h = grind (arith, nat_tests)
piece_ends memory at size place n bytes false test h = let none = rw test at h in cc

front_ends : (end size place n : ℕ) (source : Source) (bytes : List ℕ) (b : Bool) → nat_le (place + n) end ≡ b
    → (source place n ≡ Some bytes → place + n ≤ size) → front_of end source place n ≡ Some bytes → place + n ≤ size
unfolding front_of
front_ends end size place n source bytes true test ends h = ends (rw test at h)
front_ends end size place n source bytes false test ends h = let none = rw test at h in cc

pub entry_inside : (memory : Contents) (at size : ℕ) (e : Extent) → Inside (within (section_at memory at size) e)
entry_inside memory at size e = record {
  ends = λ place n bytes h. front_ends e.end size place n (piece_bytes memory at size) bytes (nat_le (place + n) e.end) refl
      (λ there. piece_ends memory at size place n bytes (nat_le (place + n) size) refl there) h;
}

mapped : {A B : Type 0} (f : A → B) (o : Option A) (y : B) → option_map f o ≡ Some y → (x : A) × (o ≡ Some x)
mapped f None y h = let h2 = h in cc
mapped f (Some x) y h = (x, refl)

pub number_ends : (s : Section) → Inside s → (n place v : ℕ) → fixed n s.cells place ≡ Ok v → place + n ≤ s.size
unfolding number_in
number_ends s inside n place v h =
    let bytes = mapped _ (s.cells place n) v (ok_or_ok (number_in n s.cells place) Truncated v h) in
    inside.ends place n bytes.0 bytes.1

pub byte_ends : (s : Section) → Inside s → (place v : ℕ) → bytes_of s.cells place ≡ Some v → place + 1 ≤ s.size
unfolding bytes_of
byte_ends s inside place v h = let bytes = mapped _ (s.cells place 1) v h in inside.ends place 1 bytes.0 bytes.1

-- the bytes of a LEB128 number
record Ends (size place : ℕ) (bytes : List ℕ) : Type 0 where
  pub some : 1 ≤ length bytes
  pub within : place + length bytes ≤ size

bytes_step : (s : Section) → Inside s → (left place b : ℕ) (bytes : List ℕ) (last : Bool) → bytes_of s.cells place ≡ Some b
    → ((more : List ℕ) → bytes_within left (bytes_of s.cells) (place + 1) ≡ Ok more → Ends s.size (place + 1) more)
    → cond last (Ok (b ∷ [])) (bytes_within left (bytes_of s.cells) (place + 1) >>= λ more. Ok (b ∷ more)) ≡ Ok bytes → Ends s.size place bytes
bytes_step s inside left place b bytes true there rest h =
    let is : b ∷ [] ≡ bytes = cc in
    let e = byte_ends s inside place b there in
    subst (λ (bs : List ℕ). Ends s.size place bs) is (record { some = omega arith; within = omega (arith, e) })
bytes_step s inside left place b bytes false there rest h =
    let more = bind_ok (bytes_within left (bytes_of s.cells) (place + 1)) (λ (m : List ℕ). let r : Result (List ℕ) Leb128Fault = Ok (b ∷ m) in r) bytes h in
    let is : b ∷ more.0 ≡ bytes = let e = more.2 in cc in
    let e = rest more.0 more.1 in
    subst (λ (bs : List ℕ). Ends s.size place bs) is (record { some = omega arith; within = omega (arith, e.within) })

bytes_end : (s : Section) → Inside s → (left place : ℕ) (bytes : List ℕ) → bytes_within left (bytes_of s.cells) place ≡ Ok bytes → Ends s.size place bytes
bytes_end s inside zero place bytes h = let h2 = h in cc
bytes_end s inside (suc left) place bytes h =
    let first = bind_ok (ok_or (bytes_of s.cells place) Absent)
    (λ (b : ℕ). cond (nat_lt b HIGH_BIT) (Ok (b ∷ [])) (bytes_within left (bytes_of s.cells) (place + 1) >>= λ more. Ok (b ∷ more))) bytes h in
    bytes_step s inside left place first.0 bytes (nat_lt first.0 HIGH_BIT) (ok_or_ok (bytes_of s.cells place) Absent first.0 first.1)
    (λ more there. bytes_end s inside left (place + 1) more there) first.2

whole_ok : (r : Result Number Leb128Fault) (n : Number) → whole r ≡ Ok n → r ≡ Ok n
whole_ok (Ok m) n h = let e : m ≡ n = cc in ap (λ (k : Number). let r : Result Number Leb128Fault = Ok k in r) e
whole_ok (Err fault) n h = let h2 = h in cc

-- what is read goes forward within the section
pub record Forward (s : Section) (at next : ℕ) : Type 0 where
  pub forward : at ≤ next
  pub within : next ≤ s.size

pub unsigned_ends : (s : Section) → Inside s → (at : ℕ) (n : Number) → unsigned s.cells at ≡ Ok n → Forward s at n.next
unfolding leb128_bytes
unsigned_ends s inside at n h =
    let bytes = map_ok (unsigned_number at) (leb128_bytes (bytes_of s.cells) at) n (whole_ok (unsigned_at (bytes_of s.cells) at) n h) in
    let e = bytes_end s inside MOST_BYTES at bytes.0 bytes.1 in
    let next : at + length bytes.0 ≡ n.next = ap (λ (m : Number). m.next) bytes.2 in
    record { forward = omega (arith, next); within = omega (arith, next, e.within) }

pub signed_ends : (s : Section) → Inside s → (at : ℕ) (n : Number) → signed s.cells at ≡ Ok n → Forward s at n.next
unfolding leb128_bytes
signed_ends s inside at n h =
    let bytes = map_ok (signed_number at) (leb128_bytes (bytes_of s.cells) at) n (whole_ok (signed_at (bytes_of s.cells) at) n h) in
    let e = bytes_end s inside MOST_BYTES at bytes.0 bytes.1 in
    let next : at + length bytes.0 ≡ n.next = ap (λ (m : Number). m.next) bytes.2 in
    record { forward = omega (arith, next); within = omega (arith, next, e.within) }
