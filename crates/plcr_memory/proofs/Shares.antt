-- When two regions share an address.
use Rattle.std.proofs.Common.{◌≤◌, ◌<◌, ℕ, ◌+◌, ◌-◌, ◌^◌, ◌↔◌, ◌&&◌, IsTrue, nat_lt, nat_le, arith}
use Rattle.std.proofs.lemmas.Bool.Decides.{nat_tests}
use Rattle.plcr_memory.specs.declared.region.Region.{Region}
use Rattle.plcr_memory.specs.Regions.{covers, Share}

within_is : (start size a : ℕ) → start ≤ a → a < start + size → IsTrue (nat_le start a && nat_lt a (start + size))
within_is start size a h k = grind (arith, nat_tests)

is_within : (start size a : ℕ) → IsTrue (nat_le start a && nat_lt a (start + size)) → (start ≤ a) × (a < start + size)
is_within start size a h = (grind (arith, nat_tests), grind (arith, nat_tests))

pub covers_is : (r : Region) (a : ℕ) → r.start ≤ a → a < r.start + r.size → IsTrue (covers r a)
covers_is r a h k = within_is r.start r.size a h k

pub is_covered : (r : Region) (a : ℕ) → IsTrue (covers r a) → (r.start ≤ a) × (a < r.start + r.size)
is_covered r a h = is_within r.start r.size a h

pub share_sym : (r s : Region) → Share r s → Share s r
share_sym r s h = record { address = h.address; one = h.other; other = h.one }

-- the later region's first address is shared, where it is within the earlier one
pub share_at_start : (r s : Region) → r.start ≤ s.start → s.start < r.start + r.size → 1 ≤ s.size → Share r s
share_at_start r s h k l = record { address = s.start; one = covers_is r s.start h k; other = covers_is s s.start (omega arith) (omega arith) }

-- regions that share an address begin within one another
pub starts_within : (r s : Region) → Share r s → (s.start < r.start + r.size) × (r.start < s.start + s.size)
starts_within r s h =
    let one = is_covered r h.address h.one in
    let other = is_covered s h.address h.other in
    (omega (arith, one, other), omega (arith, one, other))

pub true_from_lt : (a b : ℕ) → a < b → IsTrue (nat_lt a b)
true_from_lt a b h = grind (arith, nat_tests)

lt_from_true : (a b : ℕ) → IsTrue (nat_lt a b) → a < b
lt_from_true a b h = grind (arith, nat_tests)

-- the test by the difference of the starts
pub share_test : (r s : Region) → r.start ≤ s.start → 1 ≤ s.size → IsTrue (nat_lt (s.start - r.start) r.size) ↔ Share r s
share_test r s h k = (
  λ t. let lt = lt_from_true (s.start - r.start) r.size t in share_at_start r s h (omega (arith, lt)) k,
  λ shared. let w = starts_within r s shared in true_from_lt (s.start - r.start) r.size (omega (arith, w)),
)

pub share_test_back : (r s : Region) → s.start ≤ r.start → 1 ≤ r.size → IsTrue (nat_lt (r.start - s.start) s.size) ↔ Share r s
share_test_back r s h k =
    let t = share_test s r h k in
    (λ b. share_sym s r (t.0 b), λ shared. t.1 (share_sym r s shared))

-- the test by what is left of the addresses
pub wrap_test : (start size : ℕ) → start < 2 ^ 64 → 1 ≤ size → IsTrue (nat_lt ((2 ^ 64 - 1) - start) (size - 1)) ↔ (2 ^ 64 < start + size)
wrap_test start size small h = (
  λ t. let lt = lt_from_true ((2 ^ 64 - 1) - start) (size - 1) t in omega (arith, lt),
  λ w. true_from_lt ((2 ^ 64 - 1) - start) (size - 1) (omega (arith, w)),
)
