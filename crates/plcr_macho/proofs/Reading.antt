-- Bytes of a list and of a memory.
use Rattle.std.proofs.Common.{◌≡◌, ◌≤◌, ◌<◌, ℕ, ◌+◌, ◌-◌, List, [], ◌∷◌, take, drop, Option, Some, None, is_some, refl, sym, ap, subst, ◌∙◌, arith}
use Rattle.std.specs.Prelude.{IsSome, unwrap_or}
use Rattle.plcr_memory.specs.Regions.{Contents, byte_at, bytes_at, cons_known}
use Rattle.plcr_memory.proofs.Fronts.{bytes_front, bytes_back}
use Rattle.plcr_loader.specs.Commands.{IsPlain}
use Rattle.plcr_macho.specs.Sources.{plus, memory_bytes}
use Rattle.plcr_macho.specs.inner.Keeping.{bytes_there}

-- fewer bytes from the same place of a memory
pub memory_is_plain : (m : Contents) (start : ℕ) → IsPlain (memory_bytes m start)
unfolding memory_bytes
memory_is_plain m start = record { front = λ at k n xs le there. bytes_front m (plus start at) k n xs le there }

-- what is there is the value that is there
pub some_is : (o : Option (List ℕ)) → IsSome o → o ≡ Some (unwrap_or o [])
some_is None h = cc
some_is (Some xs) h = refl

some_from : (o : Option (List ℕ)) (xs : List ℕ) → o ≡ Some xs → IsSome o
some_from o xs h = ap is_some h

-- the first bytes of those that are mapped are mapped
pub front_mapped : (m : Contents) (a k n : ℕ) → k ≤ n → IsSome (bytes_at m a n) → IsSome (bytes_at m a k)
front_mapped m a k n le h =
    some_from (bytes_at m a k) (take k (bytes_there m a n)) (bytes_front m a k n (bytes_there m a n) le (some_is (bytes_at m a n) h))

pub front_is : (m : Contents) (a k n : ℕ) (xs : List ℕ) → k ≤ n → IsSome (bytes_at m a n) → bytes_at m a k ≡ Some xs → xs ≡ take k (bytes_there m a n)
front_is m a k n xs le h is =
    let front : bytes_at m a k ≡ Some (take k (bytes_there m a n)) = bytes_front m a k n (bytes_there m a n) le (some_is (bytes_at m a n) h) in
    let both : ◌≡◌ {A = Option (List ℕ)} (Some xs) (Some (take k (bytes_there m a n))) = sym is ∙ front in
    cc

-- the rest of those that are mapped
pub rest_is : (m : Contents) (a k n : ℕ) → k ≤ n → IsSome (bytes_at m a n) → bytes_at m (a + k) (n - k) ≡ Some (drop k (bytes_there m a n))
rest_is m a k n le h =
    let e : n ≡ k + (n - k) = omega (arith, le) in
    bytes_back m a k (n - k) (bytes_there m a n) (subst (λ (x : ℕ). bytes_at m a x ≡ Some (bytes_there m a n)) e (some_is (bytes_at m a n) h))

pub rest_mapped : (m : Contents) (a k n : ℕ) → k ≤ n → IsSome (bytes_at m a n) → IsSome (bytes_at m (a + k) (n - k))
rest_mapped m a k n le h = some_from (bytes_at m (a + k) (n - k)) (drop k (bytes_there m a n)) (rest_is m a k n le h)

pub rest_there : (m : Contents) (a k n : ℕ) → k ≤ n → IsSome (bytes_at m a n) → bytes_there m (a + k) (n - k) ≡ drop k (bytes_there m a n)
rest_there m a k n le h = ap (λ (o : Option (List ℕ)). unwrap_or o []) (rest_is m a k n le h)

-- so many bytes from a place on, of those that are mapped
pub piece_mapped : (m : Contents) (a k w n : ℕ) → k + w ≤ n → IsSome (bytes_at m a n) → IsSome (bytes_at m (a + k) w)
piece_mapped m a k w n le h = front_mapped m (a + k) w (n - k) (omega (arith, le)) (rest_mapped m a k n (omega (arith, le)) h)

pub piece_is : (m : Contents) (a k w n : ℕ) (xs : List ℕ) → k + w ≤ n → IsSome (bytes_at m a n) → bytes_at m (a + k) w ≡ Some xs → xs ≡ take w (drop k (bytes_there m a n))
piece_is m a k w n xs le h is =
    front_is m (a + k) w (n - k) xs (omega (arith, le)) (rest_mapped m a k n (omega (arith, le)) h) is
    ∙ ap (take w) (rest_there m a k n (omega (arith, le)) h)

-- a byte of those that are mapped
pub byte_is : (m : Contents) (a k n b : ℕ) → k < n → IsSome (bytes_at m a n) → byte_at m (a + k) ≡ Some b → take 1 (drop k (bytes_there m a n)) ≡ b ∷ []
byte_is m a k n b lt h is = sym (piece_is m a k 1 n (b ∷ []) (omega (arith, lt)) h (ap (λ (o : Option ℕ). cons_known o (Some [])) is))
