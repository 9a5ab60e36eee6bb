-- The bytes of a piece of memory: how many, the first of them, those from a later place on, and those between.
use Rattle.std.proofs.Common.{◌≡◌, ◌≤◌, ℕ, zero, suc, ◌+◌, List, [], ◌∷◌, length, take, drop, Option, Some, None, refl, sym, ap, subst, ◌∙◌, arith}
use Rattle.plcr_memory.specs.Regions.{Contents, byte_at, bytes_at, cons_known}

-- what stands behind a byte before others
pub cons_known_some : (o : Option ℕ) (r : Option (List ℕ)) (xs : List ℕ) → cons_known o r ≡ Some xs → (b : ℕ) × (bs : List ℕ) × (o ≡ Some b) × (r ≡ Some bs) × (xs ≡ b ∷ bs)
cons_known_some (Some b) (Some bs) xs h = (b, bs, refl, refl, cc)
cons_known_some (Some b) None xs h = cc
cons_known_some None r xs h = cc

-- fewer bytes from the same address on
pub bytes_front : (m : Contents) (a k n : ℕ) (xs : List ℕ) → k ≤ n → bytes_at m a n ≡ Some xs → bytes_at m a k ≡ Some (take k xs)
bytes_front m a zero n xs le h = refl
bytes_front m a (suc k) zero xs le h = absurd (omega arith)
bytes_front m a (suc k) (suc n) xs le h =
    let p = cons_known_some (byte_at m a) (bytes_at m (a + 1) n) xs h in
    let rest : bytes_at m (a + 1) k ≡ Some (take k p.1) = bytes_front m (a + 1) k n p.1 (omega (arith, le)) p.3 in
    ap (λ (o : Option ℕ). cons_known o (bytes_at m (a + 1) k)) p.2 ∙ ap (λ (r : Option (List ℕ)). cons_known (Some p.0) r) rest
    ∙ ap (λ (ys : List ℕ). let r : Option (List ℕ) = Some (take (suc k) ys) in r) (sym p.4)

-- bytes from a later address on
pub bytes_back : (m : Contents) (a k n : ℕ) (xs : List ℕ) → bytes_at m a (k + n) ≡ Some xs → bytes_at m (a + k) n ≡ Some (drop k xs)
bytes_back m a zero n xs h =
    let none : 0 + n ≡ n = omega arith in
    let here : a ≡ a + 0 = omega arith in
    subst (λ (x : ℕ). bytes_at m x n ≡ Some xs) here (subst (λ (k : ℕ). bytes_at m a k ≡ Some xs) none h)
bytes_back m a (suc k) n xs h =
    let more : suc k + n ≡ suc (k + n) = omega arith in
    let all : bytes_at m a (suc (k + n)) ≡ Some xs = subst (λ (k : ℕ). bytes_at m a k ≡ Some xs) more h in
    let p = cons_known_some (byte_at m a) (bytes_at m (a + 1) (k + n)) xs all in
    let rest : bytes_at m ((a + 1) + k) n ≡ Some (drop k p.1) = bytes_back m (a + 1) k n p.1 p.3 in
    let same : a + suc k ≡ (a + 1) + k = omega arith in
    ap (λ (x : ℕ). bytes_at m x n) same ∙ rest ∙ ap (λ (ys : List ℕ). let r : Option (List ℕ) = Some (drop (suc k) ys) in r) (sym p.4)

-- as many bytes as are asked for
pub bytes_count : (m : Contents) (at size : ℕ) (xs : List ℕ) → bytes_at m at size ≡ Some xs → length xs ≡ size
bytes_count m at zero xs h =
    let none : [] ≡ xs = cc in
    sym (ap length none)
bytes_count m at (suc size) xs h =
    let c = cons_known_some (byte_at m at) (bytes_at m (at + 1) size) xs h in
    ap length c.4 ∙ ap (λ (n : ℕ). suc n) (bytes_count m (at + 1) size c.1 c.3)

-- so many of them from a later place on
pub bytes_within : (m : Contents) (at n place size : ℕ) (xs : List ℕ) → place + n ≤ size → bytes_at m at size ≡ Some xs → bytes_at m (at + place) n ≡ Some (take n (drop place xs))
bytes_within m at n zero size xs le h =
    let here : at ≡ at + 0 = omega arith in
    subst (λ (a : ℕ). bytes_at m a n ≡ Some (take n xs)) here (bytes_front m at n size xs (omega (arith, le)) h)
bytes_within m at n (suc place) zero xs le h = absurd (omega (arith, le))
bytes_within m at n (suc place) (suc size) xs le h =
    let c = cons_known_some (byte_at m at) (bytes_at m (at + 1) size) xs h in
    let rest : bytes_at m ((at + 1) + place) n ≡ Some (take n (drop place c.1)) = bytes_within m (at + 1) n place size c.1 (omega (arith, le)) c.3 in
    let same : at + suc place ≡ (at + 1) + place = omega arith in
    ap (λ (a : ℕ). bytes_at m a n) same ∙ rest ∙ ap (λ (ys : List ℕ). let r : Option (List ℕ) = Some (take n (drop (suc place) ys)) in r) (sym c.4)
