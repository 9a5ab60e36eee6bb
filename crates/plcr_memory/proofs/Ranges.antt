-- Ranges of addresses, byte by byte.
use Rattle.std.proofs.Common.{◌≡◌, ◌≤◌, ◌<◌, ℕ, zero, suc, ◌+◌, ◌-◌, inl, inr, true, false, nat_le, nat_lt, Option, Some, None, is_some, List, [], ◌∷◌, ◌++◌, length, take, slice_index, refl, sym, ap, subst, ◌∙◌, arith}
use Rattle.std.specs.Prelude.{IsSome, if◌then◌else◌, drop}
use Rattle.std.specs.Option.{option_map_or}
use Rattle.std.proofs.lemmas.Bool.{cases_lt}
use Rattle.std.proofs.lemmas.Bool.Decides.{nat_tests}
use Rattle.std.proofs.lemmas.List.{get_or_append_left, get_or-append_right, get_or-drop, get_or-take, length-take-le, length-append, length-drop}
use borrow.Rule.Slice.PartMut.{put_mid, post_of}
use Rattle.plcr_memory.specs.declared.region.Region.{Region}
use Rattle.plcr_memory.specs.Regions.{Contents, byte_in, byte_at, bytes_at, cons_known, is_stored, stores}
use Rattle.plcr_memory.specs.inner.Order.{IsHolder}
use Rattle.plcr_memory.proofs.Searches.{no_byte}
use Rattle.plcr_memory.proofs.Shares.{covers_is, is_covered, true_from_lt}

-- each of the first n bytes from an address on is mapped
abbrev pub AreMapped : Contents → ℕ → ℕ → Type 0
AreMapped m a n = (k : ℕ) → k < n → IsSome (byte_at m (a + k))

-- the bytes of the list stand from an address on
abbrev pub Stand : Contents → ℕ → ℕ → List ℕ → Type 0
Stand m a n xs = (k : ℕ) → k < n → byte_at m (a + k) ≡ Some (slice_index xs k)

cons_some : (o : Option ℕ) (r : Option (List ℕ)) → IsSome o → is_some r ≡ true → is_some (cons_known o r) ≡ true
cons_some (Some b) (Some bs) h k = refl
cons_some (Some b) None h k = k
cons_some None r h k = h

cons_none : (o : Option ℕ) → cons_known o None ≡ None
cons_none (Some b) = refl
cons_none None = refl

-- a range is mapped where each of its bytes is
pub all_mapped : (m : Contents) (a n : ℕ) → AreMapped m a n → is_some (bytes_at m a n) ≡ true
all_mapped m a zero h = refl
all_mapped m a (suc n) h =
    let here : IsSome (byte_at m a) = subst (λ (x : ℕ). IsSome (byte_at m x)) (omega arith) (h 0 (omega arith)) in
    cons_some (byte_at m a) (bytes_at m (a + 1) n) here
    (all_mapped m (a + 1) n (λ k lt. subst (λ (x : ℕ). IsSome (byte_at m x)) (omega arith) (h (k + 1) (omega (arith, lt)))))

-- a range is missing where one of its bytes is
pub one_missing : (m : Contents) (a n k : ℕ) → k < n → byte_at m (a + k) ≡ None → bytes_at m a n ≡ None
one_missing m a zero k lt h = absurd (omega (arith, lt))
one_missing m a (suc n) zero lt h =
    let here : byte_at m a ≡ None = subst (λ (x : ℕ). byte_at m x ≡ None) (omega arith) h in
    rw here refl
one_missing m a (suc n) (suc k) lt h =
    let there : byte_at m ((a + 1) + k) ≡ None = subst (λ (x : ℕ). byte_at m x ≡ None) (omega arith) h in
    rw (one_missing m (a + 1) n k (omega (arith, lt)) there) (cons_none (byte_at m a))

-- bytes that stand from an address on are those of the range
pub all_stand : (m : Contents) (a : ℕ) (xs : List ℕ) → Stand m a (length xs) xs → bytes_at m a (length xs) ≡ Some xs
all_stand m a [] h = refl
all_stand m a (x ∷ xs) h =
    let here : byte_at m a ≡ Some x = subst (λ (y : ℕ). byte_at m y ≡ Some x) (omega arith) (h 0 (omega arith)) in
    let rest : bytes_at m (a + 1) (length xs) ≡ Some xs =
    all_stand m (a + 1) xs (λ k lt. subst (λ (y : ℕ). byte_at m y ≡ Some (slice_index xs k)) (omega arith) (h (suc k) (omega (arith, lt)))) in
    rw (here, rest) refl

-- how many bytes from an address on lie within the region
abbrev pub left_in : Region → ℕ → ℕ
left_in r a = r.size - (a - r.start)

-- an address within the run of a region
run_covers : (m : Contents) (a done k : ℕ) (r : Region) → IsHolder m (a + done) r → done ≤ k → k < done + left_in r (a + done) → byte_at m (a + k) ≡ Some (byte_in m.file r (a + k))
run_covers m a done k r h from to =
    let c = is_covered r (a + done) h.covered in
    h.each (a + k) (covers_is r (a + k) (omega (arith, c, from)) (omega (arith, c, from, to)))

-- one region more
pub mapped_run : (m : Contents) (a done until : ℕ) (r : Region) → IsHolder m (a + done) r → AreMapped m a done → until ≤ done + left_in r (a + done) → AreMapped m a until
mapped_run m a done until r h before short k lt =
    elim (cases_lt k done) [
      | inl l ↦ before k l
      | inr ge ↦ rw (run_covers m a done k r h ge (omega (arith, lt, short))) refl
    ]

-- a range within one region
pub one_run : (m : Contents) (a : ℕ) (r : Region) (xs : List ℕ) → IsHolder m (a + 0) r → length xs ≤ left_in r a
    → ((k : ℕ) → k < length xs → slice_index xs k ≡ byte_in m.file r (a + k)) → bytes_at m a (length xs) ≡ Some xs
one_run m a r xs h short each =
    let none : a ≡ a + 0 = omega arith in
    let enough : length xs ≤ 0 + left_in r (a + 0) = subst (λ (x : ℕ). length xs ≤ 0 + left_in r x) none (omega (arith, short)) in
    all_stand m a xs (λ k lt. run_covers m a 0 k r h (omega arith) (omega (arith, lt, enough)) ∙ ap Some (sym (each k lt)))

-- the bytes of a range that stand in the file as a region's
pub stored_run : (m : Contents) (a n : ℕ) (r : Region) (xs : List ℕ) → IsHolder m (a + 0) r → stores r a n ≡ true
    → xs ≡ take n (drop (a - r.start) (take r.len (drop r.from m.file))) → bytes_at m a n ≡ Some xs
stored_run m a n r xs h test piece =
    let inside : (a - r.start) + n ≤ r.len = le_from_test ((a - r.start) + n) r.len test in
    let front : length (take r.len (drop r.from m.file)) ≡ r.len = length-take-le r.len (drop r.from m.file) (rw (length-drop r.from m.file) (omega (arith, h.backed.in_file))) in
    let rest : length (drop (a - r.start) (take r.len (drop r.from m.file))) ≡ r.len - (a - r.start) = length-drop (a - r.start) (take r.len (drop r.from m.file)) ∙ ap (λ (x : ℕ). x - (a - r.start)) front in
    let size : length xs ≡ n = ap length piece ∙ length-take-le n (drop (a - r.start) (take r.len (drop r.from m.file))) (omega (arith, rest, inside)) in
    let each : (k : ℕ) → k < length xs → slice_index xs k ≡ byte_in m.file r (a + k) = λ k lt.
    let low : k < n = omega (arith, lt, size) in
    let start = is_covered r (a + 0) h.covered in
    let place : (a - r.start) + k ≡ (a + k) - r.start = omega (arith, start) in
    let within : (a - r.start) + k < r.len = omega (arith, low, inside) in
    ap (λ (ys : List ℕ). slice_index ys k) piece ∙ get_or-take n (drop (a - r.start) (take r.len (drop r.from m.file))) k 0 low
    ∙ get_or-drop (a - r.start) (take r.len (drop r.from m.file)) k 0 ∙ get_or-take r.len (drop r.from m.file) ((a - r.start) + k) 0 within
    ∙ get_or-drop r.from m.file ((a - r.start) + k) 0 ∙ ap (λ (x : ℕ). slice_index m.file (r.from + x)) place
    ∙ sym (of_file ((a + k) - r.start) r.len (slice_index m.file (r.from + ((a + k) - r.start))) (omega (arith, within, place))) in
    subst (λ (x : ℕ). bytes_at m a x ≡ Some xs) size (one_run m a r xs h (omega (arith, size, inside, h.backed.in_region)) each)
  where
    le_from_test : (x y : ℕ) → nat_le x y ≡ true → x ≤ y
    le_from_test x y h = grind (arith, nat_tests)

    of_file : (x y b : ℕ) → x < y → (if nat_lt x y then b else 0) ≡ b
    of_file x y b lt = rw (true_from_lt x y lt) refl

-- no region stores bytes from an address without one
pub none_stored : (m : Contents) (a n : ℕ) → byte_at m (a + 0) ≡ None → is_stored m a n ≡ false
none_stored m a n h =
    let here : a + 0 ≡ a = omega arith in
    ap (λ (o : Option Region). option_map_or (λ r. stores r a n) o false) (no_byte m a (subst (λ (x : ℕ). byte_at m x ≡ None) here h))

-- the zeros behind a region's bytes of the file
pub zeros_run : (m : Contents) (a k : ℕ) (r : Region) → IsHolder m (a + 0) r → r.len ≤ a - r.start → k < left_in r a → byte_at m (a + k) ≡ Some 0
zeros_run m a k r h past lt =
    let none : a ≡ a + 0 = omega arith in
    let enough : k < 0 + left_in r (a + 0) = subst (λ (x : ℕ). k < 0 + left_in r x) none (omega (arith, lt)) in
    let c = is_covered r (a + 0) h.covered in
    let far : nat_lt ((a + k) - r.start) r.len ≡ false = not_less ((a + k) - r.start) r.len (omega (arith, past, c)) in
    run_covers m a 0 k r h (omega arith) enough ∙ rw far refl
  where
    not_less : (x y : ℕ) → y ≤ x → nat_lt x y ≡ false
    not_less x y le = grind (arith, nat_tests)

cell_of_front : (a k : ℕ) (xs ys : List ℕ) (i : ℕ) → i < a → a ≤ length xs → slice_index (put_mid a k xs ys) i ≡ slice_index xs i
cell_of_front a k xs ys i lt le =
    let inside : i < length (take a xs) = rw (length-take-le a xs le) lt in
    get_or_append_left (take a xs) (ys ++ post_of a k xs) 0 i inside ∙ get_or-take a xs i 0 lt

cell_of_piece : (a k : ℕ) (xs ys : List ℕ) (i : ℕ) → a ≤ i → i < a + length ys → a ≤ length xs → slice_index (put_mid a k xs ys) i ≡ slice_index ys (i - a)
cell_of_piece a k xs ys i from to le =
    let inside : i - a < length ys = omega arith in
    get_or-append_right (take a xs) (ys ++ post_of a k xs) a i 0 (length-take-le a xs le) from ∙ get_or_append_left ys (post_of a k xs) 0 (i - a) inside

-- one region more, copied behind what stands
pub stand_run : (m : Contents) (a done until size : ℕ) (r : Region) (xs ys : List ℕ) → IsHolder m (a + done) r → done ≤ length xs → until ≤ done + length ys → length ys ≤ left_in r (a + done)
    → Stand m a done xs → ((k : ℕ) → k < length ys → slice_index ys k ≡ byte_in m.file r ((a + done) + k)) → Stand m a until (put_mid done size xs ys)
stand_run m a done until size r xs ys h inside within short before piece k lt =
    elim (cases_lt k done) [
      | inl l ↦ before k l ∙ ap Some (sym (cell_of_front done size xs ys k l inside))
      | inr ge ↦
          let there : byte_at m (a + k) ≡ Some (byte_in m.file r (a + k)) = run_covers m a done k r h ge (omega (arith, lt, within, short)) in
          let cell : slice_index (put_mid done size xs ys) k ≡ slice_index ys (k - done) = cell_of_piece done size xs ys k ge (omega (arith, lt, within)) inside in
          let place : (a + done) + (k - done) ≡ a + k = omega arith in
          let is : slice_index ys (k - done) ≡ byte_in m.file r (a + k) = piece (k - done) (omega (arith, lt, within)) ∙ ap (byte_in m.file r) place in
          there ∙ ap Some (sym (cell ∙ is))
    ]

-- what was written is within the list
pub length_covered : (a k : ℕ) (xs ys : List ℕ) → a ≤ length xs → a + length ys ≤ length (put_mid a k xs ys)
length_covered a k xs ys le = simp (length-append, length-take-le a xs le) (omega arith)
