-- A walk that follows image after image and comes to its end is lawful.
use Rattle.std.proofs.Common.{◌≡◌, ⊎_elim, ℕ, zero, suc, ◌<◌, ◌≤◌, List, [], ◌∷◌, Some, None, Contains, true, sym, ◌∙◌, subst, arith, le_refl}
use Rattle.std.proofs.lemmas.Bool.{cases_eq}
use Rattle.plcr_machine.specs.Walks.{RisesAbove, is_listed, last_with, follow, last_met, Meets, IsWholeWalk, IsLawfulWalk}
use Rattle.plcr_machine.proofs.Cases.{by_cases, not_both}
use Rattle.plcr_machine.proofs.Rising.{contains_here, contains_later, contains_cases, contains_none, rises_past, contains-listed, next_listed, next_rises, first_listed, first_rises, first_before, next_before, some_same, AtOrBefore, rises_same}

module _ {A : Type 0} (number : A → ℕ) (lists : ℕ → List A) where
  -- a walk begins, or has met element i in one of the lists between a and j
  abbrev pub HasBeen : ℕ → ℕ → ℕ → Type 0
  HasBeen zero a j = Unit {0}
  HasBeen (suc i) a j = (k : ℕ) × (a ≤ k) × (k ≤ j) × (is_listed number (suc i) (lists k) ≡ true)

  has_been_later : (i a j k : ℕ) → j ≤ k → HasBeen i a j → HasBeen i a k
  has_been_later zero a j k le h = tt
  has_been_later (suc i) a j k le h = (h.0, h.1, omega (arith, h.2), h.3)

  -- the last list that had element i is no earlier than any that had it
  last_with-found : (i a k j : ℕ) → a ≤ k → k ≤ j → is_listed number i (lists k) ≡ true
      → (a ≤ last_with number lists i j) × (last_with number lists i j ≤ j) × (is_listed number i (lists (last_with number lists i j)) ≡ true)
  last_with-found i a k zero ak kj l = let none : k ≡ 0 = omega arith in (omega arith, omega arith, subst (λ m. is_listed number i (lists m) ≡ true) none l)
  last_with-found i a k (suc j) ak kj l =
      by_cases (is_listed number i (lists (suc j)))
      (λ t. rw t (omega arith, omega arith, t))
      (λ t. ⊎_elim (λ (e : k ≡ suc j). not_both (is_listed number i (lists (suc j))) (subst (λ m. is_listed number i (lists m) ≡ true) e l) t)
      (λ (n : k ≡ suc j → ⊥). let f = last_with-found i a k j ak (omega arith) l in rw t (f.0, omega (arith, f.1), f.2))
      (cases_eq k (suc j)))

  module _ (rising : (j : ℕ) → RisesAbove number 0 (lists j)) where
    -- what follows was in a list, with a greater number
    follow_listed : (i a j : ℕ) (x : A) → a ≤ j → HasBeen i a j → follow number lists i j ≡ Some x
        → (i < number x) × ((k : ℕ) × (a ≤ k) × (k ≤ j) × Contains (lists k) x)
    follow_listed zero a j x le h e = (first_rises number 0 x (lists j) (rising j) e, (j, le, le_refl j, first_listed number x (lists j) e))
    follow_listed (suc i) a j x le h e =
        let f = last_with-found (suc i) a h.0 j h.1 h.2 h.3 in
        let k : ℕ = last_with number lists (suc i) j in
        (next_rises number 0 (suc i) x (lists k) (rising k) e, (k, f.0, f.1, next_listed number (suc i) x (lists k) e))

    -- of what was in all lists and not yet passed, nothing is passed over
    follow_before : (i a j : ℕ) (y : A) → a ≤ j → HasBeen i a j → ((k : ℕ) → a ≤ k → k ≤ j → Contains (lists k) y) → i < number y → AtOrBefore number y (follow number lists i j)
    follow_before zero a j y le h all lt = first_before number 0 (lists j) y (rising j) (all j le (le_refl j))
    follow_before (suc i) a j y le h all lt =
        let f = last_with-found (suc i) a h.0 j h.1 h.2 h.3 in
        let k : ℕ = last_with number lists (suc i) j in
        next_before number 0 (suc i) (lists k) y (rising k) f.2 (all k f.0 f.1) lt

    was_met : (x : A) (a j k : ℕ) → a ≤ k → k ≤ j → Contains (lists k) x → HasBeen (number x) a j
    was_met x a j k ak kj c = go (number x) (contains-listed number (lists k) x c)
      where
        go : (i : ℕ) → is_listed number i (lists k) ≡ true → HasBeen i a j
        go zero l = tt
        go (suc i) l = (k, ak, kj, l)

    -- a walk whose first step stands between a and b
    meets_within : (i a b : ℕ) (met : List A) → Meets number lists i a b met → a ≤ b
    meets_within i a b [] m = m
    meets_within i a b (x ∷ met) m = let rest = meets_within (number x) m.0 b met m.3 in omega (arith, rest, m.1)

    meets_rise : (i start a b : ℕ) (met : List A) → start ≤ a → HasBeen i start a → Meets number lists i a b met → RisesAbove number i met
    meets_rise i start a b [] le h m = tt
    meets_rise i start a b (x ∷ met) le h m =
        let from : start ≤ m.0 = omega (arith, m.1) in
        let f = follow_listed i start m.0 x from (has_been_later i start a m.0 m.1 h) m.2 in
        (f.0, meets_rise (number x) start m.0 b met from (was_met x start m.0 f.1.0 f.1.1 f.1.2 f.1.3) m.3)

    meets_listed : (i start a b : ℕ) (met : List A) → start ≤ a → HasBeen i start a → Meets number lists i a b met
        → (y : A) → Contains met y → (j : ℕ) × (start ≤ j) × (j ≤ b) × Contains (lists j) y
    meets_listed i start a b [] le h m y c = contains_none y c
    meets_listed i start a b (x ∷ met) le h m y c =
        let from : start ≤ m.0 = omega (arith, m.1) in
        let upto = meets_within (number x) m.0 b met m.3 in
        let f = follow_listed i start m.0 x from (has_been_later i start a m.0 m.1 h) m.2 in
        ⊎_elim (λ (e : x ≡ y). (f.1.0, f.1.1, omega (arith, f.1.2, upto), subst (λ z. Contains (lists f.1.0) z) e f.1.3))
        (λ (d : Contains met y). meets_listed (number x) start m.0 b met from (was_met x start m.0 f.1.0 f.1.1 f.1.2 f.1.3) m.3 y d)
        (contains_cases x y met c)

    meets_complete : (i start a b : ℕ) (met : List A) → start ≤ a → HasBeen i start a → Meets number lists i a b met → follow number lists (last_met number i met) b ≡ None
        → (y : A) → ((j : ℕ) → start ≤ j → j ≤ b → Contains (lists j) y) → i < number y → Contains met y
    meets_complete i start a b [] le h m ends y all lt =
        let w = follow_before i start b y (omega arith) (has_been_later i start a b m h) all lt in
        let clash : Some (w.0) ≡ None = sym (w.1) ∙ ends in cc
    meets_complete i start a b (x ∷ met) le h m ends y all lt =
        let from : start ≤ m.0 = omega (arith, m.1) in
        let upto = meets_within (number x) m.0 b met m.3 in
        let before = has_been_later i start a m.0 m.1 h in
        let f = follow_listed i start m.0 x from before m.2 in
        let w = follow_before i start m.0 y from before (λ j lo hi. all j lo (omega (arith, upto))) lt in
        let same : w.0 ≡ x = some_same (w.0) x (sym w.1 ∙ m.2) in
        ⊎_elim (λ (e : w.0 ≡ y). subst (λ z. Contains (z ∷ met) y) same (subst (λ z. Contains (w.0 ∷ met) z) e (contains_here (w.0) met)))
        (λ (d : number w.0 < number y).
        let past : number x < number y = subst (λ z. number z < number y) same d in
        contains_later x y met (meets_complete (number x) start m.0 b met from (was_met x start m.0 f.1.0 f.1.1 f.1.2 f.1.3) m.3 ends y all past))
        w.2

    -- what a walk has met that has not ended
    pub met_rise : (a b : ℕ) (met : List A) → Meets number lists 0 a b met → RisesAbove number 0 met
    met_rise a b met m = meets_rise 0 a a b met (le_refl a) tt m

    pub met_listed : (a b : ℕ) (met : List A) → Meets number lists 0 a b met → (y : A) → Contains met y → (j : ℕ) × (a ≤ j) × (j ≤ b) × Contains (lists j) y
    met_listed a b met m = meets_listed 0 a a b met (le_refl a) tt m

    -- a walk that came to its end is lawful
    pub whole_walk_lawful : (a b : ℕ) (met : List A) → IsWholeWalk number lists a b met → IsLawfulWalk number lists a b met
    whole_walk_lawful a b met w =
        let rise = meets_rise 0 a a b met (le_refl a) tt w.meets in
        let listed = meets_listed 0 a a b met (le_refl a) tt w.meets in
        let upto = meets_within 0 a b met w.meets in
        let complete : (y : A) → ((j : ℕ) → a ≤ j → j ≤ b → Contains (lists j) y) → Contains met y =
        λ y all. meets_complete 0 a a b met (le_refl a) tt w.meets w.ends y all (rises_past number 0 (lists a) y (rising a) (all a (le_refl a) upto)) in
        record {
          rises = rise;
          listed = listed;
          complete = complete;
          same = λ e. rises_same number 0 met (lists a) rise (rising a)
              (λ y c. let l = listed y c in let here : l.0 ≡ a = omega (arith, l.1, l.2) in subst (λ j. Contains (lists j) y) here l.3)
              (λ y c. complete y (λ j lo hi. let here : a ≡ j = omega arith in subst (λ k. Contains (lists k) y) here c));
        }
