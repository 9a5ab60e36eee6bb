-- Walks through a list that changes: what follows an image, and which walks are lawful.
-- The list after j changes is any function of j, and an element is known by its number. No node is
-- in sight.
use Rattle.std.specs.Prelude.{◌≡◌, ℕ, zero, suc, ◌<◌, ◌≤◌, List, [], ◌∷◌, Bool, false, ◌==◌, ◌||◌, if◌then◌else◌, Option, Some, None, Contains}

module _ {A : Type 0} (number : A → ℕ) where
  -- the numbers rise, and the first is above a bound
  abbrev pub RisesAbove : ℕ → List A → Type 0
  RisesAbove bound [] = Unit {0}
  RisesAbove bound (x ∷ xs) = (bound < number x) × RisesAbove (number x) xs

  -- whether the element of a number is in the list
  abbrev pub is_listed : ℕ → List A → Bool
  is_listed i [] = false
  is_listed i (x ∷ xs) = (number x == i) || is_listed i xs

  -- the first of a list, if there is one
  abbrev pub first_of_list : List A → Option A
  first_of_list [] = None
  first_of_list (x ∷ xs) = Some x

  -- what stands right after the element of a number in the list, if anything does
  abbrev pub next_in : ℕ → List A → Option A
  next_in i [] = None
  next_in i (x ∷ xs) = if number x == i then first_of_list xs else next_in i xs

  -- the greatest number up to j of a list that has the element of a number; 0 where there is none
  abbrev pub last_with : (ℕ → List A) → ℕ → ℕ → ℕ
  last_with lists i zero = 0
  last_with lists i (suc j) = if is_listed i (lists (suc j)) then suc j else last_with lists i j

  -- what follows element i after j changes: what stood right after it in the last list that had it;
  -- after 0, the first of the list
  abbrev pub follow : (ℕ → List A) → ℕ → ℕ → Option A
  follow lists zero j = first_of_list (lists j)
  follow lists (suc i) j = next_in (suc i) (lists (last_with lists (suc i) j))

  -- the number of the element met last, or the one to begin with
  abbrev pub last_met : ℕ → List A → ℕ
  last_met i [] = i
  last_met i (x ∷ met) = last_met (number x) met

  -- from element i on, each one met follows the one before it, at numbers of changes that rise or
  -- stay, from a to b
  abbrev pub Meets : (ℕ → List A) → ℕ → ℕ → ℕ → List A → Type 0
  Meets lists i a b [] = a ≤ b
  Meets lists i a b (x ∷ met) = (j : ℕ) × (a ≤ j) × (follow lists i j ≡ Some x)
      × Meets lists (number x) j b met

  -- a walk from a to b that came to its end: nothing followed the element met last
  pub record IsWholeWalk (lists : ℕ → List A) (a b : ℕ) (met : List A) : Type 0 where
    pub meets : Meets lists 0 a b met
    pub ends : follow lists (last_met 0 met) b ≡ None

  -- a lawful walk between the list after a changes and that after b
  pub record IsLawfulWalk (lists : ℕ → List A) (a b : ℕ) (met : List A) : Type 0 where
    -- the numbers rise
    pub rises : RisesAbove 0 met
    -- each element was in one of the lists
    pub listed : (x : A) → Contains met x → (j : ℕ) × (a ≤ j) × (j ≤ b) × Contains (lists j) x
    -- each element that was in all of the lists was met
    pub complete : (x : A) → ((j : ℕ) → a ≤ j → j ≤ b → Contains (lists j) x) → Contains met x
    -- where the list did not change, the walk is the list
    pub same : a ≡ b → met ≡ lists a
