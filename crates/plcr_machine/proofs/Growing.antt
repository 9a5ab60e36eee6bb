-- The list after a number of changes stays as a history goes on, and walks go on with it.
use Rattle.std.proofs.Common.{◌≡◌, ℕ, zero, suc, ◌≤◌, List, [], ◌∷◌, ◌++◌, Some, true, false, cond, leb, refl, sym, ap, ◌∙◌, subst, arith, le_refl, length}
use Rattle.std.proofs.lemmas.Bool.{le-leb, lt-leb, leb-true}
use Rattle.plcr_machine.specs.declared.image.Image.{Image}
use Rattle.plcr_machine.specs.declared.entry.Entry.{Entry}
use Rattle.plcr_machine.specs.declared.entry.Entry.TheVariants.{Announce, Enter, Leave, Retire, Load, Unload, Count, Look}
use Rattle.plcr_machine.specs.Lists.{Grows, load_number, without, live, changes, loads, list_after}
use Rattle.plcr_machine.specs.Passes.{counts}
use Rattle.plcr_machine.specs.Parts.{change_entries}
use Rattle.plcr_machine.specs.Walks.{is_listed, first_of_list, next_in, last_with, follow, last_met, Meets}
use Rattle.plcr_machine.proofs.Cases.{by_cases}

module _ {A : Type 0} (number : A → ℕ) where
  last_with-same : (lists others : ℕ → List A) (i j : ℕ) → ((k : ℕ) → k ≤ j → lists k ≡ others k) → last_with number lists i j ≡ last_with number others i j
  last_with-same lists others i zero same = refl
  last_with-same lists others i (suc j) same =
      let here = same (suc j) (le_refl (suc j)) in
      let below = last_with-same lists others i j (λ k h. same k (omega arith)) in
      rw (here, below) refl

  last_with-most : (lists : ℕ → List A) (i j : ℕ) → last_with number lists i j ≤ j
  last_with-most lists i zero = omega arith
  last_with-most lists i (suc j) = by_cases (is_listed number i (lists (suc j))) (λ e. rw e (omega arith)) (λ e. rw e (omega (arith, last_with-most lists i j)))

  -- what follows depends on the lists so far alone
  pub follow-same : (lists others : ℕ → List A) (i j : ℕ) → ((k : ℕ) → k ≤ j → lists k ≡ others k) → follow number lists i j ≡ follow number others i j
  follow-same lists others zero j same = ap (λ (l : List A). first_of_list number l) (same j (le_refl j))
  follow-same lists others (suc i) j same =
      let at = same (last_with number lists (suc i) j) (last_with-most lists (suc i) j) in
      ap (λ (l : List A). next_in number (suc i) l) (at ∙ ap others (last_with-same lists others (suc i) j same))

  meets_later : (lists : ℕ → List A) (i a b : ℕ) (met : List A) → Meets number lists i a b met → a ≤ b
  meets_later lists i a b [] m = m
  meets_later lists i a b (x ∷ met) m = omega (arith, meets_later lists (number x) m.0 b met m.3, m.1)

  pub meets-same : (lists others : ℕ → List A) (i a b : ℕ) (met : List A) → ((k : ℕ) → k ≤ b → lists k ≡ others k) → Meets number lists i a b met → Meets number others i a b met
  meets-same lists others i a b [] same m = m
  meets-same lists others i a b (x ∷ met) same m =
      let upto = meets_later lists (number x) m.0 b met m.3 in
      (m.0, m.1, sym (follow-same lists others i m.0 (λ k h. same k (omega arith))) ∙ m.2, meets-same lists others (number x) m.0 b met same m.3)

  -- a walk up to a number of changes is one up to any later number
  pub meets_until : (lists : ℕ → List A) (i a b c : ℕ) (met : List A) → b ≤ c → Meets number lists i a b met → Meets number lists i a c met
  meets_until lists i a b c [] le m = omega arith
  meets_until lists i a b c (x ∷ met) le m = (m.0, m.1, m.2, meets_until lists (number x) m.0 b c met le m.3)

  -- a walk goes on with what follows the element met last
  pub meets-snoc : (lists : ℕ → List A) (i a b c : ℕ) (met : List A) (x : A) → b ≤ c → Meets number lists i a b met
      → follow number lists (last_met number i met) c ≡ Some x → Meets number lists i a c (met ++ x ∷ [])
  meets-snoc lists i a b c [] x le m e = (c, omega arith, e, le_refl c)
  meets-snoc lists i a b c (y ∷ met) x le m e = (m.0, m.1, m.2, meets-snoc lists (number y) m.0 b c met x le m.3 e)

  pub last_met-snoc : (i : ℕ) (met : List A) (x : A) → last_met number i (met ++ x ∷ []) ≡ number x
  last_met-snoc i [] x = refl
  last_met-snoc i (y ∷ met) x = last_met-snoc (number y) met x

-- from the last change on, the list after so many changes is the list
pub list_after-now : (h : List Entry) (j : ℕ) → changes h ≤ j → list_after h j ≡ live h
list_after-now [] j le = refl
list_after-now (e ∷ past) j le = rw (le-leb (changes (e ∷ past)) j le) refl

-- up to the changes of the past, an entry leaves the lists
pub list_after-older : (e : Entry) (past : List Entry) (j : ℕ) → j ≤ changes past → list_after (e ∷ past) j ≡ list_after past j
list_after-older e past j le = go e
  where
    unchanged : leb (changes past) j ≡ true → live past ≡ list_after past j
    unchanged t = sym (list_after-now past j (leb-true (changes past) j t))

    same : cond (leb (changes past) j) (live past) (list_after past j) ≡ list_after past j
    same = by_cases (leb (changes past) j) (λ t. rw t (unchanged t)) (λ t. rw t refl)

    fewer : leb (suc (changes past)) j ≡ false
    fewer = lt-leb (suc (changes past)) j (omega arith)

    go : (x : Entry) → list_after (x ∷ past) j ≡ list_after past j
    go (Enter p) = same
    go (Announce p seen) = same
    go (Retire p) = same
    go (Leave p) = same
    go Count = same
    go (Look q stamp) = same
    go (Load m i a) = rw fewer refl
    go (Unload m) = rw fewer refl

changes-grow : (e : Entry) (past : List Entry) → changes past ≤ changes (e ∷ past)
changes-grow (Enter p) past = le_refl (changes past)
changes-grow (Announce p seen) past = le_refl (changes past)
changes-grow (Retire p) past = le_refl (changes past)
changes-grow (Leave p) past = le_refl (changes past)
changes-grow Count past = le_refl (changes past)
changes-grow (Look q stamp) past = le_refl (changes past)
changes-grow (Load m i a) past = omega arith
changes-grow (Unload m) past = omega arith

changes_added : (added past : List Entry) → changes past ≤ changes (added ++ past)
changes_added [] past = le_refl (changes past)
changes_added (e ∷ added) past = omega (arith, changes_added added past, changes-grow e (added ++ past))

list_after-added : (added past : List Entry) (j : ℕ) → j ≤ changes past → list_after (added ++ past) j ≡ list_after past j
list_after-added [] past j le = refl
list_after-added (e ∷ added) past j le = list_after-older e (added ++ past) j (omega (arith, changes_added added past)) ∙ list_after-added added past j le

-- the same over a history that went on
pub list_after-grows : (past h : List Entry) (j : ℕ) → Grows past h → j ≤ changes past → list_after h j ≡ list_after past j
list_after-grows past h j g le = subst (λ (l : List Entry). list_after l j ≡ list_after past j) (sym g.1) (list_after-added g.0 past j le)

pub changes-grows : (past h : List Entry) → Grows past h → changes past ≤ changes h
changes-grows past h g = subst (λ (l : List Entry). changes past ≤ changes l) (sym g.1) (changes_added g.0 past)

counts-grow : (e : Entry) (past : List Entry) → counts past ≤ counts (e ∷ past)
counts-grow Count past = omega arith
counts-grow (Announce p seen) past = le_refl (counts past)
counts-grow (Enter p) past = le_refl (counts past)
counts-grow (Leave p) past = le_refl (counts past)
counts-grow (Retire p) past = le_refl (counts past)
counts-grow (Look p stamp) past = le_refl (counts past)
counts-grow (Load m i a) past = le_refl (counts past)
counts-grow (Unload m) past = le_refl (counts past)

counts_added : (added past : List Entry) → counts past ≤ counts (added ++ past)
counts_added [] past = le_refl (counts past)
counts_added (e ∷ added) past = omega (arith, counts_added added past, counts-grow e (added ++ past))

pub counts-grows : (past h : List Entry) → Grows past h → counts past ≤ counts h
counts-grows past h g = subst (λ (l : List Entry). counts past ≤ counts l) (sym g.1) (counts_added g.0 past)

loads-grow : (e : Entry) (past : List Entry) → loads past ≤ loads (e ∷ past)
loads-grow (Load m i a) past = omega arith
loads-grow (Announce p seen) past = le_refl (loads past)
loads-grow (Enter p) past = le_refl (loads past)
loads-grow (Leave p) past = le_refl (loads past)
loads-grow (Retire p) past = le_refl (loads past)
loads-grow (Look p stamp) past = le_refl (loads past)
loads-grow Count past = le_refl (loads past)
loads-grow (Unload m) past = le_refl (loads past)

loads_added : (added past : List Entry) → loads past ≤ loads (added ++ past)
loads_added [] past = le_refl (loads past)
loads_added (e ∷ added) past = omega (arith, loads_added added past, loads-grow e (added ++ past))

pub loads-grows : (past h : List Entry) → Grows past h → loads past ≤ loads h
loads-grows past h g = subst (λ (l : List Entry). loads past ≤ loads l) (sym g.1) (loads_added g.0 past)

pub meets-grows : (past h : List Entry) (i a b : ℕ) (met : List Image) → Grows past h → b ≤ changes past
    → Meets load_number (list_after past) i a b met → Meets load_number (list_after h) i a b met
meets-grows past h i a b met g le m = meets-same load_number (list_after past) (list_after h) i a b met (λ k below. sym (list_after-grows past h k g (omega arith))) m

-- a history has as many changes as its loads and unloads, and they leave its list
pub changes_make : (h : List Entry) → (length (change_entries h) ≡ changes h) × (live (change_entries h) ≡ live h)
changes_make [] = (refl, refl)
changes_make (Load n i a ∷ past) =
    let rest = changes_make past in (ap suc rest.0, ap (λ (xs : List Image). xs ++ record { node = n; load = i; header = a } ∷ []) rest.1)
changes_make (Unload n ∷ past) = let rest = changes_make past in (ap suc rest.0, ap (without n) rest.1)
changes_make (Enter p ∷ past) = changes_make past
changes_make (Announce p seen ∷ past) = changes_make past
changes_make (Retire p ∷ past) = changes_make past
changes_make (Leave p ∷ past) = changes_make past
changes_make (Count ∷ past) = changes_make past
changes_make (Look q stamp ∷ past) = changes_make past
