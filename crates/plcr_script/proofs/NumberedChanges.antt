-- The lists that changes leave whose loads are numbered from 1.
use Rattle.std.proofs.Common.{◌≡◌, ℕ, zero, suc, ◌<◌, ◌≤◌, leb, List, [], ◌∷◌, ◌++◌, Some, length, refl, ◌∙◌, subst, arith, le_refl, length-append}
use Rattle.plcr_machine.specs.declared.change.Named.{Named}
use Rattle.plcr_machine.specs.declared.change.Change.{Change}
use Rattle.plcr_machine.specs.declared.change.Change.TheVariants.{Loads, Unloads}
use Rattle.plcr_machine.specs.Walks.{RisesAbove, first_of_list, next_in, last_with, follow}
use Rattle.plcr_machine.specs.Changes.{load_of, without_first, list_of, list_after_changes}
use Rattle.std.proofs.lemmas.Bool.{lt-leb}
use Rattle.plcr_machine.proofs.Cases.{by_cases, at_or_else, eqb_same}
use Rattle.plcr_script.specs.RunChanges.{loads_in}

-- each load has the number after those before it
abbrev pub AreNumbered : List Change → Type 0
AreNumbered [] = Unit {0}
AreNumbered (Loads image ∷ past) = (image.load ≡ suc (loads_in past)) × AreNumbered past
AreNumbered (Unloads header ∷ past) = AreNumbered past

-- the numbers rise from above a bound, and none is above another
abbrev pub RisesTo : ℕ → ℕ → List Named → Type 0
RisesTo low high [] = low ≤ high
RisesTo low high (x ∷ xs) = (low < x.load) × RisesTo x.load high xs

rises_within : (low high : ℕ) (xs : List Named) → RisesTo low high xs → low ≤ high
rises_within low high [] r = r
rises_within low high (x ∷ xs) r = let rest = rises_within x.load high xs r.1 in omega (arith, r.0)

rises_wider : (low high lower higher : ℕ) (xs : List Named) → lower ≤ low → high ≤ higher → RisesTo low high xs → RisesTo lower higher xs
rises_wider low high lower higher [] l h r = omega (arith, l, h, r)
rises_wider low high lower higher (x ∷ xs) l h r = (omega (arith, l, r.0), rises_wider x.load high x.load higher xs (le_refl x.load) h r.1)

rises_snoc : (low high : ℕ) (xs : List Named) (x : Named) → RisesTo low high xs → high < x.load → RisesTo low x.load (xs ++ x ∷ [])
rises_snoc low high [] x r above = (omega (arith, r, above), le_refl x.load)
rises_snoc low high (y ∷ xs) x r above = (r.0, rises_snoc y.load high xs x r.1 above)

rises_without : (low high header : ℕ) (xs : List Named) → RisesTo low high xs → RisesTo low high (without_first header xs)
rises_without low high header [] r = r
rises_without low high header (x ∷ xs) r =
    at_or_else x.header header
    (λ same. rw (same, eqb_same header) (rises_wider x.load high low high xs (omega (arith, r.0)) (le_refl high) r.1))
    (λ other. rw other (r.0, rises_without x.load high header xs r.1))

pub rises_above : (low high : ℕ) (xs : List Named) → RisesTo low high xs → RisesAbove load_of low xs
rises_above low high [] r = tt
rises_above low high (x ∷ xs) r = (r.0, rises_above x.load high xs r.1)

-- the list that numbered changes leave
numbered_rises : (changes : List Change) → AreNumbered changes → RisesTo 0 (loads_in changes) (list_of changes)
numbered_rises [] n = le_refl 0
numbered_rises (Loads image ∷ past) n = rw (← n.0) (rises_snoc 0 (loads_in past) (list_of past) image (numbered_rises past n.1) (omega (arith, n.0)))
numbered_rises (Unloads header ∷ past) n = rises_without 0 (loads_in past) header (list_of past) (numbered_rises past n)

-- and those that its first changes leave
pub lists_rise : (changes : List Change) (j : ℕ) → AreNumbered changes → RisesTo 0 (loads_in changes) (list_after_changes changes j)
lists_rise [] j n = le_refl 0
lists_rise (Loads image ∷ past) j n =
    by_cases (leb (suc (length past)) j)
    (λ all. rw all (numbered_rises (Loads image ∷ past) n))
    (λ fewer. rw fewer (rises_wider 0 (loads_in past) 0 (suc (loads_in past)) (list_after_changes past j) (le_refl 0) (omega arith) (lists_rise past j n.1)))
lists_rise (Unloads header ∷ past) j n =
    by_cases (leb (suc (length past)) j)
    (λ all. rw all (numbered_rises (Unloads header ∷ past) n))
    (λ fewer. rw fewer (lists_rise past j n))

pub lists_rise_above : (changes : List Change) → AreNumbered changes → (j : ℕ) → RisesAbove load_of 0 (list_after_changes changes j)
lists_rise_above changes n j = rises_above 0 (loads_in changes) (list_after_changes changes j) (lists_rise changes j n)

-- what follows an image has a greater number, and no greater one than the last load
first_between : (low high : ℕ) (xs : List Named) (x : Named) → RisesTo low high xs → first_of_list load_of xs ≡ Some x → (low < x.load) × (x.load ≤ high)
first_between low high [] x r e = absurd cc
first_between low high (y ∷ ys) x r e = let same : y ≡ x = cc in subst (λ (z : Named). (low < z.load) × (z.load ≤ high)) same (r.0, rises_within y.load high ys r.1)

next_between : (low high i : ℕ) (xs : List Named) (x : Named) → RisesTo low high xs → next_in load_of i xs ≡ Some x → (i < x.load) × (x.load ≤ high)
next_between low high i [] x r e = absurd cc
next_between low high i (y ∷ ys) x r e =
    at_or_else y.load i
    (λ same. first_between i high ys x (subst (λ (k : ℕ). RisesTo k high ys) same r.1) (rw (same, eqb_same i) at e))
    (λ other. next_between y.load high i ys x r.1 (rw other at e))

pub follow_between : (changes : List Change) (i j : ℕ) (x : Named) → AreNumbered changes → follow load_of (list_after_changes changes) i j ≡ Some x → (i < x.load) × (x.load ≤ loads_in changes)
follow_between changes zero j x n e = first_between 0 (loads_in changes) (list_after_changes changes j) x (lists_rise changes j n) e
follow_between changes (suc i) j x n e =
    let k = last_with load_of (list_after_changes changes) (suc i) j in
    next_between 0 (loads_in changes) (suc i) (list_after_changes changes k) x (lists_rise changes k n) e

-- more changes leave the lists that there were
list_older : (change : Change) (past : List Change) (j : ℕ) → j ≤ length past → list_after_changes (change ∷ past) j ≡ list_after_changes past j
list_older change past j le = rw (lt-leb (suc (length past)) j (omega (arith, le))) refl

pub lists_stay : (added past : List Change) (j : ℕ) → j ≤ length past → list_after_changes (added ++ past) j ≡ list_after_changes past j
lists_stay [] past j le = refl
lists_stay (change ∷ added) past j le =
    list_older change (added ++ past) j (omega (arith, le, length-append added past)) ∙ lists_stay added past j le
