-- The entry that is chosen is the one with the greatest offset that isn't above another, of equals the last.
use Rattle.std.proofs.Common.{◌≡◌, ◌≤◌, ◌<◌, ℕ, zero, suc, Bool, true, false, ◌&&◌, List, [], ◌∷◌, Option, Some, None, ◌⊎◌, inl, inr, refl, sym, ap, subst, ◌∙◌, arith}
use Rattle.std.specs.Prelude.{slice_get, nat_le, if◌then◌else◌}
use Rattle.std.proofs.lemmas.Bool.{cases_lt}
use Rattle.std.proofs.lemmas.Bool.Decides.{nat_tests}
use Rattle.plcr_compact.specs.declared.section.Entry.{Entry}
use Rattle.plcr_compact.specs.Laws.{IsChosen}
use Rattle.plcr_compact.specs.Tables.{best_of, chosen}

-- an entry stays the best, since those behind it that aren't above the offset are smaller
record Stays (offset : ℕ) (best : Entry) (es : List Entry) (entry : Entry) : Type 0 where
  same : best ≡ entry
  smaller : (k : ℕ) (other : Entry) → slice_get es k ≡ Some other → other.function ≤ offset → other.function < best.function

-- or one behind it is chosen
record Gives (offset : ℕ) (best : Entry) (es : List Entry) (entry : Entry) : Type 0 where
  chosen : IsChosen offset es entry
  greater : best.function ≤ entry.function

at_first : (offset : ℕ) (x : Entry) (es : List Entry) (entry : Entry) → x.function ≤ offset → Stays offset x es entry → IsChosen offset (x ∷ es) entry
at_first offset x es entry below s = record {
  index = 0;
  stands = ap Some s.same;
  below = subst (λ (e : Entry). e.function ≤ offset) s.same below;
  greatest = greatest;
  last = last;
}
  where
    greatest : (k : ℕ) (other : Entry) → slice_get (x ∷ es) k ≡ Some other → other.function ≤ offset → other.function ≤ entry.function
    greatest zero other at le = let same : other ≡ entry = cc (s.same) in rw same (omega arith)
    greatest (suc k) other at le =
        let h = s.smaller k other at le in
        let same = ap (λ (e : Entry). e.function) s.same in
        omega arith

    last : (k : ℕ) (other : Entry) → slice_get (x ∷ es) k ≡ Some other → 0 < k → other.function ≤ offset → other.function < entry.function
    last zero other at lt le = absurd (omega arith)
    last (suc k) other at lt le =
        let h = s.smaller k other at le in
        let same = ap (λ (e : Entry). e.function) s.same in
        omega arith

-- an entry before others that isn't above the offset has no greater one, or is above it
behind : (offset : ℕ) (x : Entry) (es : List Entry) (entry : Entry) → (x.function ≤ offset → x.function ≤ entry.function) → IsChosen offset es entry → IsChosen offset (x ∷ es) entry
behind offset x es entry first c = record {
  index = suc c.index;
  stands = c.stands;
  below = c.below;
  greatest = greatest;
  last = last;
}
  where
    greatest : (k : ℕ) (other : Entry) → slice_get (x ∷ es) k ≡ Some other → other.function ≤ offset → other.function ≤ entry.function
    greatest zero other at le = let same : x ≡ other = cc in subst (λ (e : Entry). e.function ≤ entry.function) same (first (rw same le))
    greatest (suc k) other at le = c.greatest k other at le

    last : (k : ℕ) (other : Entry) → slice_get (x ∷ es) k ≡ Some other → suc c.index < k → other.function ≤ offset → other.function < entry.function
    last zero other at lt le = absurd (omega arith)
    last (suc k) other at lt le = c.last k other at (omega arith) le

both : (a b c : ℕ) → (nat_le a b && nat_le c a) ≡ true → (a ≤ b) × (c ≤ a)
both a b c h = (grind (arith, nat_tests), grind (arith, nat_tests))

not_both : (a b c : ℕ) → (nat_le a b && nat_le c a) ≡ false → a ≤ b → a < c
not_both a b c h le = grind (arith, nat_tests)

from_some : (offset : ℕ) (best : Entry) (es : List Entry) (entry : Entry) → best_of offset (Some best) es ≡ Some entry → Stays offset best es entry ⊎ Gives offset best es entry
from_some offset best [] entry h = inl (record { same = cc; smaller = λ k other at le. let e = at in cc })
from_some offset best (x ∷ es) entry h = by_test (λ b. from_some offset b es entry) (nat_le x.function offset && nat_le best.function x.function) refl h
  where
    by_test : ((b : Entry) → best_of offset (Some b) es ≡ Some entry → Stays offset b es entry ⊎ Gives offset b es entry) → (t : Bool) → (nat_le x.function offset && nat_le best.function x.function) ≡ t → best_of offset (if t then Some x else Some best) es ≡ Some entry
        → Stays offset best (x ∷ es) entry ⊎ Gives offset best (x ∷ es) entry
    by_test behind_it true t h =
        let b = both x.function offset best.function t in
        elim (behind_it x h) [
          | inl s ↦
              let same = ap (λ (e : Entry). e.function) s.same in
              inr (record { chosen = at_first offset x es entry b.0 s; greater = omega arith })
          | inr g ↦ inr (record { chosen = behind offset x es entry (λ _. g.greater) g.chosen; greater = omega (arith, g.greater, b.1) })
        ]
    by_test behind_it false t h =
        elim (behind_it best h) [
          | inl s ↦ inl (record { same = s.same; smaller = λ k other at le. smaller s k other at le })
          | inr g ↦ inr (record { chosen = behind offset x es entry (λ le. omega (arith, not_both x.function offset best.function t le, g.greater)) g.chosen; greater = g.greater })
        ]
      where
        smaller : Stays offset best es entry → (k : ℕ) (other : Entry) → slice_get (x ∷ es) k ≡ Some other → other.function ≤ offset → other.function < best.function
        smaller s zero other at le = let same : x ≡ other = cc in subst (λ (e : Entry). e.function < best.function) same (not_both x.function offset best.function t (rw same le))
        smaller s (suc k) other at le = s.smaller k other at le

le_true : (a b : ℕ) → nat_le a b ≡ true → a ≤ b
le_true a b h = grind (arith, nat_tests)

le_false : (a b : ℕ) → nat_le a b ≡ false → b < a
le_false a b h = grind (arith, nat_tests)

from_none : (offset : ℕ) (es : List Entry) (entry : Entry) → best_of offset None es ≡ Some entry → IsChosen offset es entry
from_none offset [] entry h = let e = h in cc
from_none offset (x ∷ es) entry h = by_test (from_none offset es entry) (nat_le x.function offset) refl h
  where
    by_test : (best_of offset None es ≡ Some entry → IsChosen offset es entry) → (t : Bool) → nat_le x.function offset ≡ t → best_of offset (if t then Some x else None) es ≡ Some entry → IsChosen offset (x ∷ es) entry
    by_test without true t h =
        elim (from_some offset x es entry h) [
          | inl s ↦ at_first offset x es entry (le_true x.function offset t) s
          | inr g ↦ behind offset x es entry (λ _. g.greater) g.chosen
        ]
    by_test without false t h = behind offset x es entry (λ le. absurd (omega (arith, le, le_false x.function offset t))) (without h)

pub chosen_found : (offset : ℕ) (es : List Entry) (entry : Entry) → chosen offset es ≡ Some entry → IsChosen offset es entry
unfolding chosen
chosen_found offset es entry h = from_none offset es entry h

-- where none is chosen all are above the offset
some_stays : (offset : ℕ) (best : Entry) (es : List Entry) → best_of offset (Some best) es ≡ None → ⊥
some_stays offset best [] h = cc
some_stays offset best (x ∷ es) h = by_test (λ b. some_stays offset b es) (nat_le x.function offset && nat_le best.function x.function) h
  where
    by_test : ((b : Entry) → best_of offset (Some b) es ≡ None → ⊥) → (t : Bool) → best_of offset (if t then Some x else Some best) es ≡ None → ⊥
    by_test stays true h = stays x h
    by_test stays false h = stays best h

all_above : (offset : ℕ) (es : List Entry) → best_of offset None es ≡ None → (k : ℕ) (other : Entry) → slice_get es k ≡ Some other → offset < other.function
all_above offset [] h k other at = let e = at in cc
all_above offset (x ∷ es) h k other at = by_test (λ g j. all_above offset es g j other) (nat_le x.function offset) refl h k at
  where
    by_test : (best_of offset None es ≡ None → (j : ℕ) → slice_get es j ≡ Some other → offset < other.function) → (t : Bool) → nat_le x.function offset ≡ t → best_of offset (if t then Some x else None) es ≡ None → (k : ℕ) → slice_get (x ∷ es) k ≡ Some other → offset < other.function
    by_test above true t h k at = absurd (some_stays offset x es h)
    by_test above false t h zero at = let same : x ≡ other = cc in subst (λ (e : Entry). offset < e.function) same (le_false x.function offset t)
    by_test above false t h (suc k) at = above h k at

-- there is one such entry at most
one_chosen : (offset : ℕ) (es : List Entry) (a b : Entry) → IsChosen offset es a → IsChosen offset es b → a ≡ b
one_chosen offset es a b p q =
    elim (cases_lt p.index q.index) [
      | inl lt ↦ absurd (omega (arith, p.last q.index b q.stands lt q.below, q.greatest p.index a p.stands p.below))
      | inr ge ↦
          elim (cases_lt q.index p.index) [
            | inl lt ↦ absurd (omega (arith, q.last p.index a p.stands lt p.below, p.greatest q.index b q.stands q.below))
            | inr le ↦
                let same : p.index ≡ q.index = omega (arith, ge, le) in
                let there = sym p.stands ∙ ap (λ (k : ℕ). slice_get es k) same ∙ q.stands in
                cc
          ]
    ]

pub chosen_only : (offset : ℕ) (es : List Entry) (entry : Entry) → IsChosen offset es entry → chosen offset es ≡ Some entry
unfolding chosen
chosen_only offset es entry c = by_answer (best_of offset None es) refl
  where
    by_answer : (o : Option Entry) → best_of offset None es ≡ o → o ≡ Some entry
    by_answer None h = absurd (omega (arith, all_above offset es h c.index entry c.stands, c.below))
    by_answer (Some e) h = ap Some (one_chosen offset es e entry (from_none offset es e h) c)
