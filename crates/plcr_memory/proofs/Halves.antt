-- The first region that shares an address with an earlier one, by halves.
use Rattle.std.proofs.Common.{◌≡◌, ◌≤◌, ◌<◌, ℕ, ◌+◌, ◌-◌, inl, inr, List, length, subst, sym, arith}
use Rattle.std.proofs.lemmas.Bool.{cases_lt}
use Rattle.plcr_memory.specs.declared.region.Region.{Region}
use Rattle.plcr_memory.specs.Regions.{region_at, Share, AreApartBelow, AreApart}
use Rattle.plcr_memory.proofs.Passes.{below_next}

-- the first `low` regions are apart, and the first `high` aren't
pub record Halves (rs : List Region) (low high : ℕ) : Type 0 where
  pub below : low < high
  pub inside : high ≤ length rs
  pub apart : AreApartBelow low rs
  pub clash : ¬ AreApartBelow high rs

pub halves_start : (rs : List Region) → ¬ AreApart rs → Halves rs 0 (length rs)
halves_start rs clash = record {
  below = elim (cases_lt 0 (length rs)) [ inl h ↦ h | inr h ↦ absurd (clash (λ i j l k s. omega (arith, h, k))) ];
  inside = omega arith;
  apart = λ i j l k s. omega (arith, k);
  clash = clash;
}

-- at halves next to one another
pub halves_end : (rs : List Region) (low high : ℕ) → Halves rs low high → high - low ≤ 1 → ¬ AreApartBelow (low + 1) rs
halves_end rs low high h near =
    let e : high ≡ low + 1 = omega (arith, h.below) in
    let P : ℕ → Type 0 = λ n. AreApartBelow n rs → ⊥ in
    subst P e h.clash

-- a region apart from all before it
pub apart_more : (rs : List Region) (n : ℕ) → AreApartBelow n rs → ((k : ℕ) → k < n → ¬ Share (region_at rs k) (region_at rs n)) → AreApartBelow (n + 1) rs
apart_more rs n h alone i j lt jn =
    elim (below_next j n jn) [
      | inl l ↦ h i j lt l
      | inr e ↦
          let P : ℕ → Type 0 = λ x. Share (region_at rs i) (region_at rs x) → ⊥ in
          subst P (sym e) (alone i (omega (arith, lt, e)))
    ]
