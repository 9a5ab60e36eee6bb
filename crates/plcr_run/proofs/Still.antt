-- Where a later history is known to have no more of what others did, what was seen between is what was there.
use Rattle.std.proofs.Common.{◌≡◌, ◌≢◌, ℕ, ◌<◌, List, sym, subst, ⊎_elim}
use Rattle.std.proofs.lemmas.Bool.{cases_eq}
use Rattle.plcr_machine.specs.declared.entry.Entry.{Entry}
use Rattle.plcr_machine.specs.Lists.{Grows}
use Rattle.plcr_machine.specs.Histories.{IsLegal}
use Rattle.plcr_machine.specs.Parts.{own_entries, owner_entries}
use Rattle.plcr_machine.proofs.Makers.{nothing_else}
use Rattle.plcr_machine.proofs.Between.{own_between, owner_between}

-- A later history has no entry more of the writer, nor of a pass but this one
pub record OneActs (passes r : ℕ) (now top : List Entry) : Type 0 where
  pub grows : Grows now top
  pub owner : owner_entries top ≡ owner_entries now
  pub others : (k : ℕ) → k < passes → k ≢ r → own_entries k top ≡ own_entries k now

-- it has no entry more of a pass
pub record OwnerActs (passes : ℕ) (now top : List Entry) : Type 0 where
  pub grows : Grows now top
  pub own : (k : ℕ) → k < passes → own_entries k top ≡ own_entries k now

-- what the pass sees then is what was there
pub pass_still : (nodes passes r : ℕ) (now seen top : List Entry) → OneActs passes r now top → Grows now seen → Grows seen top → IsLegal nodes passes seen → own_entries r seen ≡ own_entries r now → seen ≡ now
pass_still nodes passes r now seen top o g h legal own =
    nothing_else nodes passes now seen legal g (owner_between now seen top g h o.owner)
    (λ k below. ⊎_elim
    (λ (e : k ≡ r). subst (λ j. own_entries j seen ≡ own_entries j now) (sym e) own)
    (λ (n : k ≡ r → ⊥). own_between k now seen top g h (o.others k below n))
    (cases_eq k r))

-- and what the writer sees
pub writer_still : (nodes passes : ℕ) (now seen top : List Entry) → OwnerActs passes now top → Grows now seen → Grows seen top → IsLegal nodes passes seen → owner_entries seen ≡ owner_entries now → seen ≡ now
writer_still nodes passes now seen top o g h legal owner =
    nothing_else nodes passes now seen legal g owner (λ k below. own_between k now seen top g h (o.own k below))
