-- In a paced history there are as many changes as counts, or one more.
use Rattle.std.proofs.Common.{◌≡◌, ◌⊎◌, inl, inr, suc, ◌+◌, List, [], ◌∷◌, ◌++◌, cond, false, refl, subst, arith}
use Rattle.plcr_machine.specs.declared.entry.Entry.{Entry}
use Rattle.plcr_machine.specs.declared.entry.Entry.TheVariants.{Announce, Enter, Leave, Retire, Load, Unload, Count, Look}
use Rattle.plcr_machine.specs.Lists.{Grows, changes}
use Rattle.plcr_machine.specs.Passes.{counts, owes_count, IsPaced}
use Rattle.plcr_machine.proofs.Cases.{by_cases}

pub changes-paced : (h : List Entry) → IsPaced h → changes h ≡ counts h + cond (owes_count h) 1 0
changes-paced [] t = refl
changes-paced (Enter p ∷ past) t = changes-paced past t
changes-paced (Announce p seen ∷ past) t = changes-paced past t
changes-paced (Retire p ∷ past) t = changes-paced past t
changes-paced (Leave p ∷ past) t = changes-paced past t
changes-paced (Look q stamp ∷ past) t = changes-paced past t
changes-paced (Load m i a ∷ past) t = let before = rw (t.0) at (changes-paced past t.1) in omega (arith, before)
changes-paced (Unload m ∷ past) t = let before = rw (t.0) at (changes-paced past t.1) in omega (arith, before)
changes-paced (Count ∷ past) t = let before = rw (t.0) at (changes-paced past t.1) in omega (arith, before)

paced_before : (e : Entry) (past : List Entry) → IsPaced (e ∷ past) → IsPaced past
paced_before (Enter p) past t = t
paced_before (Announce p seen) past t = t
paced_before (Retire p) past t = t
paced_before (Leave p) past t = t
paced_before (Look q stamp) past t = t
paced_before (Load m i a) past t = t.1
paced_before (Unload m) past t = t.1
paced_before Count past t = t.1

paced_tail : (added past : List Entry) → IsPaced (added ++ past) → IsPaced past
paced_tail [] past t = t
paced_tail (e ∷ added) past t = paced_tail added past (paced_before e (added ++ past) t)

pub paced_prefix : (past h : List Entry) → IsPaced h → Grows past h → IsPaced past
paced_prefix past h t g = paced_tail g.0 past (subst (λ (l : List Entry). IsPaced l) g.1 t)

pub paced_even : (past : List Entry) → IsPaced past → (changes past ≡ counts past) ⊎ (changes past ≡ suc (counts past))
paced_even past t =
    let total = changes-paced past t in
    by_cases (owes_count past) (λ o. inr (let n = rw o at total in omega (arith, n))) (λ o. inl (let n = rw o at total in omega (arith, n)))

-- at rest there are as many
pub paced_rest : (h : List Entry) → IsPaced h → owes_count h ≡ false → changes h ≡ counts h
paced_rest h t o = let total = rw o at (changes-paced h t) in omega (arith, total)
