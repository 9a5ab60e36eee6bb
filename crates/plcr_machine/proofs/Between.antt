-- Where a part of a history is the same at its two ends, it is the same between them.
use Rattle.std.proofs.Common.{◌≡◌, ◌⊎◌, inl, inr, ⊎_elim, ℕ, suc, ◌≤◌, List, [], ◌∷◌, ◌++◌, length, refl, sym, ap, ◌∙◌, arith, le_refl}
use Rattle.plcr_machine.specs.declared.entry.Entry.{Entry}
use Rattle.plcr_machine.specs.declared.entry.Entry.TheVariants.{Announce, Enter, Leave, Retire, Load, Unload, Count, Look}
use Rattle.plcr_machine.specs.Lists.{Grows}
use Rattle.plcr_machine.specs.Parts.{own_entries, owner_entries}
use Rattle.plcr_machine.proofs.Makers.{own_cases}

-- an entry is one of the writer's or it is not
owner_cases : (e : Entry) (past : List Entry) → (owner_entries (e ∷ past) ≡ owner_entries past) ⊎ (owner_entries (e ∷ past) ≡ e ∷ owner_entries past)
owner_cases (Announce q seen) past = inl refl
owner_cases (Enter q) past = inl refl
owner_cases (Leave q) past = inl refl
owner_cases (Retire q) past = inl refl
owner_cases (Load m i a) past = inr refl
owner_cases (Unload m) past = inr refl
owner_cases Count past = inr refl
owner_cases (Look q stamp) past = inr refl

module _ (part : List Entry → List Entry) (cases : (e : Entry) (past : List Entry) → (part (e ∷ past) ≡ part past) ⊎ (part (e ∷ past) ≡ e ∷ part past)) where
  part_grows : (added past : List Entry) → length (part past) ≤ length (part (added ++ past))
  part_grows [] past = le_refl (length (part past))
  part_grows (e ∷ added) past =
      let before = part_grows added past in
      ⊎_elim (λ (s : part (e ∷ added ++ past) ≡ part (added ++ past)). let same = ap length s in omega (arith, before, same))
      (λ (s : part (e ∷ added ++ past) ≡ e ∷ part (added ++ past)). let more = ap length s in omega (arith, before, more))
      (cases e (added ++ past))

  -- where a later history has no more of the part than an earlier one, neither has what lies between
  part_below : (added more past : List Entry) → part (added ++ (more ++ past)) ≡ part past → part (more ++ past) ≡ part past
  part_below [] more past same = same
  part_below (e ∷ added) more past same =
      ⊎_elim (λ (s : part (e ∷ (added ++ (more ++ past))) ≡ part (added ++ (more ++ past))). part_below added more past (sym s ∙ same))
      (λ (s : part (e ∷ (added ++ (more ++ past))) ≡ e ∷ part (added ++ (more ++ past))).
      let first = part_grows more past in
      let second = part_grows added (more ++ past) in
      let longer : suc (length (part (added ++ (more ++ past)))) ≡ length (part past) = ap length (sym s ∙ same) in
      absurd (omega (arith, first, second, longer)))
      (cases e (added ++ (more ++ past)))

  part_between : (a b c : List Entry) → Grows a b → Grows b c → part c ≡ part a → part b ≡ part a
  part_between a b c g h same =
      let whole : c ≡ h.0 ++ (g.0 ++ a) = h.1 ∙ ap (λ (l : List Entry). h.0 ++ l) g.1 in
      ap part g.1 ∙ part_below h.0 g.0 a (ap part (sym whole) ∙ same)

pub own_between : (pass : ℕ) (a b c : List Entry) → Grows a b → Grows b c → own_entries pass c ≡ own_entries pass a → own_entries pass b ≡ own_entries pass a
own_between pass = part_between (own_entries pass) (own_cases pass)

pub owner_between : (a b c : List Entry) → Grows a b → Grows b c → owner_entries c ≡ owner_entries a → owner_entries b ≡ owner_entries a
owner_between = part_between owner_entries owner_cases
