-- Each entry of a legal history is the writer's or that of one pass.
use Rattle.std.proofs.Common.{◌≡◌, ◌⊎◌, inl, inr, ⊎_elim, ℕ, zero, suc, ◌+◌, ◌<◌, ◌≤◌, List, [], ◌∷◌, ◌++◌, length, true, false, eqb, refl, sym, ap, ◌∙◌, subst, arith, le_refl, ne_eqb}
use Rattle.std.proofs.lemmas.Bool.{eqb-false}
use Rattle.std.proofs.lemmas.List.{length-append}
use Rattle.plcr_machine.specs.declared.entry.Entry.{Entry}
use Rattle.plcr_machine.specs.declared.entry.Entry.TheVariants.{Announce, Enter, Leave, Retire, Load, Unload, Count, Look}
use Rattle.plcr_machine.specs.Lists.{Grows}
use Rattle.plcr_machine.specs.Passes.{is_inside, is_announced}
use Rattle.plcr_machine.specs.Histories.{IsLegal}
use Rattle.plcr_machine.specs.Parts.{own_entries, owner_entries, total}
use Rattle.plcr_machine.specs.Holds.{before_enter}
use Rattle.plcr_machine.proofs.Cases.{by_cases, at_or_else, eqb_same, not_both}
use Rattle.plcr_machine.proofs.Insiders.{announced_below, inside_below}

pub legal_tail : (nodes passes : ℕ) (added past : List Entry) → IsLegal nodes passes (added ++ past) → IsLegal nodes passes past
legal_tail nodes passes [] past l = l
legal_tail nodes passes (e ∷ added) past l = legal_tail nodes passes added past l.1

pub total-same : (f g : ℕ → ℕ) (n : ℕ) → ((k : ℕ) → k < n → f k ≡ g k) → total f n ≡ total g n
total-same f g zero same = refl
total-same f g (suc n) same = let here = same n (omega arith) in let below = total-same f g n (λ k lt. same k (omega arith)) in omega (arith, here, below)

-- one more, where one number is one more
total-more : (f g : ℕ → ℕ) (p n : ℕ) → p < n → g p ≡ suc (f p) → ((k : ℕ) → eqb p k ≡ false → g k ≡ f k) → total g n ≡ suc (total f n)
total-more f g p zero lt more same = absurd (omega arith)
total-more f g p (suc n) lt more same =
    at_or_else p n
    (λ e. let below = total-same g f n (λ k below. same k (ne_eqb p k (λ s. omega arith))) in
    let here : g n ≡ suc (f n) = subst (λ k. g k ≡ suc (f k)) e more in omega (arith, here, below))
    (λ e. let below = total-more f g p n (omega (arith, eqb-false p n e)) more same in
    let here = same n e in omega (arith, here, below))

total-zero : (n : ℕ) → total (λ k. 0) n ≡ 0
total-zero zero = refl
total-zero (suc n) = omega (arith, total-zero n)

module _ (nodes passes : ℕ) where
  own-more : (p : ℕ) (e : Entry) (past : List Entry) → p < passes → own_entries p (e ∷ past) ≡ e ∷ own_entries p past
      → ((k : ℕ) → eqb p k ≡ false → own_entries k (e ∷ past) ≡ own_entries k past)
      → total (λ k. length (own_entries k (e ∷ past))) passes ≡ suc (total (λ k. length (own_entries k past)) passes)
  own-more p e past lt own others =
      total-more (λ k. length (own_entries k past)) (λ k. length (own_entries k (e ∷ past))) p passes lt (ap length own) (λ k d. ap length (others k d))

  pub one_maker : (h : List Entry) → IsLegal nodes passes h → length h ≡ length (owner_entries h) + total (λ p. length (own_entries p h)) passes
  one_maker [] l = let none = total-zero passes in omega (arith, none)
  one_maker (Announce p seen ∷ past) l =
      omega (arith, one_maker past l.1, own-more p (Announce p seen) past l.0.0 (rw eqb_same refl) (λ k d. rw d refl))
  one_maker (Enter p ∷ past) l =
      omega (arith, one_maker past l.1, own-more p (Enter p) past (announced_below nodes passes p past l.1 l.0.0) (rw eqb_same refl) (λ k d. rw d refl))
  one_maker (Leave p ∷ past) l =
      omega (arith, one_maker past l.1, own-more p (Leave p) past (inside_below nodes passes p past l.1 l.0) (rw eqb_same refl) (λ k d. rw d refl))
  one_maker (Retire p ∷ past) l =
      omega (arith, one_maker past l.1, own-more p (Retire p) past (announced_below nodes passes p past l.1 l.0.0) (rw eqb_same refl) (λ k d. rw d refl))
  one_maker (Load m i a ∷ past) l = omega (arith, one_maker past l.1)
  one_maker (Unload m ∷ past) l = omega (arith, one_maker past l.1)
  one_maker (Count ∷ past) l = omega (arith, one_maker past l.1)
  one_maker (Look p stamp ∷ past) l = omega (arith, one_maker past l.1)

nothing_added : (added past : List Entry) → length (added ++ past) ≡ length past → added ++ past ≡ past
nothing_added [] past same = refl
nothing_added (e ∷ added) past same = absurd (omega (arith, same, length-append added past))

-- where neither the writer nor a pass has more entries, nothing came
pub nothing_else : (nodes passes : ℕ) (past h : List Entry) → IsLegal nodes passes h → Grows past h → owner_entries h ≡ owner_entries past
    → ((p : ℕ) → p < passes → own_entries p h ≡ own_entries p past) → h ≡ past
nothing_else nodes passes past h l g owner own =
    let whole : IsLegal nodes passes (g.0 ++ past) = subst (λ (k : List Entry). IsLegal nodes passes k) g.1 l in
    let now = one_maker nodes passes h l in
    let before = one_maker nodes passes past (legal_tail nodes passes g.0 past whole) in
    let owners : length (owner_entries h) ≡ length (owner_entries past) = ap length owner in
    let owns = total-same (λ p. length (own_entries p h)) (λ p. length (own_entries p past)) passes (λ p lt. ap length (own p lt)) in
    let same : length h ≡ length past = omega (arith, now, before, owners, owns) in
    g.1 ∙ nothing_added g.0 past (ap length (sym g.1) ∙ same)

-- an entry is one of a pass's own or it is not
pub own_cases : (p : ℕ) (e : Entry) (past : List Entry) → (own_entries p (e ∷ past) ≡ own_entries p past) ⊎ (own_entries p (e ∷ past) ≡ e ∷ own_entries p past)
own_cases p (Announce q seen) past = by_cases (eqb q p) (λ d. inr (rw d refl)) (λ d. inl (rw d refl))
own_cases p (Enter q) past = by_cases (eqb q p) (λ d. inr (rw d refl)) (λ d. inl (rw d refl))
own_cases p (Leave q) past = by_cases (eqb q p) (λ d. inr (rw d refl)) (λ d. inl (rw d refl))
own_cases p (Retire q) past = by_cases (eqb q p) (λ d. inr (rw d refl)) (λ d. inl (rw d refl))
own_cases p (Load m i a) past = inl refl
own_cases p (Unload m) past = inl refl
own_cases p Count past = inl refl
own_cases p (Look q stamp) past = inl refl

pub own_grow : (p : ℕ) (added past : List Entry) → length (own_entries p past) ≤ length (own_entries p (added ++ past))
own_grow p [] past = le_refl (length (own_entries p past))
own_grow p (e ∷ added) past =
    let before = own_grow p added past in
    ⊎_elim (λ (s : own_entries p (e ∷ added ++ past) ≡ own_entries p (added ++ past)). let same = ap length s in omega (arith, before, same))
    (λ (s : own_entries p (e ∷ added ++ past) ≡ e ∷ own_entries p (added ++ past)). let more = ap length s in omega (arith, before, more))
    (own_cases p e (added ++ past))

-- where a pass has no more entries, none that was added is its own
pub own_split : (p : ℕ) (e : Entry) (added past : List Entry) → own_entries p (e ∷ added ++ past) ≡ own_entries p past
    → (own_entries p (e ∷ added ++ past) ≡ own_entries p (added ++ past)) × (own_entries p (added ++ past) ≡ own_entries p past)
own_split p e added past same =
    ⊎_elim (λ (s : own_entries p (e ∷ added ++ past) ≡ own_entries p (added ++ past)). (s, sym s ∙ same))
    (λ (s : own_entries p (e ∷ added ++ past) ≡ e ∷ own_entries p (added ++ past)).
    let more : suc (length (own_entries p (added ++ past))) ≡ length (own_entries p past) = ap length (sym s ∙ same) in absurd (omega (arith, more, own_grow p added past)))
    (own_cases p e (added ++ past))

before_enter-step : (p : ℕ) (e : Entry) (past : List Entry) → own_entries p (e ∷ past) ≡ own_entries p past → before_enter p (e ∷ past) ≡ before_enter p past
before_enter-step p (Enter q) past s =
    by_cases (eqb q p) (λ d. let more : suc (length (own_entries p past)) ≡ length (own_entries p past) = ap length (rw d at s) in absurd (omega (arith, more))) (λ d. rw d refl)
before_enter-step p (Announce q seen) past s = refl
before_enter-step p (Leave q) past s = refl
before_enter-step p (Retire q) past s = refl
before_enter-step p (Load n i a) past s = refl
before_enter-step p (Unload n) past s = refl
before_enter-step p Count past s = refl
before_enter-step p (Look q stamp) past s = refl

before_enter-added : (p : ℕ) (added past : List Entry) → own_entries p (added ++ past) ≡ own_entries p past → before_enter p (added ++ past) ≡ before_enter p past
before_enter-added p [] past s = refl
before_enter-added p (e ∷ added) past s = let t = own_split p e added past s in before_enter-step p e (added ++ past) t.0 ∙ before_enter-added p added past t.1

-- what was before a pass went in stays so as long as the pass makes no more entries
pub before_enter-stays : (p : ℕ) (past h : List Entry) → Grows past h → own_entries p h ≡ own_entries p past → before_enter p h ≡ before_enter p past
before_enter-stays p past h g same =
    let own : own_entries p (g.0 ++ past) ≡ own_entries p past = subst (λ (k : List Entry). own_entries p k ≡ own_entries p past) g.1 same in
    subst (λ (k : List Entry). before_enter p k ≡ before_enter p past) (sym g.1) (before_enter-added p g.0 past own)

grows_on : (e : Entry) (past h : List Entry) → Grows past h → Grows past (e ∷ h)
grows_on e past h g = (e ∷ g.0, ap (λ (k : List Entry). e ∷ k) g.1)

-- while a pass is inside, its enter stands right after what was before it
pub entered_after : (p : ℕ) (h : List Entry) → is_inside p h ≡ true → Grows (Enter p ∷ before_enter p h) h
entered_after p [] i = not_both false i refl
entered_after p (Enter q ∷ past) i =
    at_or_else q p (λ d. rw (d, eqb_same) ([], refl))
    (λ d. rw d (grows_on (Enter q) (Enter p ∷ before_enter p past) past (entered_after p past (rw d at i))))
entered_after p (Leave q ∷ past) i =
    by_cases (eqb q p) (λ d. not_both false (rw d at i) refl) (λ d. grows_on (Leave q) (Enter p ∷ before_enter p past) past (entered_after p past (rw d at i)))
entered_after p (Announce q seen ∷ past) i = grows_on (Announce q seen) (Enter p ∷ before_enter p past) past (entered_after p past i)
entered_after p (Retire q ∷ past) i = grows_on (Retire q) (Enter p ∷ before_enter p past) past (entered_after p past i)
entered_after p (Load m j a ∷ past) i = grows_on (Load m j a) (Enter p ∷ before_enter p past) past (entered_after p past i)
entered_after p (Unload m ∷ past) i = grows_on (Unload m) (Enter p ∷ before_enter p past) past (entered_after p past i)
entered_after p (Count ∷ past) i = grows_on Count (Enter p ∷ before_enter p past) past (entered_after p past i)
entered_after p (Look q stamp ∷ past) i = grows_on (Look q stamp) (Enter p ∷ before_enter p past) past (entered_after p past i)

-- a pass's own entries tell whether it is announced
pub announced-own : (p : ℕ) (h : List Entry) → is_announced p (own_entries p h) ≡ is_announced p h
announced-own p [] = refl
announced-own p (Announce q seen ∷ past) = by_cases (eqb q p) (λ d. rw (d, d) refl) (λ d. rw d (announced-own p past))
announced-own p (Enter q ∷ past) = by_cases (eqb q p) (λ d. rw d (announced-own p past)) (λ d. rw d (announced-own p past))
announced-own p (Leave q ∷ past) = by_cases (eqb q p) (λ d. rw d (announced-own p past)) (λ d. rw d (announced-own p past))
announced-own p (Retire q ∷ past) = by_cases (eqb q p) (λ d. rw (d, d) refl) (λ d. rw d (announced-own p past))
announced-own p (Load m i a ∷ past) = announced-own p past
announced-own p (Unload m ∷ past) = announced-own p past
announced-own p (Count ∷ past) = announced-own p past
announced-own p (Look q stamp ∷ past) = announced-own p past

pub finds_nobody : (nodes passes p stamp : ℕ) (met past : List Entry) → is_announced p met ≡ false → own_entries p past ≡ own_entries p met
    → (is_announced p past ≡ false) × (IsLegal nodes passes (Look p stamp ∷ past) → stamp ≡ 0)
finds_nobody nodes passes p stamp met past out same =
    let still : is_announced p past ≡ false = sym (announced-own p past) ∙ ap (λ (k : List Entry). is_announced p k) same ∙ announced-own p met ∙ out in
    (still, λ l. rw still at l.0.1)
