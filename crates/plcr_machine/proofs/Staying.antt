-- What a walk stays worth as the history goes on and between wider windows.
use Rattle.std.proofs.Common.{◌≡◌, ℕ, suc, ◌≤◌, List, [], ◌∷◌, ◌++◌, length, false, eqb, Contains, refl, sym, ap, ◌∙◌, subst, arith, ne_eqb, length-append}
use Rattle.plcr_machine.specs.declared.image.Image.{Image}
use Rattle.plcr_machine.specs.declared.entry.Entry.{Entry}
use Rattle.plcr_machine.specs.declared.entry.Entry.TheVariants.{Announce, Enter, Leave, Retire, Load, Unload, Count, Look}
use Rattle.plcr_machine.specs.declared.change.Change.{Change}
use Rattle.plcr_machine.specs.declared.change.Change.TheVariants.{Loads, Unloads}
use Rattle.plcr_machine.specs.Changes.{header_at, changes_of}
use Rattle.plcr_machine.specs.Lists.{Grows, load_number, live, changes, loads, list_after, name_of}
use Rattle.plcr_machine.specs.Walks.{RisesAbove, last_met, Meets, IsWholeWalk, IsLawfulWalk}
use Rattle.plcr_machine.specs.Histories.{IsLegal, IsHistory}
use Rattle.plcr_machine.proofs.Growing.{follow-same, list_after-grows, meets-grows}
use Rattle.plcr_machine.proofs.Lawful.{met_rise, met_listed}
use Rattle.plcr_machine.proofs.Loaded.{list_after_rises}

pub whole_stays : (past h : List Entry) (a b : ℕ) (met : List Image) → Grows past h → b ≤ changes past
    → IsWholeWalk load_number (list_after past) a b met → IsWholeWalk load_number (list_after h) a b met
whole_stays past h a b met g le w = record {
  meets = meets-grows past h 0 a b met g le w.meets;
  ends = follow-same load_number (list_after h) (list_after past) (last_met load_number 0 met) b (λ k below. list_after-grows past h k g (omega arith)) ∙ w.ends;
}

pub lawful_stays : (past h : List Entry) (a b : ℕ) (met : List Image) → Grows past h → b ≤ changes past
    → IsLawfulWalk load_number (list_after past) a b met → IsLawfulWalk load_number (list_after h) a b met
lawful_stays past h a b met g le w =
    let lists : (j : ℕ) → j ≤ b → list_after h j ≡ list_after past j = λ j below. list_after-grows past h j g (omega arith) in
    record {
      rises = w.rises;
      listed = λ x c. let there = w.listed x c in (there.0, there.1, there.2, subst (λ (xs : List Image). Contains xs x) (sym (lists there.0 there.2)) there.3);
      complete = λ x all. w.complete x (λ j low high. subst (λ (xs : List Image). Contains xs x) (lists j high) (all j low high));
      same = λ e. w.same e ∙ sym (lists a (omega arith));
    }

pub lawful_wider : {A : Type 0} (number : A → ℕ) (lists : ℕ → List A) (a b c d : ℕ) (met : List A) → c ≤ a → a ≤ b → b ≤ d → IsLawfulWalk number lists a b met → IsLawfulWalk number lists c d met
lawful_wider number lists a b c d met before within after w = record {
  rises = w.rises;
  listed = λ x k. let there = w.listed x k in (there.0, omega (arith, there.1), omega (arith, there.2), there.3);
  complete = λ x all. w.complete x (λ j low high. all j (omega arith) (omega arith));
  same = λ e. let here : a ≡ c = omega arith in subst (λ j. met ≡ lists j) here (w.same (omega arith));
}

pub met_were_listed : (nodes passes : ℕ) (h : List Entry) (a b : ℕ) (met : List Image) → IsLegal nodes passes h → Meets load_number (list_after h) 0 a b met
    → RisesAbove load_number 0 met × ((x : Image) → Contains met x → (j : ℕ) × (a ≤ j) × (j ≤ b) × Contains (list_after h j) x)
met_were_listed nodes passes h a b met l m =
    let rising = list_after_rises nodes passes h l in
    (met_rise load_number (list_after h) rising a b met m, met_listed load_number (list_after h) rising a b met m)

-- the changes of a history know the names of its own loads alone
name_of-older : (load : ℕ) (more names : List (List ℕ)) → load ≤ length names → name_of load (more ++ names) ≡ name_of load names
name_of-older load [] names le = refl
name_of-older load (x ∷ more) names le =
    let long = length-append more names in
    let other : eqb load (suc (length (more ++ names))) ≡ false = ne_eqb load (suc (length (more ++ names))) (λ e. omega arith) in
    rw other (name_of-older load more names le)

changes_of-older : (nodes passes : ℕ) (h : List Entry) (more names : List (List ℕ)) → IsLegal nodes passes h → loads h ≤ length names → changes_of (more ++ names) h ≡ changes_of names h
changes_of-older nodes passes [] more names l le = refl
changes_of-older nodes passes (Load n i a ∷ past) more names l le =
    let number : i ≡ suc (loads past) = l.0.3 in
    let here = name_of-older i more names (omega arith) in
    let rest = changes_of-older nodes passes past more names l.1 (omega arith) in
    rw (here, rest) refl
changes_of-older nodes passes (Unload n ∷ past) more names l le = ap (λ (cs : List Change). Unloads (header_at n (live past)) ∷ cs) (changes_of-older nodes passes past more names l.1 le)
changes_of-older nodes passes (Announce p seen ∷ past) more names l le = changes_of-older nodes passes past more names l.1 le
changes_of-older nodes passes (Enter p ∷ past) more names l le = changes_of-older nodes passes past more names l.1 le
changes_of-older nodes passes (Leave p ∷ past) more names l le = changes_of-older nodes passes past more names l.1 le
changes_of-older nodes passes (Retire p ∷ past) more names l le = changes_of-older nodes passes past more names l.1 le
changes_of-older nodes passes (Count ∷ past) more names l le = changes_of-older nodes passes past more names l.1 le
changes_of-older nodes passes (Look p stamp ∷ past) more names l le = changes_of-older nodes passes past more names l.1 le

changes_of-added : (names : List (List ℕ)) (added past : List Entry) → (more : List Change) × (changes_of names (added ++ past) ≡ more ++ changes_of names past)
changes_of-added names [] past = ([], refl)
changes_of-added names (Load n i a ∷ added) past =
    let rest = changes_of-added names added past in
    let c : Change = Loads (record { load = i; header = a; name = name_of i names }) in (c ∷ rest.0, ap (λ (cs : List Change). c ∷ cs) rest.1)
changes_of-added names (Unload n ∷ added) past =
    let rest = changes_of-added names added past in
    let c : Change = Unloads (header_at n (live (added ++ past))) in (c ∷ rest.0, ap (λ (cs : List Change). c ∷ cs) rest.1)
changes_of-added names (Announce p seen ∷ added) past = changes_of-added names added past
changes_of-added names (Enter p ∷ added) past = changes_of-added names added past
changes_of-added names (Leave p ∷ added) past = changes_of-added names added past
changes_of-added names (Retire p ∷ added) past = changes_of-added names added past
changes_of-added names (Count ∷ added) past = changes_of-added names added past
changes_of-added names (Look p stamp ∷ added) past = changes_of-added names added past

-- as a history goes on, the changes that it had stay
pub changes_stay : (nodes passes : ℕ) (past h : List Entry) (names more : List (List ℕ)) → IsHistory nodes passes past names → Grows past h
    → (added : List Change) × (changes_of (more ++ names) h ≡ added ++ changes_of names past)
changes_stay nodes passes past h names more k g =
    let grown = changes_of-added (more ++ names) g.0 past in
    let named = k.named in
    let older = changes_of-older nodes passes past more names k.legal (omega arith) in
    (grown.0, ap (changes_of (more ++ names)) g.1 ∙ grown.1 ∙ ap (λ (cs : List Change). grown.0 ++ cs) older)
