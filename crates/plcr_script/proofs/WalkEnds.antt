-- Walks of a run, which go on and come to their ends.
use Rattle.std.proofs.Common.{◌≡◌, ℕ, zero, suc, ◌+◌, ◌-◌, ◌≤◌, true, false, List, [], ◌∷◌, ◌++◌, Option, Some, None, length, refl, sym, ap, ◌∙◌, arith, le_refl, zero-add, suc-add, length-append}
use Rattle.plcr_machine.specs.declared.change.Named.{Named}
use Rattle.plcr_machine.specs.declared.change.Change.{Change}
use Rattle.plcr_machine.specs.Walks.{follow, last_met, Meets, IsWholeWalk}
use Rattle.plcr_machine.specs.Changes.{load_of, list_after_changes}
use Rattle.plcr_machine.proofs.Growing.{follow-same, meets-same, meets_until, meets-snoc, last_met-snoc}
use Rattle.plcr_machine.proofs.Lawful.{whole_walk_lawful}
use Rattle.plcr_script.specs.RunChanges.{loads_in}
use Rattle.plcr_script.specs.RunStates.{Place, Out, In, met_in, is_in, has_ended, met_next, next, walk, walk_to_end}
use Rattle.plcr_script.specs.RunLaws.{WasWalked}
use Rattle.plcr_script.proofs.NumberedChanges.{AreNumbered, lists_rise_above, follow_between, lists_stay}

-- the next image may be asked for first, or last
walk_first : (n : ℕ) (changes : List Change) (place : Place) → walk (suc n) changes place ≡ walk n changes (next changes place)
walk_first zero changes place = refl
walk_first (suc n) changes place = ap (next changes) (walk_first n changes place)

-- a walk that has ended stays
next_ended : (changes : List Change) (place : Place) → has_ended place ≡ true → next changes place ≡ place
next_ended changes Out e = absurd cc
next_ended changes (In met true) e = refl
next_ended changes (In met false) e = absurd cc

pub walk_ended : (n : ℕ) (changes : List Change) (place : Place) → has_ended place ≡ true → walk n changes place ≡ place
walk_ended zero changes place e = refl
walk_ended (suc n) changes place e = ap (next changes) (walk_ended n changes place e) ∙ next_ended changes place e

pub walk_more : (n more : ℕ) (changes : List Change) (place : Place) → walk (more + n) changes place ≡ walk more changes (walk n changes place)
walk_more n zero changes place = rw (zero-add n) refl
walk_more n (suc more) changes place = rw (suc-add more n) (ap (next changes) (walk_more n more changes place))

pub ended_walk_stays : (changes : List Change) (place : Place) (fewer more : ℕ) → fewer ≤ more → has_ended (walk fewer changes place) ≡ true → walk more changes place ≡ walk fewer changes place
ended_walk_stays changes place fewer more le e =
    let parts : more ≡ (more - fewer) + fewer = omega (arith, le) in
    ap (λ (k : ℕ). walk k changes place) parts ∙ walk_more fewer (more - fewer) changes place ∙ walk_ended (more - fewer) changes (walk fewer changes place) e

-- the walk stays in
pub next_is_in : (changes : List Change) (place : Place) → is_in (next changes place) ≡ is_in place
next_is_in changes Out = refl
next_is_in changes (In met true) = refl
next_is_in changes (In met false) = of (follow load_of (list_after_changes changes) (last_met load_of 0 met) (length changes))
  where
    of : (found : Option Named) → is_in (met_next met found) ≡ true
    of None = refl
    of (Some x) = refl

pub walk_is_in : (n : ℕ) (changes : List Change) (place : Place) → is_in (walk n changes place) ≡ is_in place
walk_is_in zero changes place = refl
walk_is_in (suc n) changes place = next_is_in changes (walk n changes place) ∙ walk_is_in n changes place

-- a walk comes to its end within as many images as there are loads past the one that it met last
comes_to_end : (n : ℕ) (changes : List Change) (met : List Named) → AreNumbered changes → loads_in changes ≤ n + last_met load_of 0 met → has_ended (walk (suc n) changes (In met false)) ≡ true
comes_to_end zero changes met numbered near = rw (walk_first 0 changes (In met false)) (of (follow load_of (list_after_changes changes) (last_met load_of 0 met) (length changes)) refl)
  where
    of : (o : Option Named) → follow load_of (list_after_changes changes) (last_met load_of 0 met) (length changes) ≡ o → has_ended (met_next met o) ≡ true
    of None e = refl
    of (Some x) e = let between = follow_between changes (last_met load_of 0 met) (length changes) x numbered e in absurd (omega (arith, near, between.0, between.1))
comes_to_end (suc n) changes met numbered near =
    rw (walk_first (suc n) changes (In met false))
    (of (λ x close. comes_to_end n changes (met ++ x ∷ []) numbered close) (follow load_of (list_after_changes changes) (last_met load_of 0 met) (length changes)) refl)
  where
    of : ((x : Named) → loads_in changes ≤ n + last_met load_of 0 (met ++ x ∷ []) → has_ended (walk (suc n) changes (In (met ++ x ∷ []) false)) ≡ true)
        → (o : Option Named) → follow load_of (list_after_changes changes) (last_met load_of 0 met) (length changes) ≡ o → has_ended (walk (suc n) changes (met_next met o)) ≡ true
    of goes None e = rw (walk_ended (suc n) changes (In met true) refl) refl
    of goes (Some x) e =
        let between = follow_between changes (last_met load_of 0 met) (length changes) x numbered e in
        goes x (rw (last_met-snoc load_of 0 met x) (omega (arith, near, between.0)))

pub walk_comes_to_end : (changes : List Change) (place : Place) → AreNumbered changes → is_in place ≡ true → has_ended (walk_to_end changes place) ≡ true
walk_comes_to_end changes Out numbered inside = absurd cc
walk_comes_to_end changes (In met true) numbered inside = rw (walk_ended (suc (loads_in changes)) changes (In met true) refl) refl
walk_comes_to_end changes (In met false) numbered inside = comes_to_end (loads_in changes) changes met numbered (omega arith)

-- the walk of a pass that went in after so many changes
abbrev pub WalkFits : List Change → ℕ → Place → Type 0
WalkFits changes start Out = Unit {0}
WalkFits changes start (In met ended) =
    Meets load_of (list_after_changes changes) 0 start (length changes) met
    × (ended ≡ true → (end : ℕ) × (end ≤ length changes) × IsWholeWalk load_of (list_after_changes changes) start end met)

pub next_fits : (changes : List Change) (start : ℕ) (place : Place) → WalkFits changes start place → WalkFits changes start (next changes place)
next_fits changes start Out fits = tt
next_fits changes start (In met true) fits = fits
next_fits changes start (In met false) fits = of (follow load_of (list_after_changes changes) (last_met load_of 0 met) (length changes)) refl
  where
    of : (found : Option Named) → follow load_of (list_after_changes changes) (last_met load_of 0 met) (length changes) ≡ found → WalkFits changes start (met_next met found)
    of None e = (fits.0, λ ended. (length changes, le_refl (length changes), record { meets = fits.0; ends = e }))
    of (Some x) e = (meets-snoc load_of (list_after_changes changes) 0 start (length changes) (length changes) met x (le_refl (length changes)) fits.0 e, λ ended. absurd cc)

pub walk_fits : (n : ℕ) (changes : List Change) (start : ℕ) (place : Place) → WalkFits changes start place → WalkFits changes start (walk n changes place)
walk_fits zero changes start place fits = fits
walk_fits (suc n) changes start place fits = next_fits changes start (walk n changes place) (walk_fits n changes start place fits)

-- more changes leave the walk that it was
pub more_fits : (added changes : List Change) (start : ℕ) (place : Place) → WalkFits changes start place → WalkFits (added ++ changes) start place
more_fits added changes start Out fits = tt
more_fits added changes start (In met ended) fits = (later (length changes) (le_refl (length changes)) fits.0, λ e. whole (fits.1 e))
  where
    old : ℕ → List Named
    old = list_after_changes changes

    new : ℕ → List Named
    new = list_after_changes (added ++ changes)

    same : (k : ℕ) → k ≤ length changes → old k ≡ new k
    same k le = sym (lists_stay added changes k le)

    later : (b : ℕ) → b ≤ length changes → Meets load_of old 0 start b met → Meets load_of new 0 start (length (added ++ changes)) met
    later b le m = meets_until load_of new 0 start b (length (added ++ changes)) met (omega (arith, le, length-append added changes)) (meets-same load_of old new 0 start b met (λ k below. same k (omega (arith, below, le))) m)

    whole : (end : ℕ) × (end ≤ length changes) × IsWholeWalk load_of old start end met → (end : ℕ) × (end ≤ length (added ++ changes)) × IsWholeWalk load_of new start end met
    whole w = (
      w.0,
      omega (arith, w.1, length-append added changes),
      record {
        meets = meets-same load_of old new 0 start w.0 met (λ k below. same k (omega (arith, below, w.1))) w.2.meets;
        ends = sym (follow-same load_of old new (last_met load_of 0 met) w.0 (λ k below. same k (omega (arith, below, w.1)))) ∙ w.2.ends;
      },
    )

-- a walk that has ended is lawful
pub was_walked : (changes : List Change) (start : ℕ) (place : Place) → AreNumbered changes → is_in place ≡ true → has_ended place ≡ true → WalkFits changes start place → WasWalked changes start (met_in place)
was_walked changes start Out numbered inside ended fits = absurd cc
was_walked changes start (In met e) numbered inside ended fits =
    let w = fits.1 ended in
    record { end = w.0; within = w.1; whole = w.2; lawful = whole_walk_lawful load_of (list_after_changes changes) (lists_rise_above changes numbered) start w.0 met w.2 }
