-- Walks go with any map of the images that keeps their numbers.
use Rattle.std.proofs.Common.{◌≡◌, ℕ, zero, suc, ◌<◌, ◌≤◌, List, [], ◌∷◌, map, Contains, eqb, refl, sym, ap, ◌∙◌, subst}
use Rattle.std.specs.Option.{option_map}
use Rattle.plcr_machine.specs.declared.image.Image.{Image}
use Rattle.plcr_machine.specs.declared.entry.Entry.{Entry}
use Rattle.plcr_machine.specs.declared.change.Named.{Named}
use Rattle.plcr_machine.specs.Lists.{load_number, list_after}
use Rattle.plcr_machine.specs.Walks.{RisesAbove, is_listed, first_of_list, next_in, last_with, follow, last_met, Meets, IsWholeWalk, IsLawfulWalk}
use Rattle.plcr_machine.specs.Histories.{IsLegal}
use Rattle.plcr_machine.specs.Changes.{load_of, named, all_named, TakesFirst, changes_of, list_after_changes}
use Rattle.plcr_machine.proofs.Cases.{by_cases}
use Rattle.plcr_machine.proofs.Lawful.{whole_walk_lawful, met_rise, met_listed}
use Rattle.plcr_machine.proofs.Loaded.{list_after_rises}
use Rattle.plcr_machine.proofs.ListsMade.{lists_after}

module _ {A B : Type 0} (number : A → ℕ) (other : B → ℕ) (f : A → B) (same : (x : A) → other (f x) ≡ number x) where
  listed-map : (i : ℕ) (xs : List A) → is_listed other i (map f xs) ≡ is_listed number i xs
  listed-map i [] = refl
  listed-map i (x ∷ xs) = rw (same x, listed-map i xs) refl

  first-map : (xs : List A) → first_of_list other (map f xs) ≡ option_map f (first_of_list number xs)
  first-map [] = refl
  first-map (x ∷ xs) = refl

  next-map : (i : ℕ) (xs : List A) → next_in other i (map f xs) ≡ option_map f (next_in number i xs)
  next-map i [] = refl
  next-map i (x ∷ xs) = by_cases (eqb (number x) i) (λ e. rw (same x, e) (first-map xs)) (λ e. rw (same x, e) (next-map i xs))

  rises-map : (b : ℕ) (xs : List A) → RisesAbove number b xs → RisesAbove other b (map f xs)
  rises-map b [] r = tt
  rises-map b (x ∷ xs) r =
      (subst (λ n. b < n) (sym (same x)) r.0, subst (λ n. RisesAbove other n (map f xs)) (sym (same x)) (rises-map (number x) xs r.1))

  last_met-map : (i : ℕ) (met : List A) → last_met other i (map f met) ≡ last_met number i met
  last_met-map i [] = refl
  last_met-map i (x ∷ met) = ap (λ n. last_met other n (map f met)) (same x) ∙ last_met-map (number x) met

  module _ (lists : ℕ → List A) (others : ℕ → List B) (mapped : (j : ℕ) → others j ≡ map f (lists j)) where
    last_with-map : (i j : ℕ) → last_with other others i j ≡ last_with number lists i j
    last_with-map i zero = refl
    last_with-map i (suc j) =
        let here : is_listed other i (others (suc j)) ≡ is_listed number i (lists (suc j)) = ap (λ (xs : List B). is_listed other i xs) (mapped (suc j)) ∙ listed-map i (lists (suc j)) in
        rw (here, last_with-map i j) refl

    pub follow-map : (i j : ℕ) → follow other others i j ≡ option_map f (follow number lists i j)
    follow-map zero j = ap (λ (xs : List B). first_of_list other xs) (mapped j) ∙ first-map (lists j)
    follow-map (suc i) j =
        let at : ℕ = last_with number lists (suc i) j in
        ap (λ k. next_in other (suc i) (others k)) (last_with-map (suc i) j)
        ∙ ap (λ (xs : List B). next_in other (suc i) xs) (mapped (last_with number lists (suc i) j)) ∙ next-map (suc i) (lists (last_with number lists (suc i) j))

    pub meets-map : (i a b : ℕ) (met : List A) → Meets number lists i a b met → Meets other others i a b (map f met)
    meets-map i a b [] m = m
    meets-map i a b (x ∷ met) m =
        (m.0, m.1, follow-map i m.0 ∙ ap (option_map f) m.2, subst (λ n. Meets other others n m.0 b (map f met)) (sym (same x)) (meets-map (number x) m.0 b met m.3))

    pub whole-map : (a b : ℕ) (met : List A) → IsWholeWalk number lists a b met → IsWholeWalk other others a b (map f met)
    whole-map a b met w = record {
      meets = meets-map 0 a b met w.meets;
      ends = ap (λ n. follow other others n b) (last_met-map 0 met) ∙ follow-map (last_met number 0 met) b ∙ ap (option_map f) w.ends;
    }

    pub rising-map : ((j : ℕ) → RisesAbove number 0 (lists j)) → (j : ℕ) → RisesAbove other 0 (others j)
    rising-map rising j = subst (λ (xs : List B). RisesAbove other 0 xs) (sym (mapped j)) (rises-map 0 (lists j) (rising j))

module _ (nodes passes : ℕ) (names : List (List ℕ)) (h : List Entry) (l : IsLegal nodes passes h) (f : TakesFirst h) where
  pub follow_named : (i j : ℕ) → follow load_of (list_after_changes (changes_of names h)) i j ≡ option_map (named names) (follow load_number (list_after h) i j)
  follow_named =
      follow-map load_number load_of (named names) (λ x. refl) (list_after h) (list_after_changes (changes_of names h)) (λ j. lists_after nodes passes names h j l f)

  pub whole_named : (a b : ℕ) (met : List Image) → IsWholeWalk load_number (list_after h) a b met
      → IsWholeWalk load_of (list_after_changes (changes_of names h)) a b (all_named names met) × IsLawfulWalk load_of (list_after_changes (changes_of names h)) a b (all_named names met)
  whole_named a b met w =
      let whole =
      whole-map load_number load_of (named names) (λ x. refl) (list_after h) (list_after_changes (changes_of names h)) (λ j. lists_after nodes passes names h j l f) a b met w in
      let rising =
      rising-map load_number load_of (named names) (λ x. refl) (list_after h) (list_after_changes (changes_of names h)) (λ j. lists_after nodes passes names h j l f)
      (list_after_rises nodes passes h l) in
      (whole, whole_walk_lawful load_of (list_after_changes (changes_of names h)) rising a b (all_named names met) whole)

  pub met_named : (a b : ℕ) (met : List Image) → Meets load_number (list_after h) 0 a b met
      → Meets load_of (list_after_changes (changes_of names h)) 0 a b (all_named names met) × RisesAbove load_of 0 (all_named names met)
      × ((x : Named) → Contains (all_named names met) x → (j : ℕ) × (a ≤ j) × (j ≤ b) × Contains (list_after_changes (changes_of names h) j) x)
  met_named a b met m =
      let lists : ℕ → List Named = list_after_changes (changes_of names h) in
      let meets = meets-map load_number load_of (named names) (λ x. refl) (list_after h) lists (λ j. lists_after nodes passes names h j l f) 0 a b met m in
      let rising = rising-map load_number load_of (named names) (λ x. refl) (list_after h) lists (λ j. lists_after nodes passes names h j l f) (list_after_rises nodes passes h l) in
      (meets, met_rise load_of lists rising a b (all_named names met) meets, met_listed load_of lists rising a b (all_named names met) meets)
