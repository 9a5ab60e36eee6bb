use Rattle.std.proofs.Common.{slice_index_or, ap, length, ◌≡◌, refl, ℕ, ◌≤◌, [], ◌∷◌, sym, subst, ⊎_elim, arith, Contains, true≢false}
use Rattle.std.proofs.lemmas.Bool.{cases_eq}
use Rattle.plcr_machine.specs.declared.entry.Entry.TheVariants.{Load, Count}
use Rattle.plcr_machine.specs.Lists.{load_number, list_after}
use Rattle.plcr_machine.specs.Examples.{image_a, image_b, image_c, entered, looked, worked, overlapped}
use Rattle.plcr_machine.specs.Histories.{IsLegal}
use Rattle.plcr_machine.specs.Changes.{TakesFirst}
use Rattle.plcr_machine.specs.Walks.{IsWholeWalk}
use Rattle.plcr_machine.proofs.Loaded.{list_after_rises}
use Rattle.plcr_machine.proofs.Lawful.{whole_walk_lawful}
use Rattle.plcr_machine.proofs.Reach.{legal_kept}
use Rattle.plcr_machine.proofs.laws.worked_examples.Goals as goal

entered_legal : IsLegal 3 1 entered
entered_legal =
    ((refl, refl), ((omega arith, refl, omega arith), (omega arith, ((omega arith, omega arith, refl, refl), (omega arith, ((omega arith, omega arith, refl, refl), tt))))))

looked_legal : IsLegal 3 1 looked
looked_legal =
    ((omega arith, refl), (omega arith, ((omega arith, omega arith, refl, refl), (omega arith, (refl, (omega arith, (refl, entered_legal)))))))

worked_legal : IsLegal 3 1 worked
worked_legal =
    (omega arith, ((omega arith, omega arith, refl, refl), ((omega arith, refl), ((refl, refl), (refl, looked_legal)))))

overlap_legal : IsLegal 2 2 (Count ∷ Load 1 3 48 ∷ overlapped)
overlap_legal = (
  omega arith,
  (
    (omega arith, omega arith, refl, refl),
    (
      (omega arith, refl),
      (
        (omega arith, refl),
        (
          omega arith,
          (
            (omega arith, omega arith, refl, refl),
            (
              (refl, refl),
              (
                refl,
                (
                  (refl, refl),
                  (
                    (omega arith, refl, omega arith),
                    (omega arith, (refl, ((refl, refl), ((omega arith, refl, omega arith), (omega arith, ((omega arith, omega arith, refl, refl), tt)))))),
                  ),
                ),
              ),
            ),
          ),
        ),
      ),
    ),
  ),
)

pub returns-clause-history : goal.returns-clause-history
returns-clause-history c = record {
  legal = worked_legal;
  history = record { few_nodes = omega arith; few_passes = omega arith; legal = worked_legal; named = refl };
  kept = legal_kept 3 1 worked worked_legal;
  paced = (refl, (refl, (refl, (refl, (refl, (refl, (refl, (refl, (refl, (refl, (refl, (refl, tt))))))))))));
  numbers = (refl, refl, refl);
  list = refl;
  lists = (refl, refl, refl, refl, refl, refl, refl);
  parts = (refl, refl);
  changed = refl;
  names = (refl, refl, refl);
}

pub returns-clause-nodes : goal.returns-clause-nodes
returns-clause-nodes c = record {
  inside = (refl, refl, refl);
  stamps = (refl, refl, refl, refl, refl, refl, refl);
  listed = (refl, refl, refl);
  new = (refl, refl);
  removed = (refl, refl, refl, refl, refl, refl);
  lets = (refl, refl, refl);
  held = (refl, refl, refl, refl);
  freed = (refl, refl, refl, refl, refl, refl, refl);
  overlap = overlap_legal;
  beside = (refl, refl, refl);
  reach = (refl, refl, refl, refl);
  loaded_last = (refl, refl);
}

pub returns-clause-links : goal.returns-clause-links
returns-clause-links c = record {
  after = (refl, refl, refl, refl, refl);
  links = (refl, refl, refl, refl);
  images = (refl, refl);
}

walked : IsWholeWalk load_number (list_after looked) 2 5 (image_a ∷ image_b ∷ [])
walked = record { meets = (2, omega arith, refl, (5, omega arith, refl, omega arith)); ends = refl }

stayed : IsWholeWalk load_number (list_after entered) 2 2 (image_a ∷ image_b ∷ [])
stayed = record { meets = (2, omega arith, refl, (2, omega arith, refl, omega arith)); ends = refl }

pub returns-clause-walk : goal.returns-clause-walk
returns-clause-walk c = record {
  listed = (refl, refl);
  next = (refl, refl);
  last_had = (refl, refl);
  follow = (refl, refl, refl);
  walk = walked;
  lawful = whole_walk_lawful load_number (list_after looked) (list_after_rises 3 1 looked looked_legal) 2 5 (image_a ∷ image_b ∷ []) walked;
  still = whole_walk_lawful load_number (list_after entered) (list_after_rises 3 1 entered entered_legal) 2 2 (image_a ∷ image_b ∷ []) stayed;
}

there_all_along : (j : ℕ) → 1 ≤ j → j ≤ 2 → Contains (list_after entered j) image_a
there_all_along j low high =
    ⊎_elim (λ (e : j ≡ 1). subst (λ k. Contains (list_after entered k) image_a) (sym e) (0, omega arith, refl))
    (λ (n : j ≡ 1 → ⊥). let e : 2 ≡ j = omega arith in subst (λ k. Contains (list_after entered k) image_a) e (0, omega arith, refl)) (cases_eq j 1)

gone_by_then : (j : ℕ) → 4 ≤ j → j ≤ 5 → Contains (list_after looked j) image_a → ⊥
gone_by_then j low high has =
    ⊎_elim (λ (e : j ≡ 4). let none : Contains (list_after looked 4) image_a = subst (λ k. Contains (list_after looked k) image_a) e has in absurd (omega (arith, none.1)))
    (λ (n : j ≡ 4 → ⊥). let e : j ≡ 5 = omega arith in
    let one : Contains (list_after looked 5) image_a = subst (λ k. Contains (list_after looked k) image_a) e has in
    let first : one.0 ≡ 0 = omega (arith, one.1) in
    let same : image_c ≡ image_a = subst (λ k. slice_index_or (image_c ∷ []) k image_a ≡ image_a) first one.2 in
    let numbers : 3 ≡ 1 = ap load_number same in absurd (omega arith)) (cases_eq j 4)

pub returns-clause-refused : goal.returns-clause-refused
returns-clause-refused c = record {
  twice = λ l. true≢false (sym l.0.2);
  early = λ l. true≢false (sym l.0.2);
  unkept = λ k. true≢false (k.0 0);
  before_unload = λ l. true≢false (sym l.0.2);
  false_look = λ l. let one : 1 ≡ 0 = l.0.1 in absurd (omega arith);
  unannounced = λ l. true≢false (sym l.0.0);
  ahead = λ l. absurd (omega (arith, l.0.2));
  retired_inside = λ l. true≢false l.0.1;
  unnamed = λ h. absurd (omega (arith, h.named));
  too_wide = λ h. absurd (omega (arith, h.few_nodes));
  unpaced = λ t. true≢false t.0;
  again = λ w. absurd (omega (arith, w.rises.1.1.0));
  empty = λ w. absurd (omega (arith, (w.complete image_a there_all_along).1));
  short = λ w. let lengths : 1 ≡ 2 = ap length (w.same refl) in absurd (omega arith);
  gone = λ w. let was = w.listed image_a (0, omega arith, refl) in gone_by_then was.0 was.1 was.2 was.3;
}

worked_first : TakesFirst worked
worked_first = (refl, (refl, tt))

pub returns-clause-changes : goal.returns-clause-changes
returns-clause-changes c = record {
  changes = refl;
  named = (refl, refl);
  first = (worked_first, (refl, tt), λ t. let one : 1 ≡ 2 = t.0 in absurd (omega arith));
  nodes = (refl, refl, refl, refl);
  without = (refl, refl);
  prefix = (refl, refl);
  lists = (refl, refl, refl, refl, refl);
  follow = (refl, refl, refl);
  numbers = (refl, refl, refl, refl, refl, refl);
  makers = refl;
}

pub returns-clause-events : goal.returns-clause-events
returns-clause-events c = record {
  events = refl;
  changes = refl;
  noted = refl;
  held = (refl, refl, refl, refl, refl);
  looks = (refl, refl);
  may = record { are = refl; legal = record { few_nodes = omega arith; few_passes = omega arith; legal = worked_legal; named = refl }; first = worked_first };
}
