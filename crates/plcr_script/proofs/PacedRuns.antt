-- In each state of a run all changes are counted, but for one that has come and is open still.
use Rattle.std.proofs.Common.{◌≡◌, ℕ, zero, suc, ◌+◌, ◌<◌, ◌≤◌, Bool, true, false, List, ◌∷◌, Option, Some, None, eqb, ltb, length, refl, ◌∙◌, subst, arith, lt-ltb, ltb-true, ltb-false, add-zero, add-suc}
use Rattle.std.specs.Prelude.{◌==◌, if◌then◌else◌}
use Rattle.plcr_machine.specs.declared.entry.Entry.TheVariants.{Count}
use Rattle.plcr_machine.specs.Passes.{counts}
use Rattle.plcr_machine.specs.Holds.{before_enter}
use Rattle.plcr_machine.specs.Events.{Event, Changed, Noted, changes_in, noted_in, looks}
use Rattle.plcr_machine.proofs.Cases.{by_cases, at_or_else, eqb_same}
use Rattle.plcr_script.specs.RunChanges.{Plan}
use Rattle.plcr_script.specs.RunStates.{Opened, steps_in, steps_left, stepped, steps, is_full, searched, walk, State, first_state, entered, walked, left, high_of}
use Rattle.plcr_script.specs.RunLaws.{changes_before}
use Rattle.plcr_script.proofs.Turning.{with_open, after_steps, after_all, looked, MayCome, searched_changes}
use Rattle.plcr_script.proofs.SoundRuns.{steps_starts, searched_starts}

-- of a change of which so many steps were made, its own step is made and not counted
abbrev pub uncounted : Plan → ℕ → ℕ
uncounted plan made = if made == suc plan.before then 1 else 0

abbrev pub HasPace : ℕ → List Event → Type 0
HasPace more events = length (changes_in events) ≡ counts (noted_in events) + more

-- two numbers, by which of them is less
three_ways : {P : Type 0} (a b : ℕ) → (a < b → P) → (a ≡ b → P) → (b < a → P) → P
three_ways a b less same more = by_cases (ltb a b) (λ t. less (ltb-true a b t)) (λ f. by_cases (ltb b a) (λ t. more (ltb-true b a t)) (λ g. same (omega (arith, ltb-false a b f, ltb-false b a g))))

below_ne : (a b : ℕ) → a < b → eqb a b ≡ false
below_ne a b lt = at_or_else a b (λ e. absurd (omega (arith, lt, e))) (λ e. e)

above_ne : (a b : ℕ) → b < a → eqb a b ≡ false
above_ne a b lt = at_or_else a b (λ e. absurd (omega (arith, lt, e))) (λ e. e)

not_below : (a b : ℕ) → b ≤ a → ltb a b ≡ false
not_below a b le = by_cases (ltb a b) (λ t. absurd (omega (arith, le, ltb-true a b t))) (λ f. f)

-- one step more
step_paced : (plan : Plan) (made : ℕ) (events : List Event) → made < steps_in plan → HasPace (uncounted plan made) events → HasPace (uncounted plan (suc made)) (stepped plan made events)
step_paced plan made events few h = three_ways made plan.before before at past
  where
    before : made < plan.before → HasPace (uncounted plan (suc made)) (stepped plan made events)
    before lt =
        let none : length (changes_in events) ≡ counts (noted_in events) + 0 = rw (below_ne made (suc plan.before) (omega (arith, lt))) at h in
        rw (below_ne made plan.before lt, not_below plan.before made (omega (arith, lt)), below_ne (suc made) (suc plan.before) (omega (arith, lt))) none

    at : made ≡ plan.before → HasPace (uncounted plan (suc made)) (stepped plan made events)
    at same =
        let none : length (changes_in events) ≡ counts (noted_in events) + 0 = rw (below_ne made (suc plan.before) (omega (arith, same))) at h in
        rw (same, eqb_same plan.before, eqb_same (suc plan.before)) (omega (arith, none))

    past : plan.before < made → HasPace (uncounted plan (suc made)) (stepped plan made events)
    past lt =
        let next : made ≡ suc plan.before = omega (arith, lt, few) in
        let one : length (changes_in events) ≡ counts (noted_in events) + 1 = rw (next, eqb_same (suc plan.before)) at h in
        rw (above_ne made plan.before lt, lt-ltb plan.before made lt, above_ne (suc made) (suc plan.before) (omega (arith, lt))) (omega (arith, one))

steps_paced : (o : Opened) (n : ℕ) (events : List Event) → o.made + n ≤ steps_in o.plan → HasPace (uncounted o.plan o.made) events → HasPace (uncounted o.plan (o.made + n)) (steps o n events)
steps_paced o zero events few h = rw (add-zero o.made) h
steps_paced o (suc n) events few h = rw (add-suc o.made n) (step_paced o.plan (o.made + n) (steps o n events) (omega (arith, few)) (steps_paced o n events (omega (arith, few)) h))

-- no pass goes in by steps and looks
steps_noted : (p : ℕ) (o : Opened) (n : ℕ) (events : List Event) → counts (before_enter p (noted_in (steps o n events))) ≡ counts (before_enter p (noted_in events))
steps_noted p o zero events = refl
steps_noted p o (suc n) events = of (eqb (o.made + n) o.plan.before) (ltb o.plan.before (o.made + n)) ∙ steps_noted p o n events
  where
    of : (at past : Bool) → counts (before_enter p (noted_in (if at then Changed o.plan.change ∷ steps o n events else if past then Noted Count ∷ steps o n events else steps o n events))) ≡ counts (before_enter p (noted_in (steps o n events)))
    of true past = refl
    of false true = refl
    of false false = refl

-- the state of the open change, and of the windows of all passes
abbrev pub OpenPaced : Option Opened → List Event → Type 0
OpenPaced None events = HasPace 0 events
OpenPaced (Some o) events = (o.made < steps_in o.plan) × HasPace (uncounted o.plan o.made) events

abbrev pub IsWindow : ℕ → List Event → Type 0
IsWindow p events = (counts (before_enter p (noted_in events)) ≤ changes_before p events) × (changes_before p events ≤ suc (counts (before_enter p (noted_in events))))

pub record Paced (s : State) : Type 0 where
  pub opened : OpenPaced s.opened s.events
  pub windows : (p : ℕ) → IsWindow p s.events

-- so there is at most one change more than counts
pub paced_now : (s : State) → Paced s → (high_of s ≤ length (changes_in s.events)) × (length (changes_in s.events) ≤ suc (high_of s))
paced_now s h = of s.opened h.opened
  where
    one : (plan : Plan) (made : ℕ) → uncounted plan made ≤ 1
    one plan made = bit (eqb made (suc plan.before))
      where
        bit : (b : Bool) → (if b then 1 else 0) ≤ 1
        bit true = omega arith
        bit false = omega arith

    of : (o : Option Opened) → OpenPaced o s.events → (high_of s ≤ length (changes_in s.events)) × (length (changes_in s.events) ≤ suc (high_of s))
    of None e = (omega (arith, e), omega (arith, e))
    of (Some o) e = (omega (arith, e.1), omega (arith, e.1, one o.plan o.made))

same_windows : (old new : List Event) → ((p : ℕ) → counts (before_enter p (noted_in new)) ≡ counts (before_enter p (noted_in old))) → ((p : ℕ) → changes_before p new ≡ changes_before p old) → ((p : ℕ) → IsWindow p old) → (p : ℕ) → IsWindow p new
same_windows old new lows starts windows p = rw (lows p, starts p) (windows p)

looks_noted : (passes : ℕ) (events : List Event) → (counts (noted_in (looks passes events)) ≡ counts (noted_in events)) × ((p : ℕ) → counts (before_enter p (noted_in (looks passes events))) ≡ counts (before_enter p (noted_in events)))
looks_noted zero events = (refl, λ p. refl)
looks_noted (suc passes) events = looks_noted passes events

searched_noted : (nodes passes : ℕ) (events : List Event) → (counts (noted_in (searched nodes passes events)) ≡ counts (noted_in events)) × ((p : ℕ) → counts (before_enter p (noted_in (searched nodes passes events))) ≡ counts (before_enter p (noted_in events)))
searched_noted nodes passes events = of (is_full nodes passes events)
  where
    of : (b : Bool) → (counts (noted_in (if b then looks passes events else events)) ≡ counts (noted_in events)) × ((p : ℕ) → counts (before_enter p (noted_in (if b then looks passes events else events))) ≡ counts (before_enter p (noted_in events)))
    of true = looks_noted passes events
    of false = (refl, λ p. refl)

same_open : (opened : Option Opened) (old new : List Event) → changes_in new ≡ changes_in old → counts (noted_in new) ≡ counts (noted_in old) → OpenPaced opened old → OpenPaced opened new
same_open None old new changes counted h = rw (changes, counted) h
same_open (Some o) old new changes counted h = (h.0, rw (changes, counted) h.1)

pub looks_paced : (nodes passes : ℕ) (s : State) → Paced s → Paced (looked nodes passes s)
looks_paced nodes passes s h =
    let noted = searched_noted nodes passes s.events in
    record {
      opened = same_open s.opened s.events (searched nodes passes s.events) (searched_changes nodes passes s.events) noted.0 h.opened;
      windows = same_windows s.events (searched nodes passes s.events) noted.1 (searched_starts nodes passes s.events) h.windows;
    }

pub opening_paced : (s : State) (plan : Plan) → Paced s → s.opened ≡ None → MayCome plan s → Paced (with_open plan s)
opening_paced s plan h none may =
    let rest : HasPace 0 s.events = rw none at h.opened in
    record { opened = (omega arith, rw (below_ne 0 (suc plan.before) (omega arith)) rest); windows = h.windows }

pub steps_keep_pace : (s : State) (o : Opened) (more : ℕ) → Paced s → s.opened ≡ Some o → more < steps_left o → Paced (after_steps more o s)
steps_keep_pace s o more h is few =
    let now : OpenPaced (Some o) s.events = rw is at h.opened in
    record {
      opened = (omega (arith, few), steps_paced o more s.events (omega (arith, few)) now.1);
      windows = same_windows s.events (steps o more s.events) (λ p. steps_noted p o more s.events) (steps_starts o more s.events) h.windows;
    }

pub end_paced : (s : State) (o : Opened) → Paced s → s.opened ≡ Some o → Paced (after_all o s)
end_paced s o h is =
    let now : OpenPaced (Some o) s.events = rw is at h.opened in
    let all : o.made + steps_left o ≡ steps_in o.plan = omega (arith, now.0) in
    let there : HasPace (uncounted o.plan (steps_in o.plan)) (steps o (steps_left o) s.events) = subst (λ (m : ℕ). HasPace (uncounted o.plan m) (steps o (steps_left o) s.events)) all (steps_paced o (steps_left o) s.events (omega (arith, all)) now.1) in
    record {
      opened = rw (above_ne (steps_in o.plan) (suc o.plan.before) (omega arith)) at there;
      windows = same_windows s.events (steps o (steps_left o) s.events) (λ p. steps_noted p o (steps_left o) s.events) (steps_starts o (steps_left o) s.events) h.windows;
    }

pub enter_paced : (s : State) (q : ℕ) → Paced s → Paced (entered q s)
enter_paced s q h = record {
  opened = same_open s.opened s.events (entered q s).events refl refl h.opened;
  windows = λ p. at_or_else q p
      (λ same. rw (same, eqb_same p) (paced_now s h))
      (λ other. rw other (h.windows p));
}

pub walk_paced : (s : State) (p most : ℕ) → Paced s → Paced (walked p (walk most (changes_in s.events) (s.places p)) s)
walk_paced s p most h = record { opened = h.opened; windows = h.windows }

pub leave_paced : (s : State) (q : ℕ) → Paced s → Paced (left q s)
leave_paced s q h = record { opened = same_open s.opened s.events (left q s).events refl refl h.opened; windows = h.windows }

pub first_paced : Paced first_state
first_paced = record { opened = refl; windows = λ p. (omega arith, omega arith) }
