-- In each state of a run loads are numbered, and the walk of each pass that is in went image by image.
use Rattle.std.proofs.Common.{◌≡◌, ◌⊎◌, inl, inr, ⊎_elim, ℕ, zero, suc, ◌+◌, ◌<◌, ◌≤◌, Bool, true, false, List, [], ◌∷◌, ◌++◌, Option, Some, None, eqb, ltb, length, refl, sym, ap, ◌∙◌, arith, le_refl, lt-ltb, ltb-true, ltb-false}
use Rattle.std.specs.Prelude.{if◌then◌else◌}
use Rattle.plcr_machine.specs.declared.change.Change.{Change}
use Rattle.plcr_machine.specs.declared.entry.Entry.TheVariants.{Count}
use Rattle.plcr_machine.specs.Events.{Event, Changed, Noted, changes_in, looks}
use Rattle.plcr_machine.proofs.Cases.{by_cases, at_or_else, eqb_same}
use Rattle.plcr_script.specs.Scripts.{ScriptValue}
use Rattle.plcr_script.specs.Meanings.{Meanings}
use Rattle.plcr_script.specs.declared.statements.NumberedStatement.{NumberedStatement}
use Rattle.plcr_script.specs.RunChanges.{Plan, loads_in}
use Rattle.plcr_script.specs.RunStates.{Opened, steps_left, steps, is_full, searched, Place, Out, placed, is_in, has_ended, walk, walk_to_end, State, first_state, entered, entered_if_out, walked, left}
use Rattle.plcr_script.specs.RunTurns.{reported}
use Rattle.plcr_script.specs.RunLaws.{state_behind, changes_before, WasWalked}
use Rattle.plcr_script.proofs.NumberedChanges.{AreNumbered}
use Rattle.plcr_script.proofs.WalkEnds.{WalkFits, walk_fits, more_fits, walk_is_in, walk_comes_to_end, was_walked}
use Rattle.plcr_script.proofs.Turning.{with_open, after_steps, after_all, looked, MayCome, searched_changes, enter_if_keeps, statements_keep}

-- events that went on: changes may have come, but no pass went in
record Adds (old new : List Event) : Type 0 where
  added : List Change
  changes : changes_in new ≡ added ++ changes_in old
  starts : (pass : ℕ) → changes_before pass new ≡ changes_before pass old

-- so many steps haven't come to the change, or it had come before them
abbrev pub AddNothing : Opened → ℕ → List Event → Type 0
AddNothing o n events = (changes_in (steps o n events) ≡ changes_in events) × ((o.made + n ≤ o.plan.before) ⊎ (o.plan.before < o.made))

-- or the change is among them
abbrev pub AddChange : Opened → ℕ → List Event → Type 0
AddChange o n events = (changes_in (steps o n events) ≡ o.plan.change ∷ changes_in events) × (o.made ≤ o.plan.before) × (o.plan.before < o.made + n)

strictly : (a b : ℕ) → a ≤ b → eqb a b ≡ false → a < b
strictly a b le ne = by_cases (ltb a b) (λ t. ltb-true a b t) (λ f. let same : a ≡ b = omega (arith, le, ltb-false a b f) in absurd (let clash : true ≡ false = sym (eqb_same a) ∙ ap (eqb a) same ∙ ne in cc))

not_past : (a b : ℕ) → b < a → ltb a b ≡ false
not_past a b lt = by_cases (ltb a b) (λ t. absurd (omega (arith, lt, ltb-true a b t))) (λ f. f)

apart : (a b : ℕ) → b < a → eqb a b ≡ false
apart a b lt = at_or_else a b (λ same. absurd (omega (arith, lt, same))) (λ ne. ne)

-- one step more
one_step : (o : Opened) (n : ℕ) (events : List Event) → AddNothing o n events ⊎ AddChange o n events → AddNothing o (suc n) events ⊎ AddChange o (suc n) events
one_step o n events (inr came) = inr (rw (apart (o.made + n) o.plan.before came.2, lt-ltb o.plan.before (o.made + n) came.2) came.0, came.1, omega (arith, came.2))
one_step o n events (inl same) = of same.1
  where
    of : (o.made + n ≤ o.plan.before) ⊎ (o.plan.before < o.made) → AddNothing o (suc n) events ⊎ AddChange o (suc n) events
    of (inr past) = inl (rw (apart (o.made + n) o.plan.before (omega (arith, past)), lt-ltb o.plan.before (o.made + n) (omega (arith, past))) same.0, inr past)
    of (inl below) = at_or_else (o.made + n) o.plan.before
        (λ at. inr (rw (at, eqb_same o.plan.before) (ap (λ (cs : List Change). o.plan.change ∷ cs) same.0), omega (arith, at), omega (arith, at)))
        (λ other.
        let less : o.made + n < o.plan.before = strictly (o.made + n) o.plan.before below other in
        inl (rw (other, not_past o.plan.before (o.made + n) less) same.0, inl (omega (arith, less))))

-- the steps of a change add it where they pass it, and no other
pub step_changes : (o : Opened) (n : ℕ) (events : List Event) → AddNothing o n events ⊎ AddChange o n events
step_changes o zero events = by_cases (ltb o.plan.before o.made)
    (λ past. inl (refl, inr (ltb-true o.plan.before o.made past)))
    (λ before. inl (refl, inl (omega (arith, ltb-false o.plan.before o.made before))))
step_changes o (suc n) events = one_step o n events (step_changes o n events)

-- and no pass goes in by them
pub steps_starts : (o : Opened) (n : ℕ) (events : List Event) (pass : ℕ) → changes_before pass (steps o n events) ≡ changes_before pass events
steps_starts o zero events pass = refl
steps_starts o (suc n) events pass = of (eqb (o.made + n) o.plan.before) (ltb o.plan.before (o.made + n)) ∙ steps_starts o n events pass
  where
    of : (at past : Bool) → changes_before pass (if at then Changed o.plan.change ∷ steps o n events else if past then Noted Count ∷ steps o n events else steps o n events) ≡ changes_before pass (steps o n events)
    of true past = refl
    of false true = refl
    of false false = refl

steps_add : (o : Opened) (n : ℕ) (events : List Event) → Adds events (steps o n events)
steps_add o n events = of (step_changes o n events)
  where
    of : AddNothing o n events ⊎ AddChange o n events → Adds events (steps o n events)
    of (inl same) = record { added = []; changes = same.0; starts = steps_starts o n events }
    of (inr came) = record { added = o.plan.change ∷ []; changes = came.0; starts = steps_starts o n events }

looks_starts : (passes : ℕ) (events : List Event) (pass : ℕ) → changes_before pass (looks passes events) ≡ changes_before pass events
looks_starts zero events pass = refl
looks_starts (suc p) events pass = looks_starts p events pass

pub searched_starts : (nodes passes : ℕ) (events : List Event) (pass : ℕ) → changes_before pass (searched nodes passes events) ≡ changes_before pass events
searched_starts nodes passes events pass = of (is_full nodes passes events)
  where
    of : (b : Bool) → changes_before pass (if b then looks passes events else events) ≡ changes_before pass events
    of true = looks_starts passes events pass
    of false = refl

searched_add : (nodes passes : ℕ) (events : List Event) → Adds events (searched nodes passes events)
searched_add nodes passes events = record { added = []; changes = searched_changes nodes passes events; starts = searched_starts nodes passes events }

-- the change that is open may come next, as long as it has not come
abbrev pub OpenFits : List Change → Option Opened → Type 0
OpenFits changes None = Unit {0}
OpenFits changes (Some o) = o.made ≤ o.plan.before → AreNumbered (o.plan.change ∷ changes)

pub record Sound (s : State) : Type 0 where
  pub numbered : AreNumbered (changes_in s.events)
  pub opened : OpenFits (changes_in s.events) s.opened
  pub walks : (pass : ℕ) → WalkFits (changes_in s.events) (changes_before pass s.events) (s.places pass)

walks_add : (places : ℕ → Place) (old new : List Event) → Adds old new → ((pass : ℕ) → WalkFits (changes_in old) (changes_before pass old) (places pass)) → (pass : ℕ) → WalkFits (changes_in new) (changes_before pass new) (places pass)
walks_add places old new adds walks pass = rw (adds.changes, adds.starts pass) (more_fits adds.added (changes_in old) (changes_before pass old) (places pass) (walks pass))

pub looks_sound : (nodes passes : ℕ) (s : State) → Sound s → Sound (looked nodes passes s)
looks_sound nodes passes s h = record {
  numbered = rw (searched_changes nodes passes s.events) h.numbered;
  opened = rw (searched_changes nodes passes s.events) h.opened;
  walks = walks_add s.places s.events (searched nodes passes s.events) (searched_add nodes passes s.events) h.walks;
}

pub opening_sound : (s : State) (plan : Plan) → Sound s → s.opened ≡ None → MayCome plan s → Sound (with_open plan s)
opening_sound s plan h none may = record { numbered = h.numbered; opened = λ le. may h.numbered; walks = h.walks }

-- loads stay numbered as the open change goes on
numbered_on : (s : State) (o : Opened) (n : ℕ) → Sound s → s.opened ≡ Some o → AreNumbered (changes_in (steps o n s.events))
numbered_on s o n h is =
    let fits : OpenFits (changes_in s.events) (Some o) = rw is at h.opened in
    ⊎_elim (λ (same : AddNothing o n s.events). rw same.0 h.numbered) (λ (came : AddChange o n s.events). rw came.0 (fits came.1)) (step_changes o n s.events)

pub steps_sound : (s : State) (o : Opened) (more : ℕ) → Sound s → s.opened ≡ Some o → more < steps_left o → Sound (after_steps more o s)
steps_sound s o more h is few = record {
  numbered = numbered_on s o more h is;
  opened = λ below.
      let fits : OpenFits (changes_in s.events) (Some o) = rw is at h.opened in
      ⊎_elim (λ (same : AddNothing o more s.events). rw same.0 (fits (omega (arith, below)))) (λ (came : AddChange o more s.events). absurd (omega (arith, below, came.2))) (step_changes o more s.events);
  walks = walks_add s.places s.events (steps o more s.events) (steps_add o more s.events) h.walks;
}

pub end_sound : (s : State) (o : Opened) → Sound s → s.opened ≡ Some o → Sound (after_all o s)
end_sound s o h is = record {
  numbered = numbered_on s o (steps_left o) h is;
  opened = tt;
  walks = walks_add s.places s.events (steps o (steps_left o) s.events) (steps_add o (steps_left o) s.events) h.walks;
}

-- another place for one pass
walks_placed : (changes : List Change) (start : ℕ → ℕ) (places : ℕ → Place) (p : ℕ) (place : Place) → ((pass : ℕ) → WalkFits changes (start pass) (places pass)) → WalkFits changes (start p) place → (pass : ℕ) → WalkFits changes (start pass) (placed p place places pass)
walks_placed changes start places p place walks fits pass = at_or_else pass p
    (λ same. rw (same, eqb_same p) fits)
    (λ other. rw other (walks pass))

pub enter_sound : (s : State) (p : ℕ) → Sound s → Sound (entered p s)
enter_sound s p h = record {
  numbered = h.numbered;
  opened = h.opened;
  walks = λ pass. at_or_else pass p
      (λ same. rw (same, eqb_same p) (le_refl (length (changes_in s.events)), λ ended. absurd cc))
      (λ other. rw (other, other_way p pass other) (h.walks pass));
}
  where
    other_way : (a b : ℕ) → eqb b a ≡ false → eqb a b ≡ false
    other_way a b ne = at_or_else a b (λ same. absurd (let clash : true ≡ false = sym (eqb_same b) ∙ ap (eqb b) (sym same) ∙ ne in cc)) (λ e. e)

pub walk_sound : (s : State) (p most : ℕ) → Sound s → Sound (walked p (walk most (changes_in s.events) (s.places p)) s)
walk_sound s p most h = record {
  numbered = h.numbered;
  opened = h.opened;
  walks = walks_placed (changes_in s.events) (λ pass. changes_before pass s.events) s.places p (walk most (changes_in s.events) (s.places p)) h.walks (walk_fits most (changes_in s.events) (changes_before p s.events) (s.places p) (h.walks p));
}

pub leave_sound : (s : State) (p : ℕ) → Sound s → Sound (left p s)
leave_sound s p h = record {
  numbered = h.numbered;
  opened = h.opened;
  walks = walks_placed (changes_in s.events) (λ pass. changes_before pass s.events) s.places p Out h.walks tt;
}

pub first_sound : Sound first_state
first_sound = record { numbered = tt; opened = tt; walks = λ pass. tt }

-- each state of a run is sound
run_sound : (process : Meanings) (script : ScriptValue) (xs : List NumberedStatement) → Sound (state_behind process script xs)
run_sound process script xs =
    statements_keep process script.nodes script.passes Sound (looks_sound script.nodes script.passes) opening_sound steps_sound end_sound enter_sound walk_sound leave_sound xs first_state first_sound

-- walks come to their ends
pub run_walk_ends : (process : Meanings) (script : ScriptValue) (xs : List NumberedStatement) (place : Place) → is_in place ≡ true → has_ended (walk_to_end (changes_in (state_behind process script xs).events) place) ≡ true
run_walk_ends process script xs place inside = walk_comes_to_end (changes_in (state_behind process script xs).events) place (run_sound process script xs).numbered inside

-- a pass that is in, or goes in, is in
pub went_in : (s : State) (p : ℕ) → is_in ((entered_if_out p s).places p) ≡ true
went_in s p = of (is_in (s.places p)) refl
  where
    of : (b : Bool) → is_in (s.places p) ≡ b → is_in ((if b then s else entered p s).places p) ≡ true
    of true e = e
    of false e = rw (eqb_same p) refl

-- a report of a pass that is in has the images of a lawful walk
pub sound_walk : (s : State) (p : ℕ) → Sound s → is_in (s.places p) ≡ true → WasWalked (changes_in s.events) (changes_before p s.events) (reported p s)
sound_walk s p h is =
    let changes = changes_in s.events in
    let n = suc (loads_in changes) in
    was_walked changes (changes_before p s.events) (walk_to_end changes (s.places p)) h.numbered (walk_is_in n changes (s.places p) ∙ is) (walk_comes_to_end changes (s.places p) h.numbered is) (walk_fits n changes (changes_before p s.events) (s.places p) (h.walks p))

-- and so are the reports of a run
pub run_reports_lawful : (process : Meanings) (script : ScriptValue) (xs : List NumberedStatement) (p : ℕ) → let inside = entered_if_out p (state_behind process script xs) in WasWalked (changes_in inside.events) (changes_before p inside.events) (reported p inside)
run_reports_lawful process script xs p =
    let s = state_behind process script xs in
    sound_walk (entered_if_out p s) p (enter_if_keeps process script.nodes script.passes Sound (looks_sound script.nodes script.passes) opening_sound steps_sound end_sound enter_sound walk_sound leave_sound s p (run_sound process script xs)) (went_in s p)
