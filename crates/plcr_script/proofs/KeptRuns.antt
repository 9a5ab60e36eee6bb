-- Each file that a run keeps has a report of the images of a lawful walk.
use Rattle.std.proofs.Common.{◌≡◌, ℕ, ◌≤◌, Bool, true, false, List, [], ◌∷◌, ◌++◌, Option, Some, None, Result, Ok, Err, leb, refl, sym, ap, ◌∙◌, subst, arith, append_assoc, length-append}
use Rattle.std.specs.Prelude.{All, Contains, map, option_to_list, if◌then◌else◌}
use Rattle.std.specs.List.{cons_option}
use Rattle.std.proofs.lemmas.List.{map-append}
use Rattle.std.proofs.lemmas.List.Elements.{All-nil, All-cons}
use Rattle.plcr_machine.specs.declared.change.Named.{Named}
use Rattle.plcr_machine.specs.declared.change.Change.{Change}
use Rattle.plcr_machine.specs.Walks.{last_met, Meets, IsLawfulWalk}
use Rattle.plcr_machine.specs.Changes.{load_of, list_after_changes}
use Rattle.plcr_machine.specs.declared.entry.Entry.TheVariants.{Leave, Retire}
use Rattle.plcr_machine.specs.Events.{Event, Noted, changes_in}
use Rattle.plcr_machine.proofs.Growing.{follow-same, meets-same}
use Rattle.plcr_script.specs.declared.outcomes.Outcome.{Outcome}
use Rattle.plcr_script.specs.declared.statements.Statement.{Statement}
use Rattle.plcr_script.specs.declared.statements.Statement.TheVariants as statements
use Rattle.plcr_script.specs.declared.statements.NumberedStatement.{NumberedStatement}
use Rattle.plcr_script.specs.Meanings.{Meanings}
use Rattle.plcr_script.specs.Reading.{file_of, files_of}
use Rattle.plcr_script.specs.RunChanges.{Plan, planned_load, planned_unload}
use Rattle.plcr_script.specs.RunStates.{Opened, steps_left, is_full, State, first_state, entered_if_out, leaves, low_of, high_of}
use Rattle.plcr_script.specs.RunTurns.{Turn, comes_to, stepped_on, stepped_through, step_turn, with_opened, left_open, made_whole, unless_refused, without_opened, full, with_node, listed, reported, turn_of}
use Rattle.plcr_script.specs.Run.{NumberedTurn, turns_from, state_after, run_of, kept_by}
use Rattle.plcr_script.specs.RunLaws.{Follows, WasWalked, changes_before, IsLawfulReport, RunsKeepLawfully, RunsKeepTheirFiles, state_behind}
use Rattle.plcr_script.proofs.NumberedChanges.{lists_stay}
use Rattle.plcr_script.proofs.Turning.{looked, turn_keeps, enter_if_keeps}
use Rattle.plcr_script.proofs.SoundRuns.{Sound, went_in, sound_walk, looks_sound, opening_sound, steps_sound, end_sound, enter_sound, walk_sound, leave_sound, first_sound}
use Rattle.plcr_script.proofs.PacedRuns.{Paced, paced_now, looks_paced, opening_paced, steps_keep_pace, end_paced, enter_paced, walk_paced, leave_paced, first_paced}
use Rattle.plcr_script.proofs.HeldRuns.{none_follow, follow_on, changes_append, statements_follow}

-- a lawful walk is one through other lists that are the same up to its end
lawful_same : (lists others : ℕ → List Named) (a b : ℕ) (met : List Named) → a ≤ b → ((k : ℕ) → k ≤ b → lists k ≡ others k) → IsLawfulWalk load_of lists a b met → IsLawfulWalk load_of others a b met
lawful_same lists others a b met le same w = record {
  rises = w.rises;
  listed = λ x c. let l = w.listed x c in (l.0, l.1, l.2, subst (λ (xs : List Named). Contains xs x) (same l.0 l.2) l.3);
  complete = λ x all. w.complete x (λ j low high. subst (λ (xs : List Named). Contains xs x) (sym (same j high)) (all j low high));
  same = λ e. w.same e ∙ same a le;
}

-- a walk doesn't end before it begins
meets_upto : (lists : ℕ → List Named) (i a b : ℕ) (met : List Named) → Meets load_of lists i a b met → a ≤ b
meets_upto lists i a b [] m = m
meets_upto lists i a b (x ∷ met) m = omega (arith, m.1, meets_upto lists x.load m.0 b met m.3)

-- a walk stays what it was as changes come
walked_stays : (added changes : List Change) (start : ℕ) (met : List Named) → (w : WasWalked changes start met) → (now : WasWalked (added ++ changes) start met) × (now.end ≡ w.end)
walked_stays added changes start met w = (
  record {
    end = w.end;
    within = omega (arith, w.within, length-append added changes);
    whole = record {
      meets = meets-same load_of old new 0 start w.end met same w.whole.meets;
      ends = sym (follow-same load_of old new (last_met load_of 0 met) w.end same) ∙ w.whole.ends;
    };
    lawful = lawful_same old new start w.end met (meets_upto old 0 start w.end met w.whole.meets) same w.lawful;
  },
  refl,
)
  where
    old : ℕ → List Named
    old = list_after_changes changes

    new : ℕ → List Named
    new = list_after_changes (added ++ changes)

    same : (k : ℕ) → k ≤ w.end → old k ≡ new k
    same k below = sym (lists_stay added changes k (omega (arith, below, w.within)))

-- turns that keep no file
unless_quiet : (done : State → Turn) (o : Option Opened) (s : State) → (done s).kept ≡ [] → (without_opened done o s).kept ≡ []
unless_quiet done None s h = h
unless_quiet done (Some o) s h = refl

planned_quiet : (done : Plan → State → Turn) (planned : Result Plan Outcome) (s : State) → ((plan : Plan) → (done plan s).kept ≡ []) → (unless_refused done planned s).kept ≡ []
planned_quiet done (Ok plan) s h = h plan
planned_quiet done (Err refusal) s h = refl

node_quiet : (nodes passes : ℕ) (done : Plan → State → Turn) (plan : Plan) (s : State) → ((t : State) → (done plan t).kept ≡ []) → (with_node nodes passes done plan s).kept ≡ []
node_quiet nodes passes done plan s h = of (is_full nodes passes (looked nodes passes s).events)
  where
    of : (b : Bool) → (if b then comes_to (full nodes passes (looked nodes passes s).events) (looked nodes passes s) else done plan (looked nodes passes s)).kept ≡ []
    of true = refl
    of false = h (looked nodes passes s)

opened_quiet : (done : Opened → State → Turn) (o : Option Opened) (s : State) → ((opened : Opened) → (done opened s).kept ≡ []) → (with_opened done o s).kept ≡ []
opened_quiet done None s h = refl
opened_quiet done (Some o) s h = h o

step_quiet : (most : ℕ) (o : Opened) (s : State) → (step_turn most o s).kept ≡ []
step_quiet most o s = of (leb (steps_left o) most)
  where
    of : (b : Bool) → (if b then stepped_through o s else stepped_on most o s).kept ≡ []
    of true = refl
    of false = refl

turn_quiet : (process : Meanings) (nodes passes : ℕ) (s : State) (statement : Statement) → file_of statement ≡ None → (turn_of process nodes passes s statement).kept ≡ []
unfolding turn_of
turn_quiet process nodes passes s (statements.Load header name) none =
    unless_quiet _ s.opened s (planned_quiet (with_node nodes passes made_whole) (planned_load (process.fault header) (changes_in s.events) header name) s (λ plan. node_quiet nodes passes made_whole plan s (λ t. refl)))
turn_quiet process nodes passes s (statements.BeginLoad header name) none =
    unless_quiet _ s.opened s (planned_quiet (with_node nodes passes left_open) (planned_load (process.fault header) (changes_in s.events) header name) s (λ plan. node_quiet nodes passes left_open plan s (λ t. refl)))
turn_quiet process nodes passes s (statements.Unload header) none = unless_quiet _ s.opened s (planned_quiet made_whole (planned_unload (changes_in s.events) header) s (λ plan. refl))
turn_quiet process nodes passes s (statements.BeginUnload header) none = unless_quiet _ s.opened s (planned_quiet left_open (planned_unload (changes_in s.events) header) s (λ plan. refl))
turn_quiet process nodes passes s (statements.Step most) none = opened_quiet (step_turn most) s.opened s (λ o. step_quiet most o s)
turn_quiet process nodes passes s statements.End none = opened_quiet stepped_through s.opened s (λ o. refl)
turn_quiet process nodes passes s (statements.Enter pass) none = refl
turn_quiet process nodes passes s (statements.Walk pass most) none = refl
turn_quiet process nodes passes s (statements.Leave pass) none = refl
turn_quiet process nodes passes s (statements.Report pass file) none = absurd cc

module _ (process : Meanings) (nodes passes : ℕ) where
  turn_sound : (s : State) (statement : Statement) → Sound s → Sound (turn_of process nodes passes s statement).state
  turn_sound = turn_keeps process nodes passes Sound (looks_sound nodes passes) opening_sound steps_sound end_sound enter_sound walk_sound leave_sound

  turn_paced : (s : State) (statement : Statement) → Paced s → Paced (turn_of process nodes passes s statement).state
  turn_paced = turn_keeps process nodes passes Paced (looks_paced nodes passes) opening_paced steps_keep_pace end_paced enter_paced walk_paced leave_paced

  -- a report, by what was so far and what comes later
  report_lawful : (s : State) (p : ℕ) (file : List ℕ) (later : List Event) → Sound s → Paced s →
      let turn = turn_of process nodes passes s (statements.Report p file) in
      All (IsLawfulReport process (later ++ turn.state.events) turn) turn.kept
  unfolding turn_of
  report_lawful s p file later h pace = All-cons (IsLawfulReport process happened turn) (file, process.report (listed met)) [] lawful (All-nil (IsLawfulReport process happened turn))
    where
      inside : State
      inside = entered_if_out p s

      turn : Turn
      turn = turn_of process nodes passes s (statements.Report p file)

      happened : List Event
      happened = later ++ leaves p (entered_if_out p s).events

      met : List Named
      met = reported p (entered_if_out p s)

      sound : Sound (entered_if_out p s)
      sound = enter_if_keeps process nodes passes Sound (looks_sound nodes passes) opening_sound steps_sound end_sound enter_sound walk_sound leave_sound s p h

      paced : Paced (entered_if_out p s)
      paced = enter_if_keeps process nodes passes Paced (looks_paced nodes passes) opening_paced steps_keep_pace end_paced enter_paced walk_paced leave_paced s p pace

      walked : WasWalked (changes_in (entered_if_out p s).events) (changes_before p (entered_if_out p s).events) (reported p (entered_if_out p s))
      walked = sound_walk (entered_if_out p s) p sound (went_in s p)

      changes : changes_in (later ++ leaves p (entered_if_out p s).events) ≡ changes_in later ++ changes_in (entered_if_out p s).events
      changes = changes_append later (leaves p (entered_if_out p s).events)

      stays : (now : WasWalked (changes_in (later ++ leaves p (entered_if_out p s).events)) (changes_before p (entered_if_out p s).events) (reported p (entered_if_out p s))) × (now.end ≡ walked.end)
      stays = subst (λ (cs : List Change). (now : WasWalked cs (changes_before p (entered_if_out p s).events) (reported p (entered_if_out p s))) × (now.end ≡ walked.end)) (sym changes)
          (walked_stays (changes_in later) (changes_in (entered_if_out p s).events) (changes_before p (entered_if_out p s).events) (reported p (entered_if_out p s)) walked)

      lawful : IsLawfulReport process (later ++ leaves p (entered_if_out p s).events) (turn_of process nodes passes s (statements.Report p file)) (file, process.report (listed (reported p (entered_if_out p s))))
      lawful = record {
        pass = p;
        inside = (entered_if_out p s).events;
        hold = (later ++ Noted (Retire p) ∷ [], sym (append_assoc later (Noted (Retire p) ∷ []) (Noted (Leave p) ∷ (entered_if_out p s).events)));
        met = reported p (entered_if_out p s);
        walked = stays.0;
        within = rw stays.1 walked.within;
        bytes = refl;
        low = low_of p (entered_if_out p s);
        high = high_of (entered_if_out p s);
        told = refl;
        first = paced.windows p;
        last = paced_now (entered_if_out p s) paced;
      }

  -- each turn
  turn_lawful : (s : State) (statement : Statement) (later : List Event) → Sound s → Paced s →
      let turn = turn_of process nodes passes s statement in
      All (IsLawfulReport process (later ++ turn.state.events) turn) turn.kept
  unfolding turn_of
  turn_lawful s (statements.Report p file) later h pace = report_lawful s p file later h pace
  turn_lawful s statement later h pace = rw (turn_quiet process nodes passes s statement refl) (All-nil (IsLawfulReport process (later ++ (turn_of process nodes passes s statement).state.events) (turn_of process nodes passes s statement)))

  -- and all turns behind a state
  turns_lawful : (s : State) (xs : List NumberedStatement) (happened : List Event) → Sound s → Paced s
      → Follows (state_after process nodes passes s xs).events happened
      → All (λ (t : NumberedTurn). All (IsLawfulReport process happened t.turn) t.turn.kept) (turns_from process nodes passes s xs)
  turns_lawful s [] happened h pace ends = All-nil (λ (t : NumberedTurn). All (IsLawfulReport process happened t.turn) t.turn.kept)
  turns_lawful s (x ∷ xs) happened h pace ends =
      let turn = turn_of process nodes passes s x.statement in
      let last = state_after process nodes passes turn.state xs in
      let on = follow_on turn.state.events last.events happened (statements_follow turn.state.events process nodes passes turn.state xs (none_follow turn.state.events)) ends in
      let first : All (IsLawfulReport process happened turn) turn.kept = subst (λ (es : List Event). All (IsLawfulReport process es turn) turn.kept) (sym on.1) (turn_lawful s x.statement on.0 h pace) in
      All-cons (λ (t : NumberedTurn). All (IsLawfulReport process happened t.turn) t.turn.kept) (record { line = x.line; turn = turn }) (turns_from process nodes passes turn.state xs) first
      (turns_lawful turn.state xs happened (turn_sound s x.statement h) (turn_paced s x.statement pace) ends)

-- each file that a run keeps
pub run_keeps_lawfully : RunsKeepLawfully
unfolding run_of
run_keeps_lawfully process script later =
    turns_lawful process script.nodes script.passes first_state script.statements (later ++ (state_behind process script script.statements).events) first_sound first_paced (later, refl)

-- the names of the files that turns keep
abbrev names : List (List ℕ × List ℕ) → List (List ℕ)
names files = map (λ (file : List ℕ × List ℕ). file.0) files

one_kept : (process : Meanings) (nodes passes : ℕ) (s : State) (statement : Statement) → names (turn_of process nodes passes s statement).kept ≡ option_to_list (file_of statement)
unfolding turn_of
one_kept process nodes passes s (statements.Report p file) = refl
one_kept process nodes passes s statement = ap names (turn_quiet process nodes passes s statement refl)

or_none : {A : Type 0} (o : Option A) (xs : List A) → option_to_list o ++ xs ≡ cons_option o xs
or_none None xs = refl
or_none (Some x) xs = refl

names_kept : (process : Meanings) (nodes passes : ℕ) (s : State) (xs : List NumberedStatement) → names (kept_by (turns_from process nodes passes s xs)) ≡ files_of xs
names_kept process nodes passes s [] = refl
names_kept process nodes passes s (x ∷ xs) =
    let turn = turn_of process nodes passes s x.statement in
    map-append (λ (file : List ℕ × List ℕ). file.0) turn.kept (kept_by (turns_from process nodes passes turn.state xs))
    ∙ rw (one_kept process nodes passes s x.statement, names_kept process nodes passes turn.state xs) (or_none (file_of x.statement) (files_of xs))

pub run_keeps_its_files : RunsKeepTheirFiles
unfolding run_of
run_keeps_its_files process script = names_kept process script.nodes script.passes first_state script.statements
