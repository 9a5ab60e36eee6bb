-- The images of a run: their headers have 64 bits, their names are within their limit, and a walk meets fewer than 2^32 of them.
use Rattle.std.proofs.Common.{◌≡◌, ⊎_elim, ℕ, suc, ◌+◌, ◌^◌, ◌<◌, ◌≤◌, Bool, true, false, List, [], ◌∷◌, Option, Some, None, Result, Ok, Err, leb, ltb, length, refl, sym, ap, subst, arith}
use Rattle.std.specs.Prelude.{All, Contains, option_map, ok_or, if◌then◌else◌}
use Rattle.std.proofs.lemmas.List.{length-map}
use Rattle.std.proofs.lemmas.List.Elements.{All-nil, All-cons, All-head, All-tail, All-push, All-map, All-weaker, All-contains, All-contains_itself}
use Rattle.std.proofs.lemmas.Bool.{leb-true, leb-false, ltb-false}
use Rattle.plcr_base.specs.declared.limits.TheConstants.{IMAGE_NAME_BYTES}
use Rattle.plcr_base.specs.Limits.{IsImageName}
use Rattle.plcr_base.specs.Chains.{passed}
use Rattle.plcr_machine.specs.declared.limits.TheConstants.{MOST_CHANGES}
use Rattle.plcr_machine.specs.declared.change.Named.{Named}
use Rattle.plcr_machine.specs.declared.change.Change.{Change}
use Rattle.plcr_machine.specs.declared.change.Change.TheVariants.{Loads, Unloads}
use Rattle.plcr_machine.specs.Walks.{RisesAbove, IsLawfulWalk}
use Rattle.plcr_machine.specs.Changes.{load_of, without_first, list_of, list_after_changes}
use Rattle.plcr_machine.specs.Events.{Event, changes_in}
use Rattle.plcr_machine.proofs.Cases.{by_cases, at_or_else, eqb_same}
use Rattle.plcr_macho.specs.Images.{Listed}
use Rattle.plcr_encode.specs.Conditions.{IsNamable}
use Rattle.plcr_script.specs.declared.outcomes.Outcome.{Outcome}
use Rattle.plcr_script.specs.declared.outcomes.Outcome.TheVariants.{NotImage, Worn, Long, NotLoaded}
use Rattle.plcr_script.specs.declared.statements.Statement.{Statement}
use Rattle.plcr_script.specs.declared.statements.Statement.TheVariants as statements
use Rattle.plcr_script.specs.declared.statements.NumberedStatement.{NumberedStatement}
use Rattle.plcr_script.specs.Lawful.{IsFitStatement}
use Rattle.plcr_script.specs.Scripts.{ScriptValue}
use Rattle.plcr_script.specs.Meanings.{Meanings}
use Rattle.plcr_script.specs.RunChanges.{Plan, loads_in, first_with, where_so, first_refusal, load_plan, planned_load, unload_plan, found_unload, unless_refusal, planned_unload}
use Rattle.plcr_script.specs.RunStates.{Opened, steps_left, steps, is_full, State, first_state, entered, entered_if_out, is_in, left, finished}
use Rattle.plcr_script.specs.RunTurns.{Turn, comes_to, stepped_on, stepped_through, step_turn, where_open, left_open, made_whole, unless_refused, unless_busy, full, with_opened, without_opened, with_node, load_turn, unload_turn, listed, turn_of}
use Rattle.plcr_script.specs.Run.{state_after, end_after, changes_after}
use Rattle.plcr_script.specs.RunLaws.{state_behind}
use Rattle.plcr_script.proofs.NumberedChanges.{AreNumbered, RisesTo, lists_rise}
use Rattle.plcr_script.proofs.Turning.{with_open, after_steps, after_all, looked, searched_changes, statements_keep}
use Rattle.plcr_script.proofs.PrefixRuns.{ended_changes}
use Rattle.plcr_script.proofs.SoundRuns.{AddNothing, AddChange, step_changes, Sound, looks_sound, opening_sound, steps_sound, end_sound, enter_sound, walk_sound, leave_sound, first_sound}
use Rattle.plcr_tool.specs.Laws.{AreHandedListed}

-- an image that may be loaded
abbrev IsFitImage : Named → Type 0
IsFitImage image = (image.header < 2 ^ 64) × IsImageName image.name

abbrev IsFitChange : Change → Type 0
IsFitChange (Loads image) = IsFitImage image
IsFitChange (Unloads header) = Unit {0}

abbrev OpenFits : Option Opened → Type 0
OpenFits None = Unit {0}
OpenFits (Some o) = IsFitChange o.plan.change

-- a change that is open will be one more, as long as it hasn't come
abbrev to_come : (made before : ℕ) → ℕ
to_come made before = if leb made before then 1 else 0

abbrev pending : Option Opened → ℕ
pending None = 0
pending (Some o) = to_come o.made o.plan.before

record Fit (s : State) : Type 0 where
  changes : All IsFitChange (changes_in s.events)
  opened : OpenFits s.opened
  room : length (changes_in s.events) + pending s.opened ≤ MOST_CHANGES

-- it comes while its steps are few
will_come : (made before : ℕ) → made ≤ before → to_come made before ≡ 1
will_come made before le = by_cases (leb made before) (λ t. rw t refl) (λ f. let more = leb-false made before f in absurd (omega (arith, le, more)))

has_come : (made before : ℕ) → before < made → to_come made before ≡ 0
has_come made before lt = by_cases (leb made before) (λ t. let less = leb-true made before t in absurd (omega (arith, lt, less))) (λ f. rw f refl)

-- what the steps of a change leave
changes_fit : (o : Opened) (n : ℕ) (events : List Event) → All IsFitChange (changes_in events) → IsFitChange o.plan.change → All IsFitChange (changes_in (steps o n events))
changes_fit o n events all fit = ⊎_elim
    (λ (same : AddNothing o n events). rw same.0 all)
    (λ (came : AddChange o n events). rw came.0 (All-cons IsFitChange o.plan.change (changes_in events) fit all))
    (step_changes o n events)

room_on : (o : Opened) (n : ℕ) (events : List Event) → length (changes_in events) + pending (Some o) ≤ MOST_CHANGES → length (changes_in (steps o n events)) + pending (Some (record o { made = o.made + n })) ≤ MOST_CHANGES
room_on o n events room = ⊎_elim
    (λ (same : AddNothing o n events). ⊎_elim
    (λ (below : o.made + n ≤ o.plan.before).
    let was = will_come o.made o.plan.before (omega (arith, below)) in
    let is = will_come (o.made + n) o.plan.before below in
    let size = ap length same.0 in
    omega (arith, room, was, is, size))
    (λ (past : o.plan.before < o.made).
    let is = has_come (o.made + n) o.plan.before (omega (arith, past)) in
    let size = ap length same.0 in
    omega (arith, room, is, size))
    same.1)
    (λ (came : AddChange o n events).
    let was = will_come o.made o.plan.before came.1 in
    let is = has_come (o.made + n) o.plan.before came.2 in
    let size = ap length came.0 in
    omega (arith, room, was, is, size))
    (step_changes o n events)

room_all : (o : Opened) (n : ℕ) (events : List Event) → length (changes_in events) + pending (Some o) ≤ MOST_CHANGES → length (changes_in (steps o n events)) + 0 ≤ MOST_CHANGES
room_all o n events room = ⊎_elim
    (λ (same : AddNothing o n events). let size = ap length same.0 in omega (arith, room, size))
    (λ (came : AddChange o n events).
    let was = will_come o.made o.plan.before came.1 in
    let size = ap length came.0 in
    omega (arith, room, was, size))
    (step_changes o n events)

-- a change that may come next
abbrev Comes : Plan → State → Type 0
Comes plan s = IsFitChange plan.change × (length (changes_in s.events) < MOST_CHANGES)

load_comes : (fault : Option ℕ) (changes : List Change) (header : ℕ) (name : List ℕ) (plan : Plan) → header < 2 ^ 64 → planned_load fault changes header name ≡ Ok plan → IsFitChange plan.change × (length changes < MOST_CHANGES)
load_comes fault changes header name plan small e = of fault (leb MOST_CHANGES (length changes)) (ltb IMAGE_NAME_BYTES (length name)) refl refl e
  where
    of : (f : Option ℕ) (w l : Bool) → leb MOST_CHANGES (length changes) ≡ w → ltb IMAGE_NAME_BYTES (length name) ≡ l
        → passed (load_plan changes header name) (first_refusal (option_map NotImage f ∷ where_so w (Worn (length changes)) ∷ where_so l (Long (length name)) ∷ [])) ≡ Ok plan
        → IsFitChange plan.change × (length changes < MOST_CHANGES)
    of None false false worn long h =
        let same : load_plan changes header name ≡ plan = cc in
        (subst (λ (p : Plan). IsFitChange p.change) same (small, ltb-false IMAGE_NAME_BYTES (length name) long), leb-false MOST_CHANGES (length changes) worn)
    of None false true worn long h = absurd cc
    of None true l worn long h = absurd cc
    of (Some kind) w l worn long h = absurd cc

unload_comes : (changes : List Change) (header : ℕ) (plan : Plan) → planned_unload changes header ≡ Ok plan → IsFitChange plan.change × (length changes < MOST_CHANGES)
unload_comes changes header plan e = of (leb MOST_CHANGES (length changes)) refl e
  where
    found : (image : Option Named) → ok_or (option_map (unload_plan header) image) NotLoaded ≡ Ok plan → IsFitChange plan.change
    found None h = absurd cc
    found (Some image) h = let same : unload_plan header image ≡ plan = cc in subst (λ (p : Plan). IsFitChange p.change) same tt

    of : (w : Bool) → leb MOST_CHANGES (length changes) ≡ w → unless_refusal (where_so w (Worn (length changes))) (found_unload changes header) ≡ Ok plan → IsFitChange plan.change × (length changes < MOST_CHANGES)
    of false worn h = (found (first_with header (list_of changes)) h, leb-false MOST_CHANGES (length changes) worn)
    of true worn h = absurd cc

end_fit : (s : State) (o : Opened) → Fit s → s.opened ≡ Some o → Fit (after_all o s)
end_fit s o p e =
    let fit : OpenFits (Some o) = rw e at p.opened in
    let room : length (changes_in s.events) + pending (Some o) ≤ MOST_CHANGES = rw e at p.room in
    record { changes = changes_fit o (steps_left o) s.events p.changes fit; opened = tt; room = room_all o (steps_left o) s.events room }

steps_fit : (s : State) (o : Opened) (more : ℕ) → Fit s → s.opened ≡ Some o → Fit (after_steps more o s)
steps_fit s o more p e =
    let fit : OpenFits (Some o) = rw e at p.opened in
    let room : length (changes_in s.events) + pending (Some o) ≤ MOST_CHANGES = rw e at p.room in
    record { changes = changes_fit o more s.events p.changes fit; opened = fit; room = room_on o more s.events room }

open_fit : (s : State) (plan : Plan) → Fit s → Comes plan s → Fit (with_open plan s)
open_fit s plan p c =
    let one = will_come 0 plan.before (omega arith) in
    record { changes = p.changes; opened = c.0; room = omega (arith, c.1, one) }

module _ (process : Meanings) (nodes passes : ℕ) where
  abbrev Keeps : (Plan → State → Turn) → Type 0
  Keeps done = (s : State) (plan : Plan) → Fit s → Comes plan s → Fit (done plan s).state

  open_keeps : Keeps left_open
  open_keeps s plan p c = open_fit s plan p c

  whole_keeps : Keeps made_whole
  whole_keeps s plan p c = end_fit (with_open plan s) (record { plan = plan; made = 0 }) (open_fit s plan p c) refl

  looks_fit : (s : State) → Fit s → Fit (looked nodes passes s)
  looks_fit s p = record {
    changes = rw (searched_changes nodes passes s.events) p.changes;
    opened = p.opened;
    room = rw (searched_changes nodes passes s.events) p.room;
  }

  node_keeps : (done : Plan → State → Turn) → Keeps done → Keeps (with_node nodes passes done)
  node_keeps done keeps s plan p c = of (is_full nodes passes (looked nodes passes s).events)
    where
      of : (b : Bool) → Fit (if b then comes_to (full nodes passes (looked nodes passes s).events) (looked nodes passes s) else done plan (looked nodes passes s)).state
      of true = looks_fit s p
      of false = keeps (looked nodes passes s) plan (looks_fit s p) (c.0, rw (searched_changes nodes passes s.events) c.1)

  planned_keeps : (done : Plan → State → Turn) → Keeps done → (s : State) (planned : Result Plan Outcome) → Fit s → ((plan : Plan) → planned ≡ Ok plan → Comes plan s) → Fit (unless_refused done planned s).state
  planned_keeps done keeps s (Ok plan) p comes = keeps s plan p (comes plan refl)
  planned_keeps done keeps s (Err refusal) p comes = p

  idle_keeps : (done : State → Turn) (s : State) → Fit s → Fit (done s).state → Fit (unless_busy done s).state
  idle_keeps done s p keeps = of s.opened
    where
      of : (o : Option Opened) → Fit (without_opened done o s).state
      of None = keeps
      of (Some opened) = p

  load_fits : (done : Plan → State → Turn) → Keeps done → (header : ℕ) (name : List ℕ) (s : State) → header < 2 ^ 64 → Fit s → Fit (load_turn process nodes passes done header name s).state
  load_fits done keeps header name s small p =
      idle_keeps (unless_refused (with_node nodes passes done) (planned_load (process.fault header) (changes_in s.events) header name)) s p
      (planned_keeps (with_node nodes passes done) (node_keeps done keeps) s (planned_load (process.fault header) (changes_in s.events) header name) p
      (λ plan e. load_comes (process.fault header) (changes_in s.events) header name plan small e))

  unload_fits : (done : Plan → State → Turn) → Keeps done → (header : ℕ) (s : State) → Fit s → Fit (unload_turn done header s).state
  unload_fits done keeps header s p =
      idle_keeps (unless_refused done (planned_unload (changes_in s.events) header)) s p
      (planned_keeps done keeps s (planned_unload (changes_in s.events) header) p (λ plan e. unload_comes (changes_in s.events) header plan e))

  open_change_fits : (done : Opened → State → Turn) (s : State) → Fit s → ((o : Opened) → s.opened ≡ Some o → Fit (done o s).state) → Fit (where_open done s).state
  open_change_fits done s p keeps = of s.opened refl
    where
      of : (o : Option Opened) → s.opened ≡ o → Fit (with_opened done o s).state
      of None e = p
      of (Some opened) e = keeps opened e

  step_fits : (most : ℕ) (o : Opened) (s : State) → Fit s → s.opened ≡ Some o → Fit (step_turn most o s).state
  step_fits most o s p e = of (leb (steps_left o) most)
    where
      of : (b : Bool) → Fit (if b then stepped_through o s else stepped_on most o s).state
      of true = end_fit s o p e
      of false = steps_fit s o most p e

  -- a pass goes in, and comes out
  entered_fits : (s : State) (pass : ℕ) → Fit s → Fit (entered pass s)
  entered_fits s pass p = record { changes = p.changes; opened = p.opened; room = p.room }

  if_out_fits : (s : State) (pass : ℕ) → Fit s → Fit (entered_if_out pass s)
  if_out_fits s pass p = of (is_in (s.places pass))
    where
      of : (b : Bool) → Fit (if b then s else entered pass s)
      of true = p
      of false = entered_fits s pass p

  left_fits : (s : State) (pass : ℕ) → Fit s → Fit (left pass s)
  left_fits s pass p = record { changes = p.changes; opened = p.opened; room = p.room }

  turn_fits : (s : State) (statement : Statement) → IsFitStatement statement → Fit s → Fit (turn_of process nodes passes s statement).state
  unfolding turn_of
  turn_fits s (statements.Load header name) fit p = load_fits made_whole whole_keeps header name s fit.0 p
  turn_fits s (statements.Unload header) fit p = unload_fits made_whole whole_keeps header s p
  turn_fits s (statements.BeginLoad header name) fit p = load_fits left_open open_keeps header name s fit.0 p
  turn_fits s (statements.BeginUnload header) fit p = unload_fits left_open open_keeps header s p
  turn_fits s (statements.Step most) fit p = open_change_fits (step_turn most) s p (λ o e. step_fits most o s p e)
  turn_fits s statements.End fit p = open_change_fits stepped_through s p (λ o e. end_fit s o p e)
  turn_fits s (statements.Enter pass) fit p = entered_fits s pass p
  turn_fits s (statements.Walk pass most) fit p = record { changes = p.changes; opened = p.opened; room = p.room }
  turn_fits s (statements.Leave pass) fit p = left_fits s pass p
  turn_fits s (statements.Report pass file) fit p = left_fits (entered_if_out pass s) pass (if_out_fits s pass p)

  statements_fit : (xs : List NumberedStatement) (s : State) → All (λ (x : NumberedStatement). IsFitStatement x.statement) xs → Fit s → Fit (state_after process nodes passes s xs)
  statements_fit [] s all p = p
  statements_fit (x ∷ xs) s all p =
      let fit : IsFitStatement x.statement = All-head (λ (x : NumberedStatement). IsFitStatement x.statement) x xs all in
      statements_fit xs (turn_of process nodes passes s x.statement).state (All-tail (λ (x : NumberedStatement). IsFitStatement x.statement) x xs all) (turn_fits s x.statement fit p)

first_fits : Fit first_state
first_fits = record { changes = All-nil IsFitChange; opened = tt; room = omega arith }

-- the changes of a run that ends behind some statements
record FitChanges (changes : List Change) : Type 0 where
  fit : All IsFitChange changes
  few : length changes ≤ MOST_CHANGES
  numbered : AreNumbered changes

finished_fit : (s : State) (o : Option Opened) → s.opened ≡ o → Fit s → Sound s → FitChanges (changes_in (finished o s.events))
finished_fit s None e p h = let room = p.room in record { fit = p.changes; few = omega (arith, room); numbered = h.numbered }
finished_fit s (Some o) e p h =
    let q = end_fit s o p e in
    let room = q.room in
    record { fit = q.changes; few = omega (arith, room); numbered = (end_sound s o h e).numbered }

run_fits : (process : Meanings) (script : ScriptValue) (xs : List NumberedStatement) → All (λ (x : NumberedStatement). IsFitStatement x.statement) xs → FitChanges (changes_after process script xs)
unfolding end_after
run_fits process script xs all =
    let s = state_behind process script xs in
    let p = statements_fit process script.nodes script.passes xs first_state all first_fits in
    let h : Sound s = statements_keep process script.nodes script.passes Sound (looks_sound script.nodes script.passes) opening_sound steps_sound end_sound enter_sound walk_sound leave_sound xs first_state first_sound in
    subst FitChanges (sym (ended_changes script.passes s)) (finished_fit s s.opened refl p h)

-- the images of the lists that they leave
without_fit : (header : ℕ) (images : List Named) → All IsFitImage images → All IsFitImage (without_first header images)
without_fit header [] all = all
without_fit header (image ∷ images) all =
    let rest = All-tail IsFitImage image images all in
    at_or_else image.header header
    (λ same. rw (same, eqb_same header) rest)
    (λ other. rw other (All-cons IsFitImage image (without_first header images) (All-head IsFitImage image images all) (without_fit header images rest)))

list_fits : (changes : List Change) → All IsFitChange changes → All IsFitImage (list_of changes)
list_fits [] all = All-nil IsFitImage
list_fits (Loads image ∷ past) all = All-push IsFitImage (list_of past) image (list_fits past (All-tail IsFitChange (Loads image) past all)) (All-head IsFitChange (Loads image) past all)
list_fits (Unloads header ∷ past) all = without_fit header (list_of past) (list_fits past (All-tail IsFitChange (Unloads header) past all))

lists_fit : (changes : List Change) (j : ℕ) → All IsFitChange changes → All IsFitImage (list_after_changes changes j)
lists_fit [] j all = All-nil IsFitImage
lists_fit (change ∷ past) j all =
    by_cases (leb (suc (length past)) j)
    (λ whole. rw whole (list_fits (change ∷ past) all))
    (λ fewer. rw fewer (lists_fit past j (All-tail IsFitChange change past all)))

-- their numbers are those of loads
rises_all : (low high : ℕ) (xs : List Named) → RisesTo low high xs → All (λ (x : Named). x.load ≤ high) xs
rises_all low high [] r = All-nil (λ (x : Named). x.load ≤ high)
rises_all low high (x ∷ xs) r = All-cons (λ (x : Named). x.load ≤ high) x xs (within x.load high xs r.1) (rises_all x.load high xs r.1)
  where
    within : (low high : ℕ) (xs : List Named) → RisesTo low high xs → low ≤ high
    within low high [] r = r
    within low high (x ∷ xs) r = let rest = within x.load high xs r.1 in omega (arith, r.0, rest)

loads_few : (changes : List Change) → loads_in changes ≤ length changes
loads_few [] = omega arith
loads_few (Loads image ∷ past) = let rest = loads_few past in omega (arith, rest)
loads_few (Unloads header ∷ past) = let rest = loads_few past in omega (arith, rest)

-- so many numbers that rise
rise_few : (low high : ℕ) (xs : List Named) → low ≤ high → RisesAbove load_of low xs → All (λ (x : Named). x.load ≤ high) xs → low + length xs ≤ high
rise_few low high [] le r all = omega (arith, le)
rise_few low high (x ∷ xs) le r all =
    let one : x.load ≤ high = All-head (λ (x : Named). x.load ≤ high) x xs all in
    let rest = rise_few x.load high xs one r.1 (All-tail (λ (x : Named). x.load ≤ high) x xs all) in
    omega (arith, r.0, rest)

abbrev as_listed : Named → Listed
as_listed image = record { header = image.header; name = image.name }

-- what a lawful walk through them meets can be handed in for a report
met_fits : (changes : List Change) (start end : ℕ) (met : List Named) → FitChanges changes → IsLawfulWalk load_of (list_after_changes changes) start end met → AreHandedListed (listed met)
met_fits changes start end met f w =
    let images : All IsFitImage met = All-weaker (Contains met) IsFitImage (λ x c. let l = w.listed x c in All-contains IsFitImage (list_after_changes changes l.0) x (lists_fit changes l.0 f.fit) l.3) met (All-contains_itself met) in
    let loads : All (λ (x : Named). x.load ≤ loads_in changes) met = All-weaker (Contains met) (λ (x : Named). x.load ≤ loads_in changes) (λ x c. let l = w.listed x c in All-contains (λ (x : Named). x.load ≤ loads_in changes) (list_after_changes changes l.0) x (rises_all 0 (loads_in changes) (list_after_changes changes l.0) (lists_rise changes l.0 f.numbered)) l.3) met (All-contains_itself met) in
    let few = rise_few 0 (loads_in changes) met (omega arith) w.rises loads in
    let counted = loads_few changes in
    let most = f.few in
    let size = length-map met as_listed in
    record {
      namable = record {
        each = All-map IsNamable as_listed met (All-weaker IsFitImage (λ (image : Named). IsImageName image.name) (λ x fit. fit.1) met images);
        few = omega (arith, few, counted, most, size);
      };
      headers = All-map (λ (l : Listed). l.header < 2 ^ 64) as_listed met (All-weaker IsFitImage (λ (image : Named). image.header < 2 ^ 64) (λ x fit. fit.0) met images);
    }

-- and so can that of a run of statements of a lawful script
pub run_met_fits : (process : Meanings) (script : ScriptValue) (xs : List NumberedStatement) (start end : ℕ) (met : List Named) → All (λ (x : NumberedStatement). IsFitStatement x.statement) xs
    → IsLawfulWalk load_of (list_after_changes (changes_after process script xs)) start end met → AreHandedListed (listed met)
run_met_fits process script xs start end met all w = met_fits (changes_after process script xs) start end met (run_fits process script xs all) w
