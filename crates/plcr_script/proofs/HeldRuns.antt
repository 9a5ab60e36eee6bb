-- What happened in a run stays, and more comes after it.
use Rattle.std.proofs.Common.{◌≡◌, ℕ, zero, suc, ◌+◌, ◌<◌, Bool, true, false, List, [], ◌∷◌, ◌++◌, Option, Some, None, eqb, ltb, refl, sym, ap, ◌∙◌, append_assoc}
use Rattle.std.specs.Prelude.{if◌then◌else◌}
use Rattle.plcr_machine.specs.declared.change.Change.{Change}
use Rattle.plcr_machine.specs.declared.entry.Entry.TheVariants.{Announce, Enter, Leave, Retire, Count, Look}
use Rattle.plcr_machine.specs.Passes.{counts, stamp_of}
use Rattle.plcr_machine.specs.Events.{Event, Changed, Noted, changes_in, noted_in, looks}
use Rattle.plcr_script.specs.Meanings.{Meanings}
use Rattle.plcr_script.specs.declared.statements.NumberedStatement.{NumberedStatement}
use Rattle.plcr_script.specs.RunChanges.{Plan}
use Rattle.plcr_script.specs.RunStates.{Opened, steps_left, stepped, steps, is_full, searched, Place, is_in, walk, State, first_state, entered, walked, leaves, left, all_left, finished, ended}
use Rattle.plcr_script.specs.Run.{state_after, end_after}
use Rattle.plcr_script.specs.RunLaws.{Follows, EndsFollow, state_behind}
use Rattle.plcr_script.proofs.Turning.{with_open, after_steps, after_all, looked, MayCome, statements_keep}

pub none_follow : (events : List Event) → Follows events events
none_follow events = ([], refl)

pub follow_on : (a b c : List Event) → Follows a b → Follows b c → Follows a c
follow_on a b c f g = (g.0 ++ f.0, g.1 ∙ ap (λ (l : List Event). g.0 ++ l) f.1 ∙ sym (append_assoc g.0 f.0 a))

pub changes_append : (later past : List Event) → changes_in (later ++ past) ≡ changes_in later ++ changes_in past
changes_append [] past = refl
changes_append (Changed change ∷ later) past = ap (λ (cs : List Change). change ∷ cs) (changes_append later past)
changes_append (Noted entry ∷ later) past = changes_append later past

module _ (past : List Event) where
  one_follows : (event : Event) (events : List Event) → Follows past events → Follows past (event ∷ events)
  one_follows event events f = (event ∷ f.0, ap (λ (l : List Event). event ∷ l) f.1)

  stepped_follows : (plan : Plan) (made : ℕ) (events : List Event) → Follows past events → Follows past (stepped plan made events)
  stepped_follows plan made events f = of (eqb made plan.before) (ltb plan.before made)
    where
      of : (at after : Bool) → Follows past (if at then Changed plan.change ∷ events else if after then Noted Count ∷ events else events)
      of true after = one_follows (Changed plan.change) events f
      of false true = one_follows (Noted Count) events f
      of false false = f

  steps_follow : (o : Opened) (n : ℕ) (events : List Event) → Follows past events → Follows past (steps o n events)
  steps_follow o zero events f = f
  steps_follow o (suc n) events f = stepped_follows o.plan (o.made + n) (steps o n events) (steps_follow o n events f)

  looks_follow : (passes : ℕ) (events : List Event) → Follows past events → Follows past (looks passes events)
  looks_follow zero events f = f
  looks_follow (suc p) events f = one_follows (Noted (Look p (stamp_of p (noted_in (looks p events))))) (looks p events) (looks_follow p events f)

  searched_follows : (nodes passes : ℕ) (events : List Event) → Follows past events → Follows past (searched nodes passes events)
  searched_follows nodes passes events f = of (is_full nodes passes events)
    where
      of : (b : Bool) → Follows past (if b then looks passes events else events)
      of true = looks_follow passes events f
      of false = f

  leaves_follow : (pass : ℕ) (events : List Event) → Follows past events → Follows past (leaves pass events)
  leaves_follow pass events f = one_follows (Noted (Retire pass)) (Noted (Leave pass) ∷ events) (one_follows (Noted (Leave pass)) events f)

  entered_follows : (pass : ℕ) (s : State) → Follows past s.events → Follows past (entered pass s).events
  entered_follows pass s f = one_follows (Noted (Enter pass)) (Noted (Announce pass (counts (noted_in s.events))) ∷ s.events) (one_follows (Noted (Announce pass (counts (noted_in s.events)))) s.events f)

  left_follows : (pass : ℕ) (b : Bool) (events : List Event) → Follows past events → Follows past (if b then leaves pass events else events)
  left_follows pass true events f = leaves_follow pass events f
  left_follows pass false events f = f

  all_left_follow : (passes : ℕ) (places : ℕ → Place) (events : List Event) → Follows past events → Follows past (all_left passes places events)
  all_left_follow zero places events f = f
  all_left_follow (suc p) places events f = left_follows p (is_in (places p)) (all_left p places events) (all_left_follow p places events f)

  finished_follow : (opened : Option Opened) (events : List Event) → Follows past events → Follows past (finished opened events)
  finished_follow None events f = f
  finished_follow (Some o) events f = steps_follow o (steps_left o) events f

  pub ended_follows : (passes : ℕ) (s : State) → Follows past s.events → Follows past (ended passes s)
  ended_follows passes s f = finished_follow s.opened (all_left passes s.places s.events) (all_left_follow passes s.places s.events f)

  -- statements come after what there was
  abbrev Has : State → Type 0
  Has s = Follows past s.events

  pub statements_follow : (process : Meanings) (nodes passes : ℕ) (s : State) (xs : List NumberedStatement) → Follows past s.events → Follows past (state_after process nodes passes s xs).events
  statements_follow process nodes passes s xs f = statements_keep process nodes passes Has
      (λ t h. searched_follows nodes passes t.events h)
      (λ t plan h none may. h)
      (λ t o more h is few. steps_follow o more t.events h)
      (λ t o h is. steps_follow o (steps_left o) t.events h)
      (λ t p h. entered_follows p t h)
      (λ t p most h. h)
      (λ t p h. leaves_follow p t.events h)
      xs s f

pub ends_follow : EndsFollow
unfolding end_after
ends_follow process script xs =
    let s = state_behind process script xs in
    ended_follows s.events script.passes s (none_follow s.events)
