-- What the history of the writer says of the state of a run, and what a walk meets by headers and names.
use Rattle.std.proofs.Common.{◌≡◌, ℕ, zero, suc, ◌+◌, ◌-◌, ◌<◌, ◌≤◌, inl, inr, Bool, true, false, List, [], ◌∷◌, ◌++◌, length, Option, Some, None, Contains, refl, sym, ap, ◌∙◌, subst, ⊎_elim, arith, ne_eqb}
use Rattle.std.proofs.lemmas.Bool.{cases_Bool, cases_eq}
use Rattle.std.proofs.lemmas.List.{map-append}
use Rattle.plcr_machine.specs.declared.image.Image.{Image}
use Rattle.plcr_machine.specs.declared.entry.Entry.{Entry}
use Rattle.plcr_machine.specs.declared.entry.Entry.TheVariants.{Announce, Enter, Leave, Retire, Load, Unload, Count, Look}
use Rattle.plcr_machine.specs.declared.change.Named.{Named}
use Rattle.plcr_machine.specs.declared.change.Change.{Change}
use Rattle.plcr_machine.specs.Lists.{Grows, load_number, loads, changes, list_after}
use Rattle.plcr_machine.specs.Passes.{counts}
use Rattle.plcr_machine.specs.Holds.{before_enter}
use Rattle.plcr_machine.specs.Walks.{RisesAbove, follow, last_met}
use Rattle.plcr_machine.specs.Histories.{IsLegal, IsHistory}
use Rattle.plcr_machine.specs.Changes.{load_of, named, all_named, TakesFirst, changes_of, list_after_changes}
use Rattle.std.specs.Option.{option_map}
use Rattle.plcr_machine.specs.Events.{Event, events_of, changes_in, noted_in}
use Rattle.plcr_machine.proofs.Cases.{eqb_same}
use Rattle.plcr_machine.proofs.Rising.{contains_here, contains_later}
use Rattle.plcr_machine.proofs.Renaming.{follow_named}
use Rattle.plcr_machine.proofs.ListsMade.{changes_of-length}
use Rattle.plcr_machine.proofs.EventsMade.{events-changes, events-counts, events-before}
use Rattle.plcr_nodes.proofs.Seeing.{grows_again}
use Rattle.plcr_imagelist.specs.States.{WriterState}
use Rattle.plcr_imagelist.specs.Holds.{WalkerState, HoldState, IsWalking, IsNext}
use Rattle.plcr_imagelist.proofs.Sees.{met_few}
use Rattle.plcr_script.specs.RunChanges.{loads_in}
use Rattle.plcr_script.specs.RunStates as states
use Rattle.plcr_script.specs.RunStates.{Place, State, placed, met_next, next, walk, walk_to_end}
use Rattle.plcr_run.specs.declared.slots.Slot.{Slot}
use Rattle.plcr_run.specs.declared.writing.Writing.{Writing}
use Rattle.plcr_run.specs.declared.writing.Writing.TheVariants.{Resting, Changing}
use Rattle.plcr_run.specs.inner.Slots.{IsPut}
use Rattle.plcr_run.specs.inner.Tokens.{writer_of, with_writer, place_in, opened_in, StateIs}
use Rattle.plcr_run.specs.Walks.{Meeting, IsFurther, IsToEnd}
use Rattle.plcr_run.proofs.Still.{OneActs}
use Rattle.plcr_run.proofs.Steps.{saw_nothing}
use Rattle.plcr_run.proofs.Walked.{met_more, met_end}

-- the loads among the changes of a history
pub loads_in-of : (names : List (List ℕ)) (h : List Entry) → loads_in (changes_of names h) ≡ loads h
loads_in-of names [] = refl
loads_in-of names (Load n i a ∷ past) = ap suc (loads_in-of names past)
loads_in-of names (Unload n ∷ past) = loads_in-of names past
loads_in-of names (Announce p seen ∷ past) = loads_in-of names past
loads_in-of names (Enter p ∷ past) = loads_in-of names past
loads_in-of names (Leave p ∷ past) = loads_in-of names past
loads_in-of names (Retire p ∷ past) = loads_in-of names past
loads_in-of names (Count ∷ past) = loads_in-of names past
loads_in-of names (Look p stamp ∷ past) = loads_in-of names past

-- the image met last has the same number by its name
last_named : (names : List (List ℕ)) (i : ℕ) (met : List Image) → last_met load_of i (all_named names met) ≡ last_met load_number i met
last_named names i [] = refl
last_named names i (x ∷ met) = last_named names x.load met

-- numbers that rise up to a bound are no more than that
rising_few : (b n : ℕ) (met : List Image) → b ≤ n → RisesAbove load_number b met → ((x : Image) → Contains met x → x.load ≤ n) → length met + b ≤ n
rising_few b n [] le r few = omega arith
rising_few b n (x ∷ met) le r few =
    let rest = rising_few x.load n met (few x (contains_here x met)) r.1 (λ y c. few y (contains_later x y met c)) in
    let here = r.0 in
    omega arith

-- what a walk has met is no more than was loaded
pub met_loads : (s : HoldState) → IsWalking s → length s.met ≤ loads s.walker.history
met_loads s w = let few = rising_few 0 (loads s.walker.history) s.met (omega arith) w.rises (met_few s w) in omega arith

-- the place of a hold in a run
abbrev pub place_of : HoldState → Place
place_of s = states.In (all_named s.walker.names s.met) s.ended

-- calls of `next` see nothing new where others do nothing
pub next_grows : (s t : HoldState) (more : Bool) → IsNext s more t → Grows s.walker.history t.walker.history
next_grows s t more n =
    ⊎_elim
    (λ (e : s.ended ≡ true). subst (λ (h : HoldState). Grows s.walker.history h.walker.history) (sym (n.ended e).1) ([], refl))
    (λ (e : s.ended ≡ false). let g = n.goes e in subst (λ (w : WalkerState). Grows s.walker.history w.history) (sym g.walker) g.sees.added.grows)
    (cases_Bool s.ended)

pub next_still : (r : ℕ) (s t : HoldState) (more : Bool) (top : List Entry) → s.walker.number ≡ r → length s.walker.names ≡ loads s.walker.history → IsNext s more t → OneActs s.walker.passes r s.walker.history top → Grows t.walker.history top → t.walker ≡ s.walker
next_still r s t more top number named n o on =
    ⊎_elim
    (λ (e : s.ended ≡ true). ap (λ (h : HoldState). h.walker) (n.ended e).1)
    (λ (e : s.ended ≡ false).
    let g = n.goes e in
    let saw = saw_nothing r s.walker g.past g.names top number named g.sees o (subst (λ (w : WalkerState). Grows w.history top) g.walker on) in
    g.walker ∙ (λ i. record s.walker { history = saw.history i; names = saw.names i }))
    (cases_Bool s.ended)

next_of : (names : List (List ℕ)) (h : List Entry) (nodes passes : ℕ) (met : List Image) → IsLegal nodes passes h → TakesFirst h
    → next (changes_of names h) (states.In (all_named names met) false) ≡ met_next (all_named names met) (option_map (named names) (follow load_number (list_after h) (last_met load_number 0 met) (changes h)))
next_of names h nodes passes met legal first =
    ap (λ (x : Option Named). met_next (all_named names met) x)
    (ap (λ i. follow load_of (list_after_changes (changes_of names h)) i (length (changes_of names h))) (last_named names 0 met)
    ∙ ap (λ j. follow load_of (list_after_changes (changes_of names h)) (last_met load_number 0 met) j) (changes_of-length names h)
    ∙ follow_named nodes passes names h legal first (last_met load_number 0 met) (changes h))

-- and meet what the run says
pub next_place : (s t : HoldState) (more : Bool) → t.walker ≡ s.walker → IsLegal s.walker.nodes s.walker.passes s.walker.history → TakesFirst s.walker.history → IsNext s more t → place_of t ≡ next (changes_of s.walker.names s.walker.history) (place_of s)
next_place s t more still legal first n =
    ⊎_elim
    (λ (e : s.ended ≡ true). ap place_of (n.ended e).1 ∙ rw e refl)
    (λ (e : s.ended ≡ false). going e more n)
    (cases_Bool s.ended)
  where
    going : s.ended ≡ false → (m : Bool) → IsNext s m t → place_of t ≡ next (changes_of s.walker.names s.walker.history) (place_of s)
    going e true n =
        let g = n.goes e in
        let names : t.walker.names ≡ s.walker.names = ap (λ (w : WalkerState). w.names) still in
        let history : g.past ≡ s.walker.history = sym (ap (λ (w : WalkerState). w.history) g.walker) ∙ ap (λ (w : WalkerState). w.history) still in
        let met = (g.met refl).1 in
        let x : Image = met.0 in
        let is : follow load_number (list_after s.walker.history) (last_met load_number 0 s.met) (changes s.walker.history) ≡ Some x = subst (λ (h : List Entry). follow load_number (list_after h) (last_met load_number 0 s.met) (changes h) ≡ Some x) history met.1 in
        let now : place_of t ≡ states.In (all_named s.walker.names s.met ++ named s.walker.names x ∷ []) false =
        (λ i. states.In (all_named (names i) (met.2 i)) ((g.met refl).0 i)) ∙ ap (λ (l : List Named). states.In l false) (map-append (named s.walker.names) s.met (x ∷ [])) in
        now ∙ sym (ap (λ b. next (changes_of s.walker.names s.walker.history) (states.In (all_named s.walker.names s.met) b)) e
        ∙ next_of s.walker.names s.walker.history s.walker.nodes s.walker.passes s.met legal first
        ∙ ap (λ (o : Option Image). met_next (all_named s.walker.names s.met) (option_map (named s.walker.names) o)) is)
    going e false n =
        let g = n.goes e in
        let names : t.walker.names ≡ s.walker.names = ap (λ (w : WalkerState). w.names) still in
        let history : g.past ≡ s.walker.history = sym (ap (λ (w : WalkerState). w.history) g.walker) ∙ ap (λ (w : WalkerState). w.history) still in
        let end = g.end refl in
        let is : follow load_number (list_after s.walker.history) (last_met load_number 0 s.met) (changes s.walker.history) ≡ None = subst (λ (h : List Entry). follow load_number (list_after h) (last_met load_number 0 s.met) (changes h) ≡ None) history end.1 in
        let now : place_of t ≡ states.In (all_named s.walker.names s.met) true = λ i. states.In (all_named (names i) (end.2 i)) (end.0 i) in
        now ∙ sym (ap (λ b. next (changes_of s.walker.names s.walker.history) (states.In (all_named s.walker.names s.met) b)) e
        ∙ next_of s.walker.names s.walker.history s.walker.nodes s.walker.passes s.met legal first
        ∙ ap (λ (o : Option Image). met_next (all_named s.walker.names s.met) (option_map (named s.walker.names) o)) is)

-- so do several calls
pub record MeetsSame (s t : HoldState) (count : ℕ) : Type 0 where
  pub walker : t.walker ≡ s.walker
  pub place : place_of t ≡ walk count (changes_of s.walker.names s.walker.history) (place_of s)

-- one call more
pub one_same : (r : ℕ) (count : ℕ) (s mid t : HoldState) (top : List Entry) (more : Bool) → s.walker.number ≡ r → IsHistory s.walker.nodes s.walker.passes s.walker.history s.walker.names → TakesFirst s.walker.history
    → MeetsSame s mid count → IsNext mid more t → OneActs s.walker.passes r s.walker.history top → Grows t.walker.history top → MeetsSame s t (suc count)
one_same r count s mid t top more number known first before n o on =
    let w = before.walker in
    let still = next_still r mid t more top (ap (λ (x : WalkerState). x.number) w ∙ number) (subst (λ (x : WalkerState). length x.names ≡ loads x.history) (sym w) known.named) n (subst (λ (x : WalkerState). OneActs x.passes r x.history top) (sym w) o) on in
    let place = next_place mid t more still (subst (λ (x : WalkerState). IsLegal x.nodes x.passes x.history) (sym w) known.legal) (subst (λ (x : WalkerState). TakesFirst x.history) (sym w) first) n in
    record {
      walker = still ∙ w;
      place = place ∙ ap (λ (x : WalkerState). next (changes_of x.names x.history) (place_of mid)) w ∙ ap (next (changes_of s.walker.names s.walker.history)) before.place;
    }

pub meeting_same : (r : ℕ) (count : ℕ) (s t : HoldState) (top : List Entry) → s.walker.number ≡ r → IsHistory s.walker.nodes s.walker.passes s.walker.history s.walker.names → TakesFirst s.walker.history
    → Meeting count s t → OneActs s.walker.passes r s.walker.history top → Grows t.walker.history top → MeetsSame s t count
meeting_same r zero s t top number known first m o on = record { walker = ap (λ (h : HoldState). h.walker) m; place = ap place_of m }
meeting_same r (suc count) s t top number known first m o on =
    one_same r count s m.0 t top true number known first (meeting_same r count s m.0 top number known first m.1 o (grows_again m.0.walker.history t.walker.history top (next_grows m.0 t true m.2) on)) m.2 o on

-- a walk that has ended stays so
ended_on : (more count : ℕ) (changed : List Change) (place : Place) (met : List Named) → walk count changed place ≡ states.In met true → walk (more + count) changed place ≡ states.In met true
ended_on zero count changed place met e = let none : count ≡ 0 + count = omega arith in subst (λ n. walk n changed place ≡ states.In met true) none e
ended_on (suc more) count changed place met e =
    let one : suc (more + count) ≡ suc more + count = omega arith in
    subst (λ n. walk n changed place ≡ states.In met true) one (ap (next changed) (ended_on more count changed place met e))

ended_at : (count most : ℕ) (changed : List Change) (place : Place) (met : List Named) → count ≤ most → walk count changed place ≡ states.In met true → walk most changed place ≡ states.In met true
ended_at count most changed place met le e =
    let all : most - count + count ≡ most = omega arith in
    subst (λ n. walk n changed place ≡ states.In met true) all (ended_on (most - count) count changed place met e)

ended_place : (t : HoldState) → t.ended ≡ true → place_of t ≡ states.In (all_named t.walker.names t.met) true
ended_place t e = ap (λ b. states.In (all_named t.walker.names t.met) b) e

-- a walk by so many calls at most
pub further_same : (r most : ℕ) (s t : HoldState) (top : List Entry) → s.walker.number ≡ r → IsHistory s.walker.nodes s.walker.passes s.walker.history s.walker.names → TakesFirst s.walker.history
    → IsFurther s most t → OneActs s.walker.passes r s.walker.history top → Grows t.walker.history top → MeetsSame s t most
further_same r most s t top number known first f o on = elim f.end [
  | inl all ↦
      let on' : Grows f.last.walker.history top = subst (λ (h : HoldState). Grows h.walker.history top) all.1 on in
      let m = meeting_same r f.count s f.last top number known first f.meeting o on' in
      let is : MeetsSame s f.last most = subst (λ n. MeetsSame s f.last n) all.0 m in
      subst (λ (h : HoldState). MeetsSame s h most) (sym all.1) is
  | inr less ↦
      let on' : Grows f.last.walker.history top = grows_again f.last.walker.history t.walker.history top (next_grows f.last t false less.1) on in
      let m = meeting_same r f.count s f.last top number known first f.meeting o on' in
      let last = one_same r f.count s f.last t top false number known first m less.1 o on in
      let end = ended_place t (met_end f.last t less.1) in
      record { walker = last.walker; place = end ∙ sym (ended_at (suc f.count) most (changes_of s.walker.names s.walker.history) (place_of s) (all_named t.walker.names t.met) less.0 (sym last.place ∙ end)) }
]

-- how many were met
meeting_length : (count : ℕ) (s t : HoldState) → Meeting count s t → length t.met ≡ count + length s.met
meeting_length zero s t m = let same = ap (λ (h : HoldState). length h.met) m in omega arith
meeting_length (suc count) s t m = let more = met_more m.0 t m.2 in let rest = meeting_length count s m.0 m.1 in omega arith

next_keeps : (s t : HoldState) → IsNext s false t → t.met ≡ s.met
next_keeps s t n =
    ⊎_elim
    (λ (e : s.ended ≡ true). ap (λ (h : HoldState). h.met) (n.ended e).1)
    (λ (e : s.ended ≡ false). ((n.goes e).end refl).2)
    (cases_Bool s.ended)

-- a walk to its end
pub record EndsSame (s t : HoldState) : Type 0 where
  pub walker : t.walker ≡ s.walker
  pub place : place_of t ≡ walk_to_end (changes_of s.walker.names s.walker.history) (place_of s)

pub to_end_same : (r : ℕ) (s t : HoldState) (top : List Entry) → s.walker.number ≡ r → IsHistory s.walker.nodes s.walker.passes s.walker.history s.walker.names → TakesFirst s.walker.history
    → IsToEnd s t → IsWalking t → OneActs s.walker.passes r s.walker.history top → Grows t.walker.history top → EndsSame s t
to_end_same r s t top number known first f walking o on =
    let on' : Grows f.last.walker.history top = grows_again f.last.walker.history t.walker.history top (next_grows f.last t false f.end) on in
    let m = meeting_same r f.count s f.last top number known first f.meeting o on' in
    let last = one_same r f.count s f.last t top false number known first m f.end o on in
    let end = ended_place t (met_end f.last t f.end) in
    let long = meeting_length f.count s f.last f.meeting in
    let kept : length t.met ≡ length f.last.met = ap (λ (l : List Image). length l) (next_keeps f.last t f.end) in
    let few : length t.met ≤ loads s.walker.history = subst (λ (w : WalkerState). length t.met ≤ loads w.history) last.walker (met_loads t walking) in
    let le : suc f.count ≤ suc (loads_in (changes_of s.walker.names s.walker.history)) = rw (loads_in-of s.walker.names s.walker.history) (omega arith) in
    record { walker = last.walker; place = end ∙ sym (ended_at (suc f.count) (suc (loads_in (changes_of s.walker.names s.walker.history))) (changes_of s.walker.names s.walker.history) (place_of s) (all_named t.walker.names t.met) le (sym last.place ∙ end)) }

-- a telling or a statement of a pass leaves what is open
pub opened_same : (old : Writing) (writer : WriterState) → opened_in (with_writer old writer) ≡ opened_in old
opened_same (Resting old) writer = refl
opened_same (Changing change) writer = refl

-- the state with another place for one pass
pub state_placed : (old : Writing) (olds : List Slot) (new : Writing) (news : List Slot) (r : ℕ) (slot : Slot) (events : List Event) (place : Place) (state : State)
    → StateIs old olds state → new ≡ with_writer old (writer_of new) → (writer_of new).passes ≡ (writer_of old).passes → IsPut olds news r slot
    → events_of (writer_of new).names (writer_of new).history ≡ events → place_in slot ≡ place
    → StateIs new news (record { events = events; opened = state.opened; places = placed r place state.places })
state_placed old olds new news r slot events place state is same sized put made at = record {
  events = made;
  opened = ap opened_in same ∙ opened_same old (writer_of new) ∙ is.opened;
  places = λ k below. ⊎_elim
      (λ (e : k ≡ r). rw (e, eqb_same r) (ap place_in put.here ∙ at))
      (λ (n : k ≡ r → ⊥). rw (ne_eqb k r n) (ap place_in (put.others k n) ∙ is.places k (subst (λ m. k < m) sized below)))
      (cases_eq k r);
}

-- what the state says of changes and counts
pub state_changes : (writing : Writing) (slots : List Slot) (state : State) → StateIs writing slots state → changes_in state.events ≡ changes_of (writer_of writing).names (writer_of writing).history
state_changes writing slots state is = ap changes_in (sym is.events) ∙ events-changes (writer_of writing).names (writer_of writing).history

pub state_counts : (writing : Writing) (slots : List Slot) (state : State) → StateIs writing slots state → counts (noted_in state.events) ≡ counts (writer_of writing).history
state_counts writing slots state is = ap (λ (es : List Event). counts (noted_in es)) (sym is.events) ∙ events-counts (writer_of writing).names (writer_of writing).history

pub state_low : (writing : Writing) (slots : List Slot) (state : State) (p : ℕ) → StateIs writing slots state → counts (before_enter p (noted_in state.events)) ≡ counts (before_enter p (writer_of writing).history)
state_low writing slots state p is =
    let w : WriterState = writer_of writing in
    ap (λ (es : List Event). counts (before_enter p (noted_in es))) (sym is.events) ∙ ap counts (events-before p w.names w.history) ∙ events-counts w.names (before_enter p w.history)
