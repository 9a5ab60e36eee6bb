-- The statements of a pass, each between two tellings, and the turns of a run.
use Rattle.std.proofs.Common.{◌≡◌, ℕ, ◌<◌, Bool, false, List, [], ◌∷◌, length, refl, sym, ap, ◌∙◌, subst, arith}
use Rattle.std.proofs.lemmas.List.{length-map}
use Rattle.atomic_table.specs.Seated.{TableId}
use Rattle.plcr_machine.specs.declared.entry.Entry.{Entry}
use Rattle.plcr_machine.specs.declared.entry.Entry.TheVariants.{Announce, Enter, Leave, Retire}
use Rattle.plcr_machine.specs.declared.change.Named.{Named}
use Rattle.plcr_machine.specs.Lists.{Grows, loads}
use Rattle.plcr_machine.specs.Passes.{counts}
use Rattle.plcr_machine.specs.Holds.{before_enter}
use Rattle.plcr_machine.specs.Parts.{own_entries}
use Rattle.plcr_machine.specs.Histories.{IsHistory}
use Rattle.plcr_machine.specs.Changes.{named, all_named, TakesFirst, changes_of}
use Rattle.plcr_machine.specs.Events.{Event, Noted, events_of, changes_in, noted_in}
use Rattle.plcr_nodes.proofs.Seeing.{grows_again}
use Rattle.plcr_imagelist.specs.States.{WriterState}
use Rattle.plcr_imagelist.specs.Holds.{WalkerState, HoldState, IsWalking, IsHeld, IsReleased}
use Rattle.plcr_imagelist.specs.Carrying.{OnlySees}
use Rattle.plcr_imagelist.specs.Walk.{IsSameWalk}
use Rattle.plcr_imagelist.specs.Tellings.{note_of_writer, note_of_walker, IsWriterTold, IsWalkerTold, IsHoldTold}
use Rattle.plcr_imagelist.proofs.Sees.{met_named}
use Rattle.plcr_script.specs.declared.outcomes.Outcome.TheVariants as outcomes
use Rattle.plcr_script.specs.RunStates as states
use Rattle.plcr_script.specs.RunStates.{Place, State, entered, met_in, has_ended, walk, walked, walk_to_end, left, low_of, high_of}
use Rattle.plcr_script.specs.RunTurns.{walk_turn}
use Rattle.plcr_run.specs.declared.slots.Slot.{Slot}
use Rattle.plcr_run.specs.declared.slots.Slot.TheVariants.{Out, In}
use Rattle.plcr_run.specs.declared.writing.Writing.{Writing}
use Rattle.plcr_run.specs.inner.Slots.{slot_at, IsPut}
use Rattle.plcr_run.specs.inner.Tokens.{writer_of, with_writer, IsGoing, seen_in, IsKnown, IsPlaced, AreTokens, IsAll, place_in, StateIs, Goes, Turns, LeavesWith}
use Rattle.plcr_run.specs.Walks.{IsFurther, IsToEnd}
use Rattle.plcr_run.proofs.Still.{OneActs}
use Rattle.plcr_run.proofs.Steps.{went_in, WentOut, went_out, only_saw}
use Rattle.plcr_run.proofs.Acting.{IsActing, tokens_acting, ActsAlone, acting_alone, told_all}
use Rattle.plcr_run.proofs.Ties.{place_of, MeetsSame, further_same, EndsSame, to_end_same, state_placed, state_changes, state_counts, state_low}

-- the pass of a slot, as the tokens know it
pub known_out : (table : TableId) (old : Writing) (olds : List Slot) (r : ℕ) (pass : WalkerState) → AreTokens table old olds → r < length olds → slot_at olds r ≡ Out pass → IsKnown (writer_of old) r pass
known_out table old olds r pass tokens within was =
    let below : r < (writer_of old).passes = let count = tokens.count in omega arith in
    subst (λ (s : Slot). IsPlaced (writer_of old) r s) was (tokens.placed r below)

pub known_in : (table : TableId) (old : Writing) (olds : List Slot) (r : ℕ) (hold : HoldState) → AreTokens table old olds → r < length olds → slot_at olds r ≡ In hold → IsKnown (writer_of old) r hold.walker × IsWalking hold
known_in table old olds r hold tokens within was =
    let below : r < (writer_of old).passes = let count = tokens.count in omega arith in
    subst (λ (s : Slot). IsPlaced (writer_of old) r s) was (tokens.placed r below)

-- what is put into a slot, after it was taken from there
pub put_twice : (olds mids news : List Slot) (r : ℕ) (away slot : Slot) → IsPut olds mids r away → IsPut mids news r slot → IsPut olds news r slot
put_twice olds mids news r gone slot a b = record {
  count = b.count ∙ a.count;
  here = b.here;
  others = λ k n. b.others k n ∙ a.others k n;
}

-- the parts of what a writer that was told knows
pub told_sizes : (old : WriterState) (heard : WalkerState) (new : WriterState) → IsWriterTold old (note_of_walker heard) new → (new.nodes ≡ old.nodes) × (new.passes ≡ old.passes)
told_sizes old heard new t = (ap (λ (s : WriterState). s.nodes) t.now, ap (λ (s : WriterState). s.passes) t.now)

-- a pass went in
pub record EnterSteps (table : TableId) (old : Writing) (olds : List Slot) (r : ℕ) (pass told : WalkerState) (hold : HoldState) (new : Writing) (news : List Slot) : Type 0 where
  pub tokens : AreTokens table old olds
  pub within : r < length olds
  pub was : slot_at olds r ≡ Out pass
  pub hears : IsWalkerTold pass (note_of_writer (writer_of old)) told
  pub held : IsHeld told hold
  pub walking : IsWalking hold
  pub tells : IsWriterTold (writer_of old) (note_of_walker hold.walker) (writer_of new)
  pub goes : IsGoing new
  pub same : new ≡ with_writer old (writer_of new)
  pub put : IsPut olds news r (In hold)

held_numbers : (told : WalkerState) (hold : HoldState) → IsHeld told hold → (hold.walker.table ≡ told.table) × (hold.walker.nodes ≡ told.nodes) × (hold.walker.passes ≡ told.passes) × (hold.walker.number ≡ told.number)
held_numbers told hold h = (
  ap (λ (s : WalkerState). s.table) h.enter.now ∙ ap (λ (s : WalkerState). s.table) h.announce.now,
  ap (λ (s : WalkerState). s.nodes) h.enter.now ∙ ap (λ (s : WalkerState). s.nodes) h.announce.now,
  ap (λ (s : WalkerState). s.passes) h.enter.now ∙ ap (λ (s : WalkerState). s.passes) h.announce.now,
  ap (λ (s : WalkerState). s.number) h.enter.now ∙ ap (λ (s : WalkerState). s.number) h.announce.now,
)

enter_acting : (table : TableId) (old : Writing) (olds : List Slot) (r : ℕ) (pass told : WalkerState) (hold : HoldState) (new : Writing) (news : List Slot) → EnterSteps table old olds r pass told hold new news → IsActing old r pass told hold.walker new
enter_acting table old olds r pass told hold new news s = record {
  hears = s.hears;
  grows = s.held.grows;
  went = s.held.went;
  same = held_numbers told hold s.held;
  tells = s.tells;
  goes = s.goes;
}

pub enter_tokens : (table : TableId) (old : Writing) (olds : List Slot) (r : ℕ) (pass told : WalkerState) (hold : HoldState) (new : Writing) (news : List Slot) → EnterSteps table old olds r pass told hold new news → AreTokens table new news
enter_tokens table old olds r pass told hold new news s =
    tokens_acting table old olds r pass told hold.walker (In hold) new news s.tokens (known_out table old olds r pass s.tokens s.within s.was) (enter_acting table old olds r pass told hold new news s) s.put (λ k. (k, s.walking))

-- what a pass knows once it was told
told_knows : (old : WriterState) (r : ℕ) (pass told : WalkerState) → IsKnown old r pass → IsWalkerTold pass (note_of_writer old) told → (told.passes ≡ old.passes) × (told.number ≡ r) × IsHistory told.nodes told.passes told.history told.names
told_knows old r pass told known t = (
  ap (λ (s : WalkerState). s.passes) t.now ∙ known.passes,
  ap (λ (s : WalkerState). s.number) t.now ∙ known.number,
  subst (λ (s : WalkerState). IsHistory s.nodes s.passes s.history s.names) (sym t.now) t.sees.legal,
)

pub enter_goes : (table : TableId) (old : Writing) (olds : List Slot) (r : ℕ) (pass told : WalkerState) (hold : HoldState) (new : Writing) (news : List Slot) → EnterSteps table old olds r pass told hold new news → Goes old olds (entered r) new news
enter_goes table old olds r pass told hold new news s =
    let known = known_out table old olds r pass s.tokens s.within s.was in
    let acts = enter_acting table old olds r pass told hold new news s in
    let tokens' = enter_tokens table old olds r pass told hold new news s in
    let sizes = told_sizes (writer_of old) hold.walker (writer_of new) s.tells in
    let within : r < (writer_of old).passes = let count = s.tokens.count in let le = s.within in omega arith in
    let knows = told_knows (writer_of old) r pass told known s.hears in
    let alone : IsAll new news → ActsAlone old olds r told hold.walker new = λ all. acting_alone table old olds r pass told hold.walker (In hold) new news s.tokens within known (ap (λ (x : Slot). own_entries r (seen_in x)) s.was) acts s.put all in
    record {
      sizes = sizes;
      back = λ all. (alone all).all;
      state = λ all state is.
          let a = alone all in
          let went = went_in r told hold (writer_of new).history knows.1 knows.2.named s.held a.acts a.on in
          let last = told_all table old r pass told hold.walker new news tokens' (subst (λ m. r < m) (sym sizes.1) within) (ap seen_in s.put.here)
          (subst (λ (x : WalkerState). length x.names ≡ loads x.history) (sym went.now) (knows.2.named)) (ap (λ (x : WalkerState). x.passes) went.now ∙ knows.0 ∙ sym sizes.1) acts all
          (subst (λ m. OneActs m r hold.walker.history (writer_of new).history) (sym (ap (λ (x : WalkerState). x.passes) went.now)) went.acts) in
          let w : WriterState = writer_of old in
          let history : (writer_of new).history ≡ Enter r ∷ Announce r (counts w.history) ∷ w.history =
          last.history ∙ ap (λ (x : WalkerState). x.history) went.now ∙ ap (λ (h : List Entry). Enter r ∷ Announce r (counts h) ∷ h) a.history in
          let names : (writer_of new).names ≡ w.names = last.names ∙ ap (λ (x : WalkerState). x.names) went.now ∙ a.names in
          let events : events_of (writer_of new).names (writer_of new).history ≡ Noted (Enter r) ∷ Noted (Announce r (counts (noted_in state.events))) ∷ state.events =
          (λ i. events_of (names i) (history i)) ∙ (λ i. Noted (Enter r) ∷ Noted (Announce r (sym (state_counts old olds state is) i)) ∷ is.events i) in
          state_placed old olds new news r (In hold) (Noted (Enter r) ∷ Noted (Announce r (counts (noted_in state.events))) ∷ state.events) (states.In [] false) state is s.same sizes.1 s.put events
          (λ i. states.In (all_named hold.walker.names (s.held.start.0 i)) (s.held.start.1 i));
    }

-- a pass that is in was told, went on with its walk, or read images, and told
pub record InsideSteps (table : TableId) (old : Writing) (olds : List Slot) (r : ℕ) (hold told last : HoldState) (new : Writing) (news : List Slot) : Type 0 where
  pub tokens : AreTokens table old olds
  pub within : r < length olds
  pub was : slot_at olds r ≡ In hold
  pub hears : IsHoldTold hold (note_of_writer (writer_of old)) told
  pub sees : OnlySees hold.walker told.walker
  pub goes_on : OnlySees told.walker last.walker
  pub walking : IsWalking last
  pub tells : IsWriterTold (writer_of old) (note_of_walker last.walker) (writer_of new)
  pub goes : IsGoing new
  pub same : new ≡ with_writer old (writer_of new)
  pub put : IsPut olds news r (In last)

inside_acting : (table : TableId) (old : Writing) (olds : List Slot) (r : ℕ) (hold told last : HoldState) (new : Writing) (news : List Slot) → InsideSteps table old olds r hold told last new news → IsActing old r hold.walker told.walker last.walker new
inside_acting table old olds r hold told last new news s =
    let now = s.goes_on.now in
    record {
      hears = s.hears.walker;
      grows = s.goes_on.sees.added.grows;
      went = s.goes_on.sees.named;
      same = (ap (λ (w : WalkerState). w.table) now, ap (λ (w : WalkerState). w.nodes) now, ap (λ (w : WalkerState). w.passes) now, ap (λ (w : WalkerState). w.number) now);
      tells = s.tells;
      goes = s.goes;
    }

pub inside_tokens : (table : TableId) (old : Writing) (olds : List Slot) (r : ℕ) (hold told last : HoldState) (new : Writing) (news : List Slot) → InsideSteps table old olds r hold told last new news → AreTokens table new news
inside_tokens table old olds r hold told last new news s =
    let known = known_in table old olds r hold s.tokens s.within s.was in
    tokens_acting table old olds r hold.walker told.walker last.walker (In last) new news s.tokens known.0 (inside_acting table old olds r hold told last new news s) s.put (λ k. (k, s.walking))

-- where the writer has seen all afterwards, the hold that was told is what it was, with what the writer knows
pub record KnowsAll (old : Writing) (olds : List Slot) (r : ℕ) (hold told : HoldState) (new : Writing) : Type 0 where
  pub all : IsAll old olds
  pub history : told.walker.history ≡ (writer_of old).history
  pub names : told.walker.names ≡ (writer_of old).names
  pub place : place_of told ≡ place_of hold
  pub number : told.walker.number ≡ r
  pub legal : IsHistory told.walker.nodes told.walker.passes told.walker.history told.walker.names
  pub first : TakesFirst told.walker.history
  pub acts : OneActs told.walker.passes r told.walker.history (writer_of new).history

told_place : (hold told : HoldState) (old : WriterState) → IsWalking hold → IsHoldTold hold (note_of_writer old) told → OnlySees hold.walker told.walker → place_of told ≡ place_of hold
told_place hold told old walking hears sees =
    let met : told.met ≡ hold.met = ap (λ (h : HoldState). h.met) hears.same in
    let ended : told.ended ≡ hold.ended = ap (λ (h : HoldState). h.ended) hears.same in
    let named : all_named told.walker.names hold.met ≡ all_named hold.walker.names hold.met = met_named hold told.walker walking sees in
    (λ i. states.In (all_named told.walker.names (met i)) (ended i)) ∙ ap (λ (l : List Named). states.In l hold.ended) named

pub knows_all : (table : TableId) (old : Writing) (olds : List Slot) (r : ℕ) (hold told : HoldState) (last : WalkerState) (slot : Slot) (new : Writing) (news : List Slot) → AreTokens table old olds → r < length olds → slot_at olds r ≡ In hold
    → IsHoldTold hold (note_of_writer (writer_of old)) told → OnlySees hold.walker told.walker → IsActing old r hold.walker told.walker last new → IsPut olds news r slot → IsAll new news → KnowsAll old olds r hold told new × Grows last.history (writer_of new).history
knows_all table old olds r hold told last slot new news tokens within was hears sees acts put all =
    let known = known_in table old olds r hold tokens within was in
    let below : r < (writer_of old).passes = let count = tokens.count in omega arith in
    let a = acting_alone table old olds r hold.walker told.walker last slot new news tokens below known.0 (ap (λ (x : Slot). own_entries r (seen_in x)) was) acts put all in
    let knows = told_knows (writer_of old) r hold.walker told.walker known.0 hears.walker in (
      record {
        all = a.all;
        history = a.history;
        names = a.names;
        place = told_place hold told (writer_of old) known.1 hears sees;
        number = knows.1;
        legal = knows.2;
        first = subst (λ (h : List Entry). TakesFirst h) (sym a.history) tokens.lists.first;
        acts = a.acts;
      },
      a.on,
    )

met_count : (h : HoldState) (place : Place) → place_of h ≡ place → (length h.met ≡ length (met_in place)) × (h.ended ≡ has_ended place)
met_count h place e =
    (sym (length-map h.met (named h.walker.names)) ∙ ap (λ (p : Place). length (met_in p)) e, ap (λ (p : Place). has_ended p) e)

pub walk_turns : (table : TableId) (old : Writing) (olds : List Slot) (r most : ℕ) (hold told last : HoldState) (new : Writing) (news : List Slot) (met : ℕ) (ended : Bool) → InsideSteps table old olds r hold told last new news
    → IsFurther told most last → met ≡ length last.met → ended ≡ last.ended → Turns old olds (walk_turn r most) new news (outcomes.Walked r met ended)
walk_turns table old olds r most hold told last new news met ended s further met_is ended_is =
    let acts = inside_acting table old olds r hold told last new news s in
    let tokens' = inside_tokens table old olds r hold told last new news s in
    let sizes = told_sizes (writer_of old) last.walker (writer_of new) s.tells in
    let knows : IsAll new news → KnowsAll old olds r hold told new × Grows last.walker.history (writer_of new).history = λ all. knows_all table old olds r hold told last.walker (In last) new news s.tokens s.within s.was s.hears s.sees acts s.put all in
    let walks : IsAll new news → MeetsSame told last most = λ all. let k = knows all in further_same r most told last (writer_of new).history k.0.number k.0.legal k.0.first further k.0.acts k.1 in
    let at : IsAll new news → (state : State) → StateIs old olds state → place_of last ≡ walk most (changes_in state.events) (state.places r) =
    λ all state is.
    let k = (knows all).0 in
    let below : r < (writer_of old).passes = let count = s.tokens.count in let le = s.within in omega arith in
    let place : place_of told ≡ state.places r = k.place ∙ sym (ap place_in s.was) ∙ is.places r below in
    let changed : changes_of told.walker.names told.walker.history ≡ changes_in state.events = (λ i. changes_of (k.names i) (k.history i)) ∙ sym (state_changes old olds state is) in
    (walks all).place ∙ (λ i. walk most (changed i) (place i)) in
    record {
      goes = record {
        sizes = sizes;
        back = λ all. (knows all).0.all;
        state = λ all state is.
            let k = (knows all).0 in
            let m = walks all in
            let passes' : last.walker.passes ≡ (writer_of new).passes = ap (λ (x : WalkerState). x.passes) m.walker ∙ (told_knows (writer_of old) r hold.walker told.walker (known_in table old olds r hold s.tokens s.within s.was).0 s.hears.walker).0 ∙ sym sizes.1 in
            let below : r < (writer_of new).passes = let count = tokens'.count in let le = s.within in let same = s.put.count in omega arith in
            let end = told_all table old r hold.walker told.walker last.walker new news tokens' below (ap seen_in s.put.here)
            (subst (λ (x : WalkerState). length x.names ≡ loads x.history) (sym m.walker) k.legal.named) passes' acts all
            (subst (λ (x : WalkerState). OneActs x.passes r x.history (writer_of new).history) (sym m.walker) k.acts) in
            let history : (writer_of new).history ≡ (writer_of old).history = end.history ∙ ap (λ (x : WalkerState). x.history) m.walker ∙ k.history in
            let names : (writer_of new).names ≡ (writer_of old).names = end.names ∙ ap (λ (x : WalkerState). x.names) m.walker ∙ k.names in
            state_placed old olds new news r (In last) state.events (walk most (changes_in state.events) (state.places r)) state is s.same sizes.1 s.put ((λ i. events_of (names i) (history i)) ∙ is.events) (at all state is);
      };
      outcome = λ all state is.
          let counted = met_count last (walk most (changes_in state.events) (state.places r)) (at all state is) in
          λ i. outcomes.Walked r ((met_is ∙ counted.0) i) ((ended_is ∙ counted.1) i);
    }

-- a pass that is in was told, came out, and told
pub record LeaveSteps (table : TableId) (old : Writing) (olds : List Slot) (r : ℕ) (hold told : HoldState) (pass : WalkerState) (low high : ℕ) (new : Writing) (news : List Slot) : Type 0 where
  pub tokens : AreTokens table old olds
  pub within : r < length olds
  pub was : slot_at olds r ≡ In hold
  pub hears : IsHoldTold hold (note_of_writer (writer_of old)) told
  pub sees : OnlySees hold.walker told.walker
  pub released : IsReleased told pass low high
  pub tells : IsWriterTold (writer_of old) (note_of_walker pass) (writer_of new)
  pub goes : IsGoing new
  pub same : new ≡ with_writer old (writer_of new)
  pub put : IsPut olds news r (Out pass)

leave_acting : (table : TableId) (old : Writing) (olds : List Slot) (r : ℕ) (hold told : HoldState) (pass : WalkerState) (low high : ℕ) (new : Writing) (news : List Slot) → LeaveSteps table old olds r hold told pass low high new news → IsActing old r hold.walker told.walker pass new
leave_acting table old olds r hold told pass low high new news s =
    let l = s.released.leave.now in
    let t = s.released.retire.now in
    record {
      hears = s.hears.walker;
      grows = s.released.grows;
      went = s.released.went;
      same = (
        ap (λ (w : WalkerState). w.table) t ∙ ap (λ (w : WalkerState). w.table) l,
        ap (λ (w : WalkerState). w.nodes) t ∙ ap (λ (w : WalkerState). w.nodes) l,
        ap (λ (w : WalkerState). w.passes) t ∙ ap (λ (w : WalkerState). w.passes) l,
        ap (λ (w : WalkerState). w.number) t ∙ ap (λ (w : WalkerState). w.number) l,
      );
      tells = s.tells;
      goes = s.goes;
    }

pub leave_tokens : (table : TableId) (old : Writing) (olds : List Slot) (r : ℕ) (hold told : HoldState) (pass : WalkerState) (low high : ℕ) (new : Writing) (news : List Slot) → LeaveSteps table old olds r hold told pass low high new news → AreTokens table new news
leave_tokens table old olds r hold told pass low high new news s =
    let known = known_in table old olds r hold s.tokens s.within s.was in
    tokens_acting table old olds r hold.walker told.walker pass (Out pass) new news s.tokens known.0 (leave_acting table old olds r hold told pass low high new news s) s.put (λ k. k)

-- where the writer has seen all afterwards, it knew all before, and the pass came out behind what it knew
record ComesOut (old : Writing) (olds : List Slot) (r : ℕ) (hold told : HoldState) (pass : WalkerState) (high : ℕ) (new : Writing) : Type 0 where
  pub knows : KnowsAll old olds r hold told new
  pub high_is : high ≡ counts told.walker.history
  pub out : WentOut r told.walker pass (writer_of new).history

comes_out : (table : TableId) (old : Writing) (olds : List Slot) (r : ℕ) (hold told : HoldState) (pass : WalkerState) (low high : ℕ) (new : Writing) (news : List Slot) → LeaveSteps table old olds r hold told pass low high new news → IsAll new news → ComesOut old olds r hold told pass high new
comes_out table old olds r hold told pass low high new news s all =
    let acts = leave_acting table old olds r hold told pass low high new news s in
    let k = knows_all table old olds r hold told pass (Out pass) new news s.tokens s.within s.was s.hears s.sees acts s.put all in
    let out = went_out r told pass low high (writer_of new).history k.0.number k.0.legal.named s.released k.0.acts k.1 in
    record { knows = k.0; high_is = out.0; out = out.1 }

pub leave_goes : (table : TableId) (old : Writing) (olds : List Slot) (r : ℕ) (hold told : HoldState) (pass : WalkerState) (low high : ℕ) (new : Writing) (news : List Slot) → LeaveSteps table old olds r hold told pass low high new news → Goes old olds (left r) new news
leave_goes table old olds r hold told pass low high new news s =
    let acts = leave_acting table old olds r hold told pass low high new news s in
    let tokens' = leave_tokens table old olds r hold told pass low high new news s in
    let sizes = told_sizes (writer_of old) pass (writer_of new) s.tells in
    record {
      sizes = sizes;
      back = λ all. (comes_out table old olds r hold told pass low high new news s all).knows.all;
      state = λ all state is.
          let o = comes_out table old olds r hold told pass low high new news s all in
          let now = o.out.now in
          let passes' : pass.passes ≡ (writer_of new).passes = ap (λ (x : WalkerState). x.passes) now ∙ (told_knows (writer_of old) r hold.walker told.walker (known_in table old olds r hold s.tokens s.within s.was).0 s.hears.walker).0 ∙ sym sizes.1 in
          let below : r < (writer_of new).passes = let count = tokens'.count in let le = s.within in let same = s.put.count in omega arith in
          let end = told_all table old r hold.walker told.walker pass new news tokens' below (ap seen_in s.put.here)
          (subst (λ (x : WalkerState). length x.names ≡ loads x.history) (sym now) o.knows.legal.named) passes' acts all
          (subst (λ m. OneActs m r pass.history (writer_of new).history) (sym (ap (λ (x : WalkerState). x.passes) now)) o.out.acts) in
          let w : WriterState = writer_of old in
          let history : (writer_of new).history ≡ Retire r ∷ Leave r ∷ w.history = end.history ∙ ap (λ (x : WalkerState). x.history) now ∙ ap (λ (h : List Entry). Retire r ∷ Leave r ∷ h) o.knows.history in
          let names : (writer_of new).names ≡ w.names = end.names ∙ ap (λ (x : WalkerState). x.names) now ∙ o.knows.names in
          state_placed old olds new news r (Out pass) (Noted (Retire r) ∷ Noted (Leave r) ∷ state.events) states.Out state is s.same sizes.1 s.put
          ((λ i. events_of (names i) (history i)) ∙ ap (λ (es : List Event). Noted (Retire r) ∷ Noted (Leave r) ∷ es) is.events) refl;
    }

pub leave_tells : (table : TableId) (old : Writing) (olds : List Slot) (r : ℕ) (hold told : HoldState) (pass : WalkerState) (low high : ℕ) (new : Writing) (news : List Slot) (met : ℕ) → LeaveSteps table old olds r hold told pass low high new news → met ≡ length told.met → LeavesWith old olds r new news met low high
leave_tells table old olds r hold told pass low high new news met s met_is = λ all state is.
    let o = comes_out table old olds r hold told pass low high new news s all in
    let k = o.knows in
    let below : r < (writer_of old).passes = let count = s.tokens.count in let le = s.within in omega arith in
    let place : place_of told ≡ state.places r = k.place ∙ sym (ap place_in s.was) ∙ is.places r below in (
      met_is ∙ (met_count told (state.places r) place).0,
      s.released.low_is ∙ (λ i. counts (before_enter (k.number i) (k.history i))) ∙ sym (state_low old olds state r is),
      o.high_is ∙ ap counts k.history ∙ sym (state_counts old olds state is),
    )

-- a walk whose images were read is where it was
pub read_place : (s t : HoldState) → IsSameWalk s t → t.walker ≡ s.walker → place_of t ≡ place_of s
read_place s t k w = λ i. states.In (all_named (w i).names (k.met i)) (k.ended i)

-- a pass that is in was told, went to the end of its walk, had its images read, and told
pub saved_goes : (table : TableId) (old : Writing) (olds : List Slot) (r : ℕ) (hold told walked' last : HoldState) (new : Writing) (news : List Slot) → InsideSteps table old olds r hold told last new news
    → IsToEnd told walked' → IsWalking walked' → OnlySees walked'.walker last.walker → IsSameWalk walked' last
    → Goes old olds (λ state. walked r (walk_to_end (changes_in state.events) (state.places r)) state) new news
saved_goes table old olds r hold told walked' last new news s to_end walking reads same =
    let acts = inside_acting table old olds r hold told last new news s in
    let tokens' = inside_tokens table old olds r hold told last new news s in
    let sizes = told_sizes (writer_of old) last.walker (writer_of new) s.tells in
    let knows : IsAll new news → KnowsAll old olds r hold told new × Grows last.walker.history (writer_of new).history = λ all. knows_all table old olds r hold told last.walker (In last) new news s.tokens s.within s.was s.hears s.sees acts s.put all in
    let ends : IsAll new news → EndsSame told walked' = λ all. let k = knows all in
    to_end_same r told walked' (writer_of new).history k.0.number k.0.legal k.0.first to_end walking k.0.acts (grows_again walked'.walker.history last.walker.history (writer_of new).history reads.sees.added.grows k.1) in
    let still : IsAll new news → last.walker ≡ walked'.walker = λ all.
    let k = knows all in
    let e = (ends all).walker in
    only_saw r walked'.walker last.walker (writer_of new).history (ap (λ (x : WalkerState). x.number) e ∙ k.0.number) (subst (λ (x : WalkerState). length x.names ≡ loads x.history) (sym e) k.0.legal.named) reads
    (subst (λ (x : WalkerState). OneActs x.passes r x.history (writer_of new).history) (sym e) k.0.acts) k.1 in
    record {
      sizes = sizes;
      back = λ all. (knows all).0.all;
      state = λ all state is.
          let k = (knows all).0 in
          let m = still all ∙ (ends all).walker in
          let below' : r < (writer_of old).passes = let count = s.tokens.count in let le = s.within in omega arith in
          let passes' : last.walker.passes ≡ (writer_of new).passes = ap (λ (x : WalkerState). x.passes) m ∙ (told_knows (writer_of old) r hold.walker told.walker (known_in table old olds r hold s.tokens s.within s.was).0 s.hears.walker).0 ∙ sym sizes.1 in
          let below : r < (writer_of new).passes = let count = tokens'.count in let le = s.within in let same = s.put.count in omega arith in
          let end = told_all table old r hold.walker told.walker last.walker new news tokens' below (ap seen_in s.put.here)
          (subst (λ (x : WalkerState). length x.names ≡ loads x.history) (sym m) k.legal.named) passes' acts all
          (subst (λ (x : WalkerState). OneActs x.passes r x.history (writer_of new).history) (sym m) k.acts) in
          let history : (writer_of new).history ≡ (writer_of old).history = end.history ∙ ap (λ (x : WalkerState). x.history) m ∙ k.history in
          let names : (writer_of new).names ≡ (writer_of old).names = end.names ∙ ap (λ (x : WalkerState). x.names) m ∙ k.names in
          let place : place_of told ≡ state.places r = k.place ∙ sym (ap place_in s.was) ∙ is.places r below' in
          let changed : changes_of told.walker.names told.walker.history ≡ changes_in state.events = (λ i. changes_of (k.names i) (k.history i)) ∙ sym (state_changes old olds state is) in
          state_placed old olds new news r (In last) state.events (walk_to_end (changes_in state.events) (state.places r)) state is s.same sizes.1 s.put ((λ i. events_of (names i) (history i)) ∙ is.events)
          (read_place walked' last same (still all) ∙ (ends all).place ∙ (λ i. walk_to_end (changed i) (place i)));
    }
