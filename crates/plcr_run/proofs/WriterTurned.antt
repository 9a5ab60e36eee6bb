-- The statements of the writer, and the turns of a run.
use Rattle.std.proofs.Common.{◌≡◌, ◌≢◌, ℕ, zero, suc, ◌+◌, ◌-◌, ◌*◌, ◌/◌, ◌<◌, ◌≤◌, true, false, List, [], ◌∷◌, length, Option, Some, None, Result, Ok, Err, cond, refl, sym, ap, ◌∙◌, subst, ⊎_elim, arith}
use Rattle.std.proofs.lemmas.Bool.{cases_eq}
use Rattle.std.proofs.lemmas.List.{length-map}
use Rattle.std.specs.Prelude.{if◌then◌else◌}
use Rattle.atomic_table.specs.Seated.{TableId}
use Rattle.plcr_base.specs.declared.limits.TheConstants.{IMAGE_NAME_BYTES}
use Rattle.plcr_machine.specs.declared.limits.TheConstants.{MOST_CHANGES, COUNT_UNIT}
use Rattle.plcr_machine.specs.declared.image.Image.{Image}
use Rattle.plcr_machine.specs.declared.entry.Entry.{Entry}
use Rattle.plcr_machine.specs.declared.entry.Entry.TheVariants.{Count}
use Rattle.plcr_machine.specs.declared.change.Named.{Named}
use Rattle.plcr_machine.specs.declared.change.Change.{Change}
use Rattle.plcr_machine.specs.declared.change.Change.TheVariants.{Loads as LoadsNamed, Unloads as UnloadsFirst}
use Rattle.plcr_machine.specs.Lists.{Grows, live, loads, changes}
use Rattle.plcr_machine.specs.Passes.{announced_count, is_announced}
use Rattle.plcr_machine.specs.Parts.{own_entries}
use Rattle.plcr_machine.specs.Histories.{IsHistory}
use Rattle.plcr_machine.specs.Changes.{named, list_of}
use Rattle.plcr_machine.specs.Events.{Event, Changed, Noted, events_of, changes_in, noted_in, looks}
use Rattle.plcr_machine.proofs.Insiders.{count_below-same}
use Rattle.plcr_machine.proofs.ListsMade.{lists_made}
use Rattle.plcr_machine.proofs.EventsMade.{events-changes, events-announced, look_events}
use Rattle.plcr_imagelist.specs.declared.refusals.LoadRefused.{LoadRefused}
use Rattle.plcr_imagelist.specs.declared.refusals.LoadRefused.TheVariants.{Full, NameTooLong, Worn}
use Rattle.plcr_imagelist.specs.declared.refusals.UnloadRefused.{UnloadRefused}
use Rattle.plcr_imagelist.specs.declared.refusals.UnloadRefused.TheVariants as unload_refusals
use Rattle.plcr_imagelist.specs.Finding.{first_with}
use Rattle.plcr_imagelist.specs.States.{WriterState, Loads, Unloads, ChangeState, IsAtRest, steps_of}
use Rattle.plcr_imagelist.specs.Changes.{Looks, FindsNode, AtOnce, AfterLooks, IsBegunLoad, begun_load}
use Rattle.plcr_imagelist.specs.Refusing.{IsFull}
use Rattle.plcr_imagelist.specs.Loading.{IsLoaded, IsUnloaded, LoadsOrRefuses, UnloadsOrRefuses}
use Rattle.plcr_imagelist.specs.Steps.{BeginsLoad, BeginsUnload, begun_unload}
use Rattle.plcr_imagelist.specs.Listing.{HasLists, change_of}
use Rattle.plcr_imagelist.proofs.Changed.{has_lists}
use Rattle.plcr_imagelist.proofs.Looking.{looks_only}
use Rattle.plcr_script.specs.declared.outcomes.Outcome.{Outcome}
use Rattle.plcr_script.specs.declared.outcomes.Outcome.TheVariants as outcomes
use Rattle.plcr_script.specs.Meanings.{Meanings}
use Rattle.plcr_script.specs.RunChanges.{Plan, planned_load, planned_unload}
use Rattle.plcr_script.specs.RunStates.{Opened, Place, State, is_full, searched, stepped, steps, steps_left}
use Rattle.plcr_script.specs.RunTurns.{Turn, load_turn, unload_turn, comes_to, full, with_node, unless_refused, made_whole, left_open}
use Rattle.plcr_run.specs.declared.slots.Slot.{Slot}
use Rattle.plcr_run.specs.declared.writing.Writing.{Writing}
use Rattle.plcr_run.specs.declared.writing.Writing.TheVariants.{Resting, Changing}
use Rattle.plcr_run.specs.inner.Slots.{slot_at}
use Rattle.plcr_run.specs.inner.Tokens.{writer_of, IsGoing, seen_in, AreTokens, IsAll, opened_by, opened_in, StateIs}
use Rattle.plcr_run.specs.inner.Changes.{WriterTurns, refused_load, said_by_load, refused_unload, said_by_unload}
use Rattle.plcr_machine.proofs.Between.{own_between}
use Rattle.plcr_run.proofs.Still.{OwnerActs}
use Rattle.plcr_run.proofs.Acting.{placed_later, placed_seen}
use Rattle.plcr_run.proofs.Owning.{WriterWent, stepped_store, stepped_change, stepped_count, counted_made, loaded_made, unloaded_made, LooksMade, looks_went, looks_made, full_none, full_free, counted_went, loaded_went, looked-announced}
use Rattle.plcr_nodes.proofs.Seeing.{grows_again}
use Rattle.plcr_run.proofs.WriterWent.{went_same_writer, short_or_long, finds_went, loads_went, unloads_went}
use Rattle.plcr_run.proofs.Planned.{changes_known, planned_worn, planned_long, planned_fine, plan_of, first_header, unplanned_worn, unplanned_none, unplanned_one}

-- the tokens after the writer went on
pub tokens_writer : (table : TableId) (old new : Writing) (slots : List Slot) → AreTokens table old slots → WriterWent (writer_of old) (writer_of new) → HasLists (writer_of new) → IsGoing new → AreTokens table new slots
tokens_writer table old new slots tokens w lists going = record {
  list = w.table ∙ tokens.list;
  none = w.joined ∙ tokens.none;
  lists = lists;
  going = going;
  count = tokens.count ∙ sym w.passes;
  placed = λ k below. placed_later (writer_of old) (writer_of new) k (slot_at slots k) w.table w.nodes w.passes w.grows w.went (tokens.placed k (subst (λ m. k < m) w.passes below));
}

-- where the writer has seen all afterwards, it had before, and the passes did nothing
pub alone_writer : (table : TableId) (old new : Writing) (slots : List Slot) → AreTokens table old slots → WriterWent (writer_of old) (writer_of new) → IsAll new slots → IsAll old slots × OwnerActs (writer_of old).passes (writer_of old).history (writer_of new).history
alone_writer table old new slots tokens w all =
    let s : WriterState = writer_of old in
    let t : WriterState = writer_of new in
    let whole : (k : ℕ) → k < s.passes → own_entries k t.history ≡ own_entries k (seen_in (slot_at slots k)) = λ k below. all k (subst (λ m. k < m) (sym w.passes) below) in
    let mid : (k : ℕ) → k < s.passes → own_entries k s.history ≡ own_entries k (seen_in (slot_at slots k)) = λ k below. own_between k (seen_in (slot_at slots k)) s.history t.history (placed_seen s k (slot_at slots k) (tokens.placed k below)) w.grows (whole k below) in
    (mid, record { grows = w.grows; own = λ k below. whole k below ∙ sym (mid k below) })

-- the state that tokens stand for, with these places
abbrev pub the_state : Writing → (ℕ → Place) → State
the_state writing places = record { events = events_of (writer_of writing).names (writer_of writing).history; opened = opened_in writing; places = places }

-- a turn that leaves this writing, and this is its outcome
pub record TurnIs (turn : Turn) (new : Writing) (places : ℕ → Place) (said : Outcome) : Type 0 where
  pub state : turn.state ≡ the_state new places
  pub outcome : said ≡ turn.outcome

-- what a turn knows of the writer
pub record Knows (old : Writing) (top : List Entry) : Type 0 where
  pub lists : HasLists (writer_of old)
  pub going : IsGoing old
  pub acts : OwnerActs (writer_of old).passes (writer_of old).history top

pub writer_turns : (table : TableId) (old new : Writing) (turn : ℕ → ℕ → State → Turn) (said : Outcome) → WriterWent (writer_of old) (writer_of new) → HasLists (writer_of new) → (IsGoing old → IsGoing new)
    → ((places : ℕ → Place) → Knows old (writer_of new).history → TurnIs (turn (writer_of old).nodes (writer_of old).passes (the_state old places)) new places said) → WriterTurns table old turn new said
writer_turns table old new turn said w lists going exact slots tokens =
    let n : ℕ = (writer_of old).nodes in
    let p : ℕ = (writer_of old).passes in
    let at : (state : State) → StateIs old slots state → the_state old state.places ≡ state = λ state is. λ i. record { events = is.events i; opened = is.opened i; places = state.places } in
    let does : IsAll new slots → (state : State) → TurnIs (turn n p (the_state old state.places)) new state.places said = λ all state. exact state.places (record { lists = tokens.lists; going = tokens.going; acts = (alone_writer table old new slots tokens w all).1 }) in (
      tokens_writer table old new slots tokens w lists (going tokens.going),
      record {
        goes = record {
          sizes = (w.nodes, w.passes);
          back = λ all. (alone_writer table old new slots tokens w all).0;
          state = λ all state is.
              let t = does all state in
              let after : (turn n p state).state ≡ the_state new state.places = ap (λ (s : State). (turn n p s).state) (sym (at state is)) ∙ t.state in
              subst (λ (s : State). StateIs new slots s) (sym after) (record { events = refl; opened = refl; places = λ k below. is.places k (subst (λ m. k < m) w.passes below) });
        };
        outcome = λ all state is. (does all state).outcome ∙ ap (λ (s : State). (turn n p s).outcome) (at state is);
      },
    )

-- all steps of a change
steps_none : (plan : Plan) (more : ℕ) (events : List Event) → more ≤ plan.before → steps (record { plan = plan; made = 0 }) more events ≡ events
steps_none plan zero events le = refl
steps_none plan (suc more) events le =
    let rest = steps_none plan more events (omega arith) in
    let first : 0 + more ≡ more = omega arith in
    ap (λ (es : List Event). stepped plan (0 + more) es) rest ∙ stepped_store plan (0 + more) events (omega arith)

pub steps_whole : (plan : Plan) (events : List Event) → steps (record { plan = plan; made = 0 }) (steps_left (record { plan = plan; made = 0 })) events ≡ Noted Count ∷ Changed plan.change ∷ events
steps_whole plan events =
    let o : Opened = record { plan = plan; made = 0 } in
    let all : steps_left o ≡ suc (suc plan.before) = omega arith in
    let change : steps o (suc plan.before) events ≡ Changed plan.change ∷ events = ap (λ (es : List Event). stepped plan (0 + plan.before) es) (steps_none plan plan.before events (omega arith)) ∙ stepped_change plan (0 + plan.before) events (omega arith) in
    ap (λ n. steps o n events) all ∙ ap (λ (es : List Event). stepped plan (0 + suc plan.before) es) change ∙ stepped_count plan (0 + suc plan.before) (Changed plan.change ∷ events) (omega arith)

-- a node for a load was found, as a run says
pub record Found (old ready : WriterState) (top : List Entry) : Type 0 where
  pub events : searched old.nodes old.passes (events_of old.names old.history) ≡ events_of ready.names ready.history
  pub room : is_full old.nodes old.passes (events_of ready.names ready.history) ≡ false
  pub acts : OwnerActs ready.passes ready.history top
  pub known : IsHistory ready.nodes ready.passes ready.history ready.names
  pub loaded : loads ready.history ≡ loads old.history

looks_known : (pass : ℕ) (old : WriterState) (found : ℕ) (new : WriterState) → Looks pass old found new → IsHistory old.nodes old.passes old.history old.names → IsHistory new.nodes new.passes new.history new.names
looks_known zero old found new l k = subst (λ (s : WriterState). IsHistory s.nodes s.passes s.history s.names) (sym l.0) k
looks_known (suc pass) old found new (mid, less, stamp, before, look, sum) k = look.legal

searched_full : (n p : ℕ) (events : List Event) → is_full n p events ≡ true → searched n p events ≡ looks p events
searched_full n p events e = ap (λ b. cond b (looks p events) events) e

searched_room : (n p : ℕ) (events : List Event) → is_full n p events ≡ false → searched n p events ≡ events
searched_room n p events e = ap (λ b. cond b (looks p events) events) e

-- the looks of a run are those of the writer
looks_events : (old new : WriterState) (found : ℕ) (top : List Entry) → LooksMade old.passes old new found top → looks old.passes (events_of old.names old.history) ≡ events_of new.names new.history
looks_events old new found top m = sym (look_events old.passes old.names old.history) ∙ (λ i. events_of (sym m.names i) (sym m.history i))

looks_lists : (old new : WriterState) (found : ℕ) → HasLists old → Looks old.passes old found new → HasLists new
looks_lists old new found k l = has_lists new (looks_known old.passes old found new l k.known) ((looks_only old.passes old found new l).first k.first)

pub found_node : (old : WriterState) (node : ℕ) (ready : WriterState) (top : List Entry) → HasLists old → FindsNode old node ready → OwnerActs old.passes old.history top → Grows ready.history top → Found old ready top
found_node old node ready top k (AtOnce free same) o on =
    let room = full_free old node k free in
    subst (λ (s : WriterState). Found old s top) (sym same) (record { events = searched_room old.nodes old.passes (events_of old.names old.history) room; room = room; acts = o; known = k.known; loaded = refl })
found_node old node ready top k (AfterLooks none found l free) o on =
    let m = looks_made old.passes old found ready top k.known.named l o on in
    let w = looks_went old.passes old found ready l in
    let lists = looks_lists old ready found k l in
    let room = full_free ready node lists free in
    record {
      events = searched_full old.nodes old.passes (events_of old.names old.history) (full_none old k none) ∙ looks_events old ready found top m;
      room = (λ i. is_full (sym w.nodes i) (sym w.passes i) (events_of ready.names ready.history)) ∙ room;
      acts = subst (λ n. OwnerActs n ready.history top) (sym w.passes) m.acts;
      known = lists.known;
      loaded = (looks_only old.passes old found ready l).loaded;
    }

-- what is done with a load, by whether a node is free
abbrev refused_full : (n p : ℕ) → State → Turn
refused_full n p s = comes_to (full n p s.events) s

abbrev chosen : (n p : ℕ) → (Plan → State → Turn) → Plan → State → Turn
chosen n p done plan s = if is_full n p s.events then refused_full n p s else done plan s

-- one that found a node
accepted_at : (n p : ℕ) (done : Plan → State → Turn) (plan : Plan) (s : State) (events : List Event) → searched n p s.events ≡ events → is_full n p events ≡ false
    → with_node n p done plan s ≡ done plan (record s { events = events })
accepted_at n p done plan s events found room =
    ap (λ (es : List Event). chosen n p done plan (record s { events = es })) found ∙ ap (λ b. cond b (refused_full n p (record s { events = events })) (done plan (record s { events = events }))) room

-- one that found no node
refused_at : (n p : ℕ) (done : Plan → State → Turn) (plan : Plan) (s : State) (events : List Event) → searched n p s.events ≡ events → is_full n p events ≡ true
    → with_node n p done plan s ≡ refused_full n p (record s { events = events })
refused_at n p done plan s events found room =
    ap (λ (es : List Event). chosen n p done plan (record s { events = es })) found ∙ ap (λ b. cond b (refused_full n p (record s { events = events })) (done plan (record s { events = events }))) room

-- a turn by another one that is the same
pub turn_by : (a b : Turn) (new : Writing) (places : ℕ → Place) (said : Outcome) → a ≡ b → TurnIs b new places said → TurnIs a new places said
turn_by a b new places said e t = subst (λ (x : Turn). TurnIs x new places said) (sym e) t

-- a whole load
loaded_turn : (old new : WriterState) (header : ℕ) (name : List ℕ) (number : ℕ) (places : ℕ → Place) → HasLists old → IsLoaded old header name number new → OwnerActs old.passes old.history new.history
    → TurnIs (with_node old.nodes old.passes made_whole (plan_of old header name) (the_state (Resting old) places)) (Resting new) places (outcomes.Loaded number)
loaded_turn old new header name number places k l o =
    let top : List Entry = new.history in
    let counted = counted_went l.linked new l.count in
    let linked = loaded_went l.ready header name number l.node l.linked l.link in
    let on_linked : Grows l.linked.history top = counted.grows in
    let on_ready : Grows l.ready.history top = grows_again l.ready.history l.linked.history top linked.grows on_linked in
    let f = found_node old l.node l.ready top k l.finds o on_ready in
    let first = loaded_made l.ready header name number l.node l.linked top f.known l.link f.acts on_linked in
    let last = counted_made l.linked new top first.1.named l.count first.1.acts ([], refl) in
    let plan : Plan = plan_of old header name in
    let is : number ≡ suc (loads old.history) = l.number_is in
    let changed : change_of (Loads header name) number ≡ plan.change = ap (λ m. LoadsNamed (record { load = m; header = header; name = name })) is in
    let events : steps (record { plan = plan; made = 0 }) (steps_left (record { plan = plan; made = 0 })) (events_of l.ready.names l.ready.history) ≡ events_of new.names new.history =
    steps_whole plan (events_of l.ready.names l.ready.history) ∙ sym (last.made ∙ ap (λ (es : List Event). Noted Count ∷ es) (first.1.made ∙ ap (λ (c : Change). Changed c ∷ events_of l.ready.names l.ready.history) changed)) in
    turn_by _ _ (Resting new) places (outcomes.Loaded number) (accepted_at old.nodes old.passes made_whole plan (the_state (Resting old) places) (events_of l.ready.names l.ready.history) f.events f.room)
    (record { state = λ i. record { events = events i; opened = None; places = places }; outcome = ap outcomes.Loaded is })

-- a load that found no free node
full_turn : (old new : WriterState) (lives held seen : ℕ) (done : Plan → State → Turn) (plan : Plan) (places : ℕ → Place) → HasLists old → IsFull old lives held seen new → OwnerActs old.passes old.history new.history
    → TurnIs (with_node old.nodes old.passes done plan (the_state (Resting old) places)) (Resting new) places (outcomes.Full lives held seen)
full_turn old new lives held seen done plan places k f o =
    let m = looks_made old.passes old f.announced new new.history k.known.named f.looks o ([], refl) in
    let w = looks_went old.passes old f.announced new f.looks in
    let lists = looks_lists old new f.announced k f.looks in
    let events = searched_full old.nodes old.passes (events_of old.names old.history) (full_none old k f.none) ∙ looks_events old new f.announced new.history m in
    let room : is_full old.nodes old.passes (events_of new.names new.history) ≡ true = (λ i. is_full (sym w.nodes i) (sym w.passes i) (events_of new.names new.history)) ∙ full_none new lists f.still in
    let es : List Event = events_of new.names new.history in
    let live_is : length (list_of (changes_in es)) ≡ lives =
    ap (λ (cs : List Change). length (list_of cs)) (events-changes new.names new.history) ∙ ap (λ (l : List Named). length l) (lists_made new.nodes new.passes new.names new.history lists.known.legal lists.first) ∙ length-map (live new.history) (named new.names) ∙ sym f.live in
    let held_is : old.nodes - length (list_of (changes_in es)) ≡ held = let sizes = w.nodes in let all = f.all in let is = live_is in omega arith in
    let changes_is : length (changes_in es) ≡ changes old.history = changes_known new ∙ (looks_only old.passes old f.announced new f.looks).changed in
    let each : (q : ℕ) → q < old.passes → is_announced q (noted_in es) ≡ is_announced q old.history = λ q below. events-announced q new.names new.history ∙ ap (is_announced q) m.history ∙ looked-announced q old.passes old.history in
    let announced_is : announced_count old.passes (noted_in es) ≡ f.announced = count_below-same (λ q. is_announced q (noted_in es)) (λ q. is_announced q old.history) old.passes each ∙ sym m.count in
    let seen_is : length (changes_in es) * COUNT_UNIT + announced_count old.passes (noted_in es) ≡ seen = (λ i. changes_is i * COUNT_UNIT + announced_is i) ∙ sym f.seen_is in
    turn_by _ _ (Resting new) places (outcomes.Full lives held seen) (refused_at old.nodes old.passes done plan (the_state (Resting old) places) es events room)
    (record { state = refl; outcome = λ i. outcomes.Full (sym live_is i) (sym held_is i) (sym seen_is i) })

-- a load by the plan of a run
planned_turn : (n p : ℕ) (done : Plan → State → Turn) (planned result : Result Plan Outcome) (s : State) (new : Writing) (places : ℕ → Place) (said : Outcome) → planned ≡ result
    → TurnIs (unless_refused (with_node n p done) result s) new places said → TurnIs (unless_refused (with_node n p done) planned s) new places said
planned_turn n p done planned result s new places said e t = subst (λ (r : Result Plan Outcome). TurnIs (unless_refused (with_node n p done) r s) new places said) (sym e) t

-- what a writer answers to a load
pub record LoadAnswers (old : WriterState) (header : ℕ) (name : List ℕ) (new : WriterState) (answer : Result ℕ LoadRefused) : Type 0 where
  pub worn : changes old.history ≡ MOST_CHANGES → (new ≡ old) × (answer ≡ Err (Worn MOST_CHANGES))
  pub long : changes old.history ≢ MOST_CHANGES → IMAGE_NAME_BYTES < length name → (new ≡ old) × (answer ≡ Err (NameTooLong (length name)))
  pub loads : changes old.history ≢ MOST_CHANGES → length name ≤ IMAGE_NAME_BYTES → LoadsOrRefuses old header name new answer

-- nothing was done
pub same_turn : (old new : WriterState) (places : ℕ → Place) (said result : Outcome) → new ≡ old → said ≡ result → TurnIs (comes_to result (the_state (Resting old) places)) (Resting new) places said
same_turn old new places said result e o = record { state = ap (λ (s : WriterState). the_state (Resting s) places) (sym e); outcome = o }

loads_turn : (old new : WriterState) (header : ℕ) (name : List ℕ) (answer : Result ℕ LoadRefused) (places : ℕ → Place) → HasLists old → LoadsOrRefuses old header name new answer → OwnerActs old.passes old.history new.history
    → TurnIs (with_node old.nodes old.passes made_whole (plan_of old header name) (the_state (Resting old) places)) (Resting new) places (said_by_load answer)
loads_turn old new header name (Ok number) places k l o = loaded_turn old new header name number places k l o
loads_turn old new header name (Err (Full lives held seen)) places k l o = full_turn old new lives held seen made_whole (plan_of old header name) places k l o
loads_turn old new header name (Err (NameTooLong len)) places k l o = absurd l
loads_turn old new header name (Err (Worn changed)) places k l o = absurd l

pub load_answers : (old new : WriterState) (header : ℕ) (name : List ℕ) (answer : Result ℕ LoadRefused) (places : ℕ → Place) → IsAtRest old → HasLists old → LoadAnswers old header name new answer → OwnerActs old.passes old.history new.history
    → TurnIs (unless_refused (with_node old.nodes old.passes made_whole) (planned_load None (changes_in (events_of old.names old.history)) header name) (the_state (Resting old) places)) (Resting new) places (said_by_load answer)
load_answers old new header name answer places rest k a o =
    let n : ℕ = old.nodes in
    let p : ℕ = old.passes in
    let s : State = the_state (Resting old) places in
    ⊎_elim
    (λ (e : changes old.history ≡ MOST_CHANGES).
    let w = a.worn e in
    planned_turn n p made_whole _ _ s (Resting new) places (said_by_load answer) (planned_worn old header name e) (same_turn old new places (said_by_load answer) (outcomes.Worn MOST_CHANGES) w.0 (ap said_by_load w.1)))
    (λ (fresh : changes old.history ≡ MOST_CHANGES → ⊥).
    ⊎_elim
    (λ (long : IMAGE_NAME_BYTES < length name).
    let w = a.long fresh long in
    planned_turn n p made_whole _ _ s (Resting new) places (said_by_load answer) (planned_long old header name rest fresh long) (same_turn old new places (said_by_load answer) (outcomes.Long (length name)) w.0 (ap said_by_load w.1)))
    (λ (short : length name ≤ IMAGE_NAME_BYTES).
    planned_turn n p made_whole _ _ s (Resting new) places (said_by_load answer) (planned_fine old header name rest fresh short) (loads_turn old new header name answer places k (a.loads fresh short) o))
    (short_or_long (length name)))
    (cases_eq (changes old.history) MOST_CHANGES)

-- a whole load, whatever slots there are
load_went : (old new : WriterState) (header : ℕ) (name : List ℕ) (answer : Result ℕ LoadRefused) → LoadAnswers old header name new answer → WriterWent old new
load_went old new header name answer a =
    ⊎_elim
    (λ (e : changes old.history ≡ MOST_CHANGES). went_same_writer old new (a.worn e).0)
    (λ (fresh : changes old.history ≡ MOST_CHANGES → ⊥).
    ⊎_elim
    (λ (long : IMAGE_NAME_BYTES < length name). went_same_writer old new (a.long fresh long).0)
    (λ (short : length name ≤ IMAGE_NAME_BYTES). loads_went old header name new answer (a.loads fresh short))
    (short_or_long (length name)))
    (cases_eq (changes old.history) MOST_CHANGES)

pub load_whole : (table : TableId) (process : Meanings) (old new : WriterState) (header : ℕ) (name : List ℕ) (answer : Result ℕ LoadRefused) (said : Outcome) → process.fault header ≡ None → LoadAnswers old header name new answer → HasLists new → IsAtRest new → said ≡ said_by_load answer
    → WriterTurns table (Resting old) (λ n p. load_turn process n p made_whole header name) (Resting new) said
load_whole table process old new header name answer said none a lists rest is =
    subst (λ (o : Outcome). WriterTurns table (Resting old) (λ n p. load_turn process n p made_whole header name) (Resting new) o) (sym is)
    (writer_turns table (Resting old) (Resting new) (λ n p. load_turn process n p made_whole header name) (said_by_load answer) (load_went old new header name answer a) lists (λ g. rest)
    (λ places k. planned_turn old.nodes old.passes made_whole _ _ (the_state (Resting old) places) (Resting new) places (said_by_load answer) (ap (λ (f : Option ℕ). planned_load f (changes_in (events_of old.names old.history)) header name) none)
    (load_answers old new header name answer places k.going k.lists a k.acts)))

-- a load that was begun
pub record BeginAnswers (old : WriterState) (header : ℕ) (name : List ℕ) (answer : Result ChangeState (WriterState × LoadRefused)) : Type 0 where
  pub worn : changes old.history ≡ MOST_CHANGES → answer ≡ Err (old, Worn MOST_CHANGES)
  pub long : changes old.history ≢ MOST_CHANGES → IMAGE_NAME_BYTES < length name → answer ≡ Err (old, NameTooLong (length name))
  pub begins : changes old.history ≢ MOST_CHANGES → length name ≤ IMAGE_NAME_BYTES → BeginsLoad old header name answer

-- so it was neither worn nor too long
record Began (old : WriterState) (header : ℕ) (name : List ℕ) (change : ChangeState) : Type 0 where
  pub fresh : changes old.history ≢ MOST_CHANGES
  pub short : length name ≤ IMAGE_NAME_BYTES
  pub load : IsBegunLoad old header name change

began : (old : WriterState) (header : ℕ) (name : List ℕ) (change : ChangeState) → BeginAnswers old header name (Ok change) → Began old header name change
began old header name change a =
    let fresh : changes old.history ≢ MOST_CHANGES = λ e. let no = a.worn e in cc in
    ⊎_elim
    (λ (long : IMAGE_NAME_BYTES < length name). let no = a.long fresh long in cc)
    (λ (short : length name ≤ IMAGE_NAME_BYTES). record { fresh = fresh; short = short; load = a.begins fresh short })
    (short_or_long (length name))

opened_begun : (w : WriterState) (old : WriterState) (header : ℕ) (name : List ℕ) (change : ChangeState) → change ≡ begun_load change.writer header name change.node → loads change.writer.history ≡ loads old.history → opened_by change ≡ record { plan = plan_of old header name; made = 0 }
opened_begun w old header name change begun same =
    ap opened_by begun ∙ ap (λ k. record { plan = record { change = LoadsNamed (record { load = suc k; header = header; name = name }); load = suc k; before = 3 + (length name + 7) / 8 }; made = 0 }) same

pub begin_ok : (table : TableId) (process : Meanings) (old : WriterState) (header : ℕ) (name : List ℕ) (change : ChangeState) (new : Writing) (said : Outcome) → process.fault header ≡ None → BeginAnswers old header name (Ok change) → HasLists change.writer → new ≡ Changing change → said ≡ outcomes.Begun (steps_of change.doing)
    → WriterTurns table (Resting old) (λ n p. load_turn process n p left_open header name) new said
begin_ok table process old header name change new said none a lists is told =
    let b = began old header name change a in
    let doing : change.doing ≡ Loads header name = ap (λ (c : ChangeState). c.doing) b.load.begun in
    let made : change.made ≡ 0 = ap (λ (c : ChangeState). c.made) b.load.begun in
    let steps : steps_of change.doing ≡ steps_of (Loads header name) = ap steps_of doing in
    let went = finds_went old change.node change.writer b.load.finds in
    let turns : WriterTurns table (Resting old) (λ n p. load_turn process n p left_open header name) (Changing change) (outcomes.Begun (steps_of change.doing)) =
    writer_turns table (Resting old) (Changing change) (λ n p. load_turn process n p left_open header name) (outcomes.Begun (steps_of change.doing)) went lists (λ g. (lists, omega arith))
    (λ places k.
    let f = found_node old change.node change.writer change.writer.history k.lists b.load.finds k.acts ([], refl) in
    let opened = opened_begun old old header name change b.load.begun f.loaded in
    planned_turn old.nodes old.passes left_open _ _ (the_state (Resting old) places) (Changing change) places (outcomes.Begun (steps_of change.doing))
    (ap (λ (fault : Option ℕ). planned_load fault (changes_in (events_of old.names old.history)) header name) none ∙ planned_fine old header name k.going b.fresh b.short)
    (turn_by _ _ (Changing change) places (outcomes.Begun (steps_of change.doing)) (accepted_at old.nodes old.passes left_open (plan_of old header name) (the_state (Resting old) places) (events_of change.writer.names change.writer.history) f.events f.room)
    (record { state = λ i. record { events = events_of change.writer.names change.writer.history; opened = Some (sym opened i); places = places }; outcome = ap outcomes.Begun (omega (arith, steps)) }))) in
    subst (λ (w : Writing). WriterTurns table (Resting old) (λ n p. load_turn process n p left_open header name) w said) (sym is)
    (subst (λ (o : Outcome). WriterTurns table (Resting old) (λ n p. load_turn process n p left_open header name) (Changing change) o) (sym told) turns)

begins_turn : (old new : WriterState) (header : ℕ) (name : List ℕ) (refused : LoadRefused) (places : ℕ → Place) → HasLists old → BeginsLoad old header name (Err (new, refused)) → OwnerActs old.passes old.history new.history
    → TurnIs (with_node old.nodes old.passes left_open (plan_of old header name) (the_state (Resting old) places)) (Resting new) places (refused_load refused)
begins_turn old new header name (Full lives held seen) places k l o = full_turn old new lives held seen left_open (plan_of old header name) places k l o
begins_turn old new header name (NameTooLong len) places k l o = absurd l
begins_turn old new header name (Worn changed) places k l o = absurd l

begins_went : (old new : WriterState) (header : ℕ) (name : List ℕ) (refused : LoadRefused) → BeginsLoad old header name (Err (new, refused)) → WriterWent old new
begins_went old new header name (Full lives held seen) l = looks_went old.passes old l.announced new l.looks
begins_went old new header name (NameTooLong len) l = absurd l
begins_went old new header name (Worn changed) l = absurd l

err_is : {A E : Type 0} {x y : E} → ◌≡◌ {A = Result A E} (Err x) (Err y) → x ≡ y
err_is e = cc

pub begin_err : (table : TableId) (process : Meanings) (old new : WriterState) (header : ℕ) (name : List ℕ) (refused : LoadRefused) (said : Outcome) → process.fault header ≡ None → BeginAnswers old header name (Err (new, refused)) → IsAtRest new → said ≡ refused_load refused
    → WriterTurns table (Resting old) (λ n p. load_turn process n p left_open header name) (Resting new) said
begin_err table process old new header name refused said none a rest is =
    let went : WriterWent old new =
    ⊎_elim
    (λ (e : changes old.history ≡ MOST_CHANGES). let is : (new, refused) ≡ (old, Worn MOST_CHANGES) = err_is (a.worn e) in went_same_writer old new (ap (λ (r : WriterState × LoadRefused). r.0) is))
    (λ (fresh : changes old.history ≡ MOST_CHANGES → ⊥).
    ⊎_elim
    (λ (long : IMAGE_NAME_BYTES < length name). let is : (new, refused) ≡ (old, NameTooLong (length name)) = err_is (a.long fresh long) in went_same_writer old new (ap (λ (r : WriterState × LoadRefused). r.0) is))
    (λ (short : length name ≤ IMAGE_NAME_BYTES). begins_went old new header name refused (a.begins fresh short))
    (short_or_long (length name)))
    (cases_eq (changes old.history) MOST_CHANGES) in
    subst (λ (o : Outcome). WriterTurns table (Resting old) (λ n p. load_turn process n p left_open header name) (Resting new) o) (sym is)
    (writer_turns table (Resting old) (Resting new) (λ n p. load_turn process n p left_open header name) (refused_load refused) went (has_lists new rest.known rest.first) (λ g. rest)
    (λ places k.
    let s : State = the_state (Resting old) places in
    planned_turn old.nodes old.passes left_open _ _ s (Resting new) places (refused_load refused) (ap (λ (f : Option ℕ). planned_load f (changes_in (events_of old.names old.history)) header name) none)
    (⊎_elim
    (λ (e : changes old.history ≡ MOST_CHANGES).
    let is : (new, refused) ≡ (old, Worn MOST_CHANGES) = err_is (a.worn e) in
    planned_turn old.nodes old.passes left_open _ _ s (Resting new) places (refused_load refused) (planned_worn old header name e) (same_turn old new places (refused_load refused) (outcomes.Worn MOST_CHANGES) (ap (λ (r : WriterState × LoadRefused). r.0) is) (ap (λ (r : WriterState × LoadRefused). refused_load r.1) is)))
    (λ (fresh : changes old.history ≡ MOST_CHANGES → ⊥).
    ⊎_elim
    (λ (long : IMAGE_NAME_BYTES < length name).
    let is : (new, refused) ≡ (old, NameTooLong (length name)) = err_is (a.long fresh long) in
    planned_turn old.nodes old.passes left_open _ _ s (Resting new) places (refused_load refused) (planned_long old header name k.going fresh long) (same_turn old new places (refused_load refused) (outcomes.Long (length name)) (ap (λ (r : WriterState × LoadRefused). r.0) is) (ap (λ (r : WriterState × LoadRefused). refused_load r.1) is)))
    (λ (short : length name ≤ IMAGE_NAME_BYTES).
    planned_turn old.nodes old.passes left_open _ _ s (Resting new) places (refused_load refused) (planned_fine old header name k.going fresh short) (begins_turn old new header name refused places k.lists (a.begins fresh short) k.acts))
    (short_or_long (length name)))
    (cases_eq (changes old.history) MOST_CHANGES))))

-- what a writer answers to an unload
pub record UnloadAnswers (old : WriterState) (header : ℕ) (new : WriterState) (answer : Result ℕ UnloadRefused) : Type 0 where
  pub worn : changes old.history ≡ MOST_CHANGES → (new ≡ old) × (answer ≡ Err (unload_refusals.Worn MOST_CHANGES))
  pub unloads : changes old.history ≢ MOST_CHANGES → UnloadsOrRefuses old (first_with header (live old.history)) new answer

unplanned_turn : (done : Plan → State → Turn) (planned result : Result Plan Outcome) (s : State) (new : Writing) (places : ℕ → Place) (said : Outcome) → planned ≡ result
    → TurnIs (unless_refused done result s) new places said → TurnIs (unless_refused done planned s) new places said
unplanned_turn done planned result s new places said e t = subst (λ (r : Result Plan Outcome). TurnIs (unless_refused done r s) new places said) (sym e) t

-- a whole unload
unloaded_turn : (old new : WriterState) (header : ℕ) (image : Image) (number : ℕ) (places : ℕ → Place) → HasLists old → first_with header (live old.history) ≡ Some image → number ≡ image.load → IsUnloaded old image new → OwnerActs old.passes old.history new.history
    → TurnIs (made_whole (record { change = UnloadsFirst header; load = image.load; before = 0 }) (the_state (Resting old) places)) (Resting new) places (outcomes.Unloaded number)
unloaded_turn old new header image number places k found is u o =
    let plan : Plan = record { change = UnloadsFirst header; load = image.load; before = 0 } in
    let counted = counted_went u.unlinked new u.count in
    let first = unloaded_made old image image.load u.unlinked new.history k.known u.unlink o counted.grows in
    let last = counted_made u.unlinked new new.history first.named u.count first.acts ([], refl) in
    let same : image.header ≡ header = first_header header (live old.history) image found in
    let events : steps (record { plan = plan; made = 0 }) (steps_left (record { plan = plan; made = 0 })) (events_of old.names old.history) ≡ events_of new.names new.history =
    steps_whole plan (events_of old.names old.history) ∙ sym (last.made ∙ ap (λ (es : List Event). Noted Count ∷ es) (first.made ∙ ap (λ h. Changed (UnloadsFirst h) ∷ events_of old.names old.history) same)) in
    record { state = λ i. record { events = events i; opened = None; places = places }; outcome = ap outcomes.Unloaded is }

unloads_turn : (old new : WriterState) (header : ℕ) (found : Option Image) (answer : Result ℕ UnloadRefused) (places : ℕ → Place) → IsAtRest old → HasLists old → changes old.history ≢ MOST_CHANGES → first_with header (live old.history) ≡ found
    → UnloadsOrRefuses old found new answer → OwnerActs old.passes old.history new.history
    → TurnIs (unless_refused made_whole (planned_unload (changes_in (events_of old.names old.history)) header) (the_state (Resting old) places)) (Resting new) places (said_by_unload answer)
unloads_turn old new header (Some image) (Ok number) places rest k fresh found u o =
    unplanned_turn made_whole _ _ (the_state (Resting old) places) (Resting new) places (outcomes.Unloaded number) (unplanned_one old header image rest k fresh found) (unloaded_turn old new header image number places k found u.0 u.1 o)
unloads_turn old new header (Some image) (Err refused) places rest k fresh found u o = absurd u
unloads_turn old new header None (Ok number) places rest k fresh found u o = absurd u
unloads_turn old new header None (Err refused) places rest k fresh found u o =
    unplanned_turn made_whole _ _ (the_state (Resting old) places) (Resting new) places (refused_unload refused) (unplanned_none old header rest k fresh found) (same_turn old new places (refused_unload refused) outcomes.NotLoaded u.1 (ap refused_unload u.0))

pub unload_whole : (table : TableId) (old new : WriterState) (header : ℕ) (answer : Result ℕ UnloadRefused) (said : Outcome) → UnloadAnswers old header new answer → HasLists new → IsAtRest new → said ≡ said_by_unload answer
    → WriterTurns table (Resting old) (λ n p. unload_turn made_whole header) (Resting new) said
unload_whole table old new header answer said a lists rest is =
    let went : WriterWent old new =
    ⊎_elim
    (λ (e : changes old.history ≡ MOST_CHANGES). went_same_writer old new (a.worn e).0)
    (λ (fresh : changes old.history ≡ MOST_CHANGES → ⊥). unloads_went old (first_with header (live old.history)) new answer (a.unloads fresh))
    (cases_eq (changes old.history) MOST_CHANGES) in
    subst (λ (o : Outcome). WriterTurns table (Resting old) (λ n p. unload_turn made_whole header) (Resting new) o) (sym is)
    (writer_turns table (Resting old) (Resting new) (λ n p. unload_turn made_whole header) (said_by_unload answer) went lists (λ g. rest)
    (λ places k. ⊎_elim
    (λ (e : changes old.history ≡ MOST_CHANGES).
    let w = a.worn e in
    unplanned_turn made_whole _ _ (the_state (Resting old) places) (Resting new) places (said_by_unload answer) (unplanned_worn old header e) (same_turn old new places (said_by_unload answer) (outcomes.Worn MOST_CHANGES) w.0 (ap said_by_unload w.1)))
    (λ (fresh : changes old.history ≡ MOST_CHANGES → ⊥). unloads_turn old new header (first_with header (live old.history)) answer places k.going k.lists fresh refl (a.unloads fresh) k.acts)
    (cases_eq (changes old.history) MOST_CHANGES)))

-- an unload that was begun
pub record BeginUnloadAnswers (old : WriterState) (header : ℕ) (answer : Result ChangeState (WriterState × UnloadRefused)) : Type 0 where
  pub worn : changes old.history ≡ MOST_CHANGES → answer ≡ Err (old, unload_refusals.Worn MOST_CHANGES)
  pub begins : changes old.history ≢ MOST_CHANGES → BeginsUnload old header (first_with header (live old.history)) answer

-- an image was found
record BeganUnload (old : WriterState) (header : ℕ) (found : Option Image) (change : ChangeState) : Type 0 where
  pub image : Image
  pub is : found ≡ Some image
  pub same : image.header ≡ header
  pub begun : change ≡ begun_unload old image change.node

began_unload : (old : WriterState) (header : ℕ) (found : Option Image) (change : ChangeState) → BeginsUnload old header found (Ok change) → BeganUnload old header found change
began_unload old header (Some image) change b = record { image = image; is = refl; same = b.0; begun = b.1 }
began_unload old header None change b = absurd b

pub begin_unload_ok : (table : TableId) (old : WriterState) (header : ℕ) (change : ChangeState) (new : Writing) (said : Outcome) → BeginUnloadAnswers old header (Ok change) → HasLists change.writer → new ≡ Changing change → said ≡ outcomes.Begun (steps_of change.doing)
    → WriterTurns table (Resting old) (λ n p. unload_turn left_open header) new said
begin_unload_ok table old header change new said a lists is told =
    let fresh : changes old.history ≢ MOST_CHANGES = λ e. let no = a.worn e in cc in
    let b = began_unload old header (first_with header (live old.history)) change (a.begins fresh) in
    let writer : change.writer ≡ old = ap (λ (c : ChangeState). c.writer) b.begun in
    let made : change.made ≡ 0 = ap (λ (c : ChangeState). c.made) b.begun in
    let steps : steps_of change.doing ≡ steps_of (Unloads b.image) = ap (λ (c : ChangeState). steps_of c.doing) b.begun in
    let plan : Plan = record { change = UnloadsFirst header; load = b.image.load; before = 0 } in
    let opened : opened_by change ≡ record { plan = plan; made = 0 } = ap opened_by b.begun ∙ ap (λ h. record { plan = record { change = UnloadsFirst h; load = b.image.load; before = 0 }; made = 0 }) b.same in
    let turns : WriterTurns table (Resting old) (λ n p. unload_turn left_open header) (Changing change) (outcomes.Begun (steps_of change.doing)) =
    writer_turns table (Resting old) (Changing change) (λ n p. unload_turn left_open header) (outcomes.Begun (steps_of change.doing)) (went_same_writer old change.writer writer) lists (λ g. (lists, omega arith))
    (λ places k.
    unplanned_turn left_open _ _ (the_state (Resting old) places) (Changing change) places (outcomes.Begun (steps_of change.doing)) (unplanned_one old header b.image k.going k.lists fresh b.is)
    (record { state = λ i. record { events = events_of (sym writer i).names (sym writer i).history; opened = Some (sym opened i); places = places }; outcome = ap outcomes.Begun (omega (arith, steps)) })) in
    subst (λ (w : Writing). WriterTurns table (Resting old) (λ n p. unload_turn left_open header) w said) (sym is)
    (subst (λ (o : Outcome). WriterTurns table (Resting old) (λ n p. unload_turn left_open header) (Changing change) o) (sym told) turns)

-- one that was refused
record RefusedUnload (old new : WriterState) (header : ℕ) (found : Option Image) (refused : UnloadRefused) : Type 0 where
  pub none : found ≡ None
  pub same : new ≡ old
  pub is : refused ≡ unload_refusals.NotLoaded

refused_begin : (old new : WriterState) (header : ℕ) (found : Option Image) (refused : UnloadRefused) → BeginsUnload old header found (Err (new, refused)) → RefusedUnload old new header found refused
refused_begin old new header (Some image) refused b = absurd b
refused_begin old new header None refused b = record { none = refl; same = ap (λ (r : WriterState × UnloadRefused). r.0) b; is = ap (λ (r : WriterState × UnloadRefused). r.1) b }

pub begin_unload_err : (table : TableId) (old new : WriterState) (header : ℕ) (refused : UnloadRefused) (said : Outcome) → BeginUnloadAnswers old header (Err (new, refused)) → IsAtRest new → said ≡ refused_unload refused
    → WriterTurns table (Resting old) (λ n p. unload_turn left_open header) (Resting new) said
begin_unload_err table old new header refused said a rest is =
    let found : Option Image = first_with header (live old.history) in
    let went : WriterWent old new =
    ⊎_elim
    (λ (e : changes old.history ≡ MOST_CHANGES). let r : (new, refused) ≡ (old, unload_refusals.Worn MOST_CHANGES) = err_is (a.worn e) in went_same_writer old new (ap (λ (x : WriterState × UnloadRefused). x.0) r))
    (λ (fresh : changes old.history ≡ MOST_CHANGES → ⊥). went_same_writer old new (refused_begin old new header found refused (a.begins fresh)).same)
    (cases_eq (changes old.history) MOST_CHANGES) in
    subst (λ (o : Outcome). WriterTurns table (Resting old) (λ n p. unload_turn left_open header) (Resting new) o) (sym is)
    (writer_turns table (Resting old) (Resting new) (λ n p. unload_turn left_open header) (refused_unload refused) went (has_lists new rest.known rest.first) (λ g. rest)
    (λ places k. ⊎_elim
    (λ (e : changes old.history ≡ MOST_CHANGES).
    let r : (new, refused) ≡ (old, unload_refusals.Worn MOST_CHANGES) = err_is (a.worn e) in
    unplanned_turn left_open _ _ (the_state (Resting old) places) (Resting new) places (refused_unload refused) (unplanned_worn old header e) (same_turn old new places (refused_unload refused) (outcomes.Worn MOST_CHANGES) (ap (λ (x : WriterState × UnloadRefused). x.0) r) (ap (λ (x : WriterState × UnloadRefused). refused_unload x.1) r)))
    (λ (fresh : changes old.history ≡ MOST_CHANGES → ⊥).
    let b = refused_begin old new header found refused (a.begins fresh) in
    unplanned_turn left_open _ _ (the_state (Resting old) places) (Resting new) places (refused_unload refused) (unplanned_none old header k.going k.lists fresh b.none) (same_turn old new places (refused_unload refused) outcomes.NotLoaded b.same (ap refused_unload b.is)))
    (cases_eq (changes old.history) MOST_CHANGES)))
