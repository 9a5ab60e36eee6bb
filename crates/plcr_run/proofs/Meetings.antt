-- The end of a script: the open change is finished, and each pass meets the writer.
use Rattle.std.proofs.Common.{◌≡◌, ℕ, zero, suc, ◌<◌, ◌≤◌, true, List, [], ◌∷◌, ◌++◌, length, length-append, append-nil, take, drop, Option, eqb, refl, sym, ap, ◌∙◌, subst, ⊎_elim, arith}
use Rattle.std.proofs.lemmas.Bool.{cases_eq, or_right}
use Rattle.std.proofs.lemmas.List.{length-take, drop_all, take_all}
use Rattle.atomic_table.specs.Seated.{TableId}
use Rattle.plcr_machine.specs.declared.entry.Entry.{Entry}
use Rattle.plcr_machine.specs.Lists.{Grows, loads}
use Rattle.plcr_machine.specs.Parts.{own_entries, owner_entries}
use Rattle.plcr_machine.specs.Histories.{IsHistory}
use Rattle.plcr_machine.specs.Events.{events_of}
use Rattle.plcr_machine.proofs.Cases.{eqb_same}
use Rattle.plcr_machine.proofs.Makers.{nothing_else}
use Rattle.plcr_machine.proofs.ListsMade.{takes_same}
use Rattle.plcr_nodes.specs.Entries.{among, WentOn}
use Rattle.plcr_nodes.proofs.Seeing.{grows_again, own_of}
use Rattle.plcr_imagelist.specs.States.{WriterState, ChangeState, IsAtRest}
use Rattle.plcr_imagelist.specs.Listing.{HasLists}
use Rattle.plcr_imagelist.specs.Holds.{WalkerState}
use Rattle.plcr_imagelist.specs.Tellings.{IsMet}
use Rattle.plcr_imagelist.proofs.Changed.{has_lists}
use Rattle.plcr_imagelist.proofs.Looking.{went_again}
use Rattle.plcr_script.specs.RunStates as states
use Rattle.plcr_script.specs.RunStates.{State, ended, finished, all_left, steps, steps_left}
use Rattle.plcr_run.specs.declared.slots.Slot.{Slot}
use Rattle.plcr_run.specs.declared.slots.Slot.TheVariants.{Out}
use Rattle.plcr_run.specs.declared.writing.Writing.{Writing}
use Rattle.plcr_run.specs.declared.writing.Writing.TheVariants.{Resting, Changing}
use Rattle.plcr_run.specs.inner.Slots.{slot_at}
use Rattle.plcr_run.specs.inner.Tokens.{writer_of, AreTokens, IsPlaced, IsAll, seen_in, opened_by, Goes}
use Rattle.plcr_run.specs.inner.Changes.{IsSteppedThrough}
use Rattle.plcr_run.specs.inner.Ending.{left_below, finished_state, HasMet, EndsIn}
use Rattle.plcr_machine.proofs.Between.{own_between}
use Rattle.plcr_run.proofs.SameLength.{went_same}
use Rattle.plcr_run.proofs.Acting.{placed_seen}
use Rattle.plcr_run.proofs.Stepped.{through_made, through_went}
use Rattle.plcr_run.proofs.WriterTurned.{tokens_writer, alone_writer}

-- the open change is made to its end
pub finish_goes : (table : TableId) (change : ChangeState) (writer : WriterState) (slots : List Slot) → IsSteppedThrough change writer → IsAtRest writer → AreTokens table (Changing change) slots
    → AreTokens table (Resting writer) slots × Goes (Changing change) slots finished_state (Resting writer) slots
finish_goes table change writer slots t rest tokens =
    let went = through_went change writer t in (
      tokens_writer table (Changing change) (Resting writer) slots tokens went (has_lists writer rest.known rest.first) rest,
      record {
        sizes = (went.nodes, went.passes);
        back = λ all. (alone_writer table (Changing change) (Resting writer) slots tokens went all).0;
        state = λ all state is.
            let o = (alone_writer table (Changing change) (Resting writer) slots tokens went all).1 in
            let m = through_made change writer writer.history tokens.lists.known t o ([], refl) in
            let events : events_of writer.names writer.history ≡ finished state.opened state.events =
            m.1 ∙ ap (λ n. steps (opened_by change) n (events_of change.writer.names change.writer.history)) m.0 ∙ (λ i. finished (is.opened i) (is.events i)) in
            record { events = events; opened = refl; places = λ k below. is.places k (subst (λ m. k < m) went.passes below) };
      },
    )

-- nothing was open
pub rest_goes : (writer : WriterState) (slots : List Slot) → Goes (Resting writer) slots finished_state (Resting writer) slots
rest_goes writer slots = record {
  sizes = (refl, refl);
  back = λ all. all;
  state = λ all state is. record { events = is.events ∙ ap (λ (o : Option states.Opened). finished o state.events) is.opened; opened = refl; places = is.places };
}

-- no pass has met the writer yet
pub met_none : (table : TableId) (writer : WriterState) (slots : List Slot) (n : ℕ) → AreTokens table (Resting writer) slots → n ≡ length slots → HasMet writer slots (λ k. (n ≤ k) × (k < length slots)) writer
met_none table writer slots n tokens e = record {
  nodes = refl;
  passes = refl;
  lists = tokens.lists;
  grows = ([], refl);
  went = ([], refl);
  owner = refl;
  joined = λ k m. let low = m.0 in let high = m.1 in absurd (omega arith);
  own = λ k m. let low = m.0 in let high = m.1 in absurd (omega arith);
}

-- the last slot of those that are left
pub record LastSlot (slots front : List Slot) (slot : Slot) : Type 0 where
  pub is : slot_at slots (length front) ≡ slot
  pub within : length front < length slots
  pub left : front ≡ take (length front) slots

pub last_slot : (slots front : List Slot) (slot : Slot) (n : ℕ) → front ++ slot ∷ [] ≡ take n slots → LastSlot slots front slot
last_slot [] front slot n e = let none : length (front ++ slot ∷ []) ≡ length (take n []) = ap (λ (l : List Slot). length l) e in let long = length-append front (slot ∷ []) in let nothing : List Slot = [] in let short = length-take n nothing in absurd (omega arith)
last_slot (z ∷ zs) front slot zero e = let none : length (front ++ slot ∷ []) ≡ 0 = ap (λ (l : List Slot). length l) e in let long = length-append front (slot ∷ []) in absurd (omega arith)
last_slot (z ∷ zs) [] slot (suc n) e = let first : slot ≡ z = cc in record { is = sym first; within = omega arith; left = refl }
last_slot (z ∷ zs) (y ∷ front) slot (suc n) e =
    let first : y ≡ z = cc in
    let others : front ++ slot ∷ [] ≡ take n zs = cc in
    let rest = last_slot zs front slot n others in
    record { is = rest.is; within = let less = rest.within in omega arith; left = λ i. first i ∷ rest.left i }

among_first : (n x : ℕ) (xs : List ℕ) → x ≡ n → among n (x ∷ xs) ≡ true
among_first n x xs e = rw (e, eqb_same n) refl

-- one more pass met the writer
pub met_one : (table : TableId) (start : WriterState) (slots : List Slot) (k n : ℕ) (old : WriterState) (pass : WalkerState) (new : WriterState) → AreTokens table (Resting start) slots → n ≡ suc k → k < length slots → slot_at slots k ≡ Out pass
    → HasMet start slots (λ j. (n ≤ j) × (j < length slots)) old → IsMet old pass new → HasMet start slots (λ j. (k ≤ j) × (j < length slots)) new
met_one table start slots k n old pass new tokens next below was m met =
    let number : pass.number ≡ k = (subst (λ (s : Slot). IsPlaced start k s) was (tokens.placed k (let count = tokens.count in omega arith))).number in
    let now : new ≡ record old { history = met.past; names = met.names; joined = pass.number ∷ old.joined } = met.now in
    let history : new.history ≡ met.past = ap (λ (s : WriterState). s.history) now in
    let owner : owner_entries met.past ≡ owner_entries old.history = met.sees.added.owner refl in
    record {
      nodes = ap (λ (s : WriterState). s.nodes) now ∙ m.nodes;
      passes = ap (λ (s : WriterState). s.passes) now ∙ m.passes;
      lists = subst (λ (s : WriterState). HasLists s) (sym now) (has_lists (record old { history = met.past; names = met.names; joined = pass.number ∷ old.joined }) met.sees.legal (takes_same old.history met.past owner m.lists.first));
      grows = subst (λ (h : List Entry). Grows start.history h) (sym history) (grows_again start.history old.history met.past m.grows met.sees.added.grows);
      went = subst (λ (ns : List (List ℕ)). WentOn start.names ns) (sym (ap (λ (s : WriterState). s.names) now)) (went_again start.names old.names met.names m.went met.sees.named);
      owner = ap owner_entries history ∙ owner ∙ m.owner;
      joined = λ j within. ⊎_elim
          (λ (e : j ≡ k). ap (among j) (ap (λ (s : WriterState). s.joined) now) ∙ among_first j pass.number old.joined (number ∙ sym e))
          (λ (d : j ≡ k → ⊥). ap (among j) (ap (λ (s : WriterState). s.joined) now) ∙ or_right (eqb pass.number j) (among j old.joined) (m.joined j (let low = within.0 in omega (arith, (λ (e : j ≡ k). d e)), within.1)))
          (cases_eq j k);
      own = λ j within. ⊎_elim
          (λ (e : j ≡ k).
          let mine : own_entries k met.past ≡ own_entries k pass.history = subst (λ n. own_entries n met.past ≡ own_entries n pass.history) number (own_of pass.number pass.history met.past met.met) in
          let whole : own_entries k new.history ≡ own_entries k (seen_in (slot_at slots k)) = ap (own_entries k) history ∙ mine ∙ sym (ap (λ (s : Slot). own_entries k (seen_in s)) was) in
          subst (λ n. own_entries n new.history ≡ own_entries n (seen_in (slot_at slots n))) (sym e) whole)
          (λ (d : j ≡ k → ⊥).
          let before : (n ≤ j) × (j < length slots) = (let low = within.0 in omega (arith, (λ (e : j ≡ k). d e)), within.1) in
          ap (own_entries j) history ∙ met.sees.added.own j (m.joined j before) ∙ m.own j before)
          (cases_eq j k);
    }

-- so the writer had seen all, and has seen no more
pub record MetAll (start : WriterState) (slots : List Slot) (new : WriterState) : Type 0 where
  pub all : IsAll (Resting start) slots
  pub history : new.history ≡ start.history
  pub names : new.names ≡ start.names

pub met_all : (table : TableId) (start : WriterState) (slots : List Slot) (new : WriterState) → AreTokens table (Resting start) slots → HasMet start slots (λ k. k < length slots) new → MetAll start slots new
met_all table start slots new tokens m =
    let went = m.went in
    let each : (k : ℕ) → k < start.passes → own_entries k new.history ≡ own_entries k (seen_in (slot_at slots k)) = λ k below. m.own k (let count = tokens.count in omega arith) in
    let all : (k : ℕ) → k < start.passes → own_entries k start.history ≡ own_entries k (seen_in (slot_at slots k)) = λ k below.
    own_between k (seen_in (slot_at slots k)) start.history new.history (placed_seen start k (slot_at slots k) (tokens.placed k below)) m.grows (each k below) in
    let legal : IsHistory start.nodes start.passes new.history new.names = subst (λ n. IsHistory n start.passes new.history new.names) m.nodes (subst (λ n. IsHistory new.nodes n new.history new.names) m.passes m.lists.known) in
    let same : new.history ≡ start.history = nothing_else start.nodes start.passes start.history new.history legal.legal m.grows m.owner (λ k below. each k below ∙ sym (all k below)) in
    let long : length new.names ≡ length start.names = legal.named ∙ ap loads same ∙ sym tokens.lists.known.named in
    record { all = all; history = same; names = went_same start.names new.names went.0 went.1 long }

-- the whole end of a script
pub ends_in : (table : TableId) (writing : Writing) (slots : List Slot) (mid : Writing) (mids : List Slot) (writer new : WriterState) → AreTokens table writing slots → Goes writing slots (left_below (length slots)) mid mids → Goes mid mids finished_state (Resting writer) mids
    → AreTokens table (Resting writer) mids → HasMet writer mids (λ k. k < length mids) new → length mids ≡ length slots → EndsIn writing slots new
ends_in table writing slots mid mids writer new before leaves finish tokens m count =
    let met = met_all table writer mids new tokens m in
    let sized : new.passes ≡ (writer_of writing).passes = m.passes ∙ finish.sizes.1 ∙ leaves.sizes.1 in
    let long : length slots ≡ new.passes = before.count ∙ sym sized in
    record {
      nodes = m.nodes ∙ finish.sizes.0 ∙ leaves.sizes.0;
      passes = sized;
      lists = m.lists;
      joined = λ k below. m.joined k (omega arith);
      all = leaves.back (finish.back met.all);
      events = λ state is.
          let left = leaves.state (finish.back met.all) state is in
          let done = finish.state met.all (left_below (length slots) state) left in
          (λ i. events_of (met.names i) (met.history i)) ∙ done.events ∙ ap (λ n. ended n state) long;
    }

-- a list that was written over whole
pub take_front : (n : ℕ) (new items : List Slot) → length new ≡ length items → length items ≡ n → take n (new ++ drop (length new) items) ≡ new
take_front n new items same all =
    let none : drop (length new) items ≡ [] = drop_all (length new) items (omega arith) in
    ap (λ (l : List Slot). take n (new ++ l)) none ∙ ap (λ (l : List Slot). take n l) (append-nil new) ∙ take_all n new (omega arith)
