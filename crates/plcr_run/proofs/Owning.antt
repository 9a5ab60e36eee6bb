-- The steps of the writer, where a later history is known to have no more of what passes did.
use Rattle.std.proofs.Common.{◌≡◌, ℕ, zero, suc, ◌+◌, ◌<◌, Bool, true, false, List, [], ◌∷◌, length, cond, eqb, ltb, refl, sym, ap, ◌∙◌, subst, ⊎_elim, arith, ne_eqb, eq-eqb}
use Rattle.std.proofs.lemmas.Bool.{cases_eq, lt-ltb, le-ltb}
use Rattle.std.specs.Prelude.{◌==◌, if◌then◌else◌}
use Rattle.std.proofs.lemmas.List.{length-map}
use Rattle.plcr_machine.specs.declared.image.Image.{Image}
use Rattle.plcr_machine.specs.declared.entry.Entry.{Entry}
use Rattle.plcr_machine.specs.declared.entry.Entry.TheVariants.{Load, Unload, Count, Look}
use Rattle.plcr_machine.specs.declared.change.Named.{Named}
use Rattle.plcr_machine.specs.declared.change.Change.{Change}
use Rattle.plcr_machine.specs.declared.change.Change.TheVariants.{Unloads as UnloadsFirst}
use Rattle.plcr_machine.specs.Lists.{Grows, live, loads}
use Rattle.plcr_machine.specs.Passes.{is_announced, stamp_of, seen_by, announced_count}
use Rattle.plcr_machine.specs.Nodes.{is_free, waiting_count}
use Rattle.plcr_machine.specs.Histories.{IsHistory}
use Rattle.plcr_machine.specs.Parts.{own_entries}
use Rattle.plcr_machine.specs.Changes.{named, header_at, list_of}
use Rattle.plcr_machine.specs.Events.{Event, Changed, Noted, events_of, changes_in, looked_at}
use Rattle.plcr_machine.proofs.Cases.{not_both}
use Rattle.plcr_machine.proofs.Freedom.{live_apart}
use Rattle.plcr_machine.proofs.Counted.{none_counted, counted_none}
use Rattle.plcr_machine.proofs.ListsMade.{lists_made}
use Rattle.plcr_machine.proofs.EventsMade.{events-changes, held_waiting, load_events}
use Rattle.plcr_nodes.specs.Entries.{WentOn}
use Rattle.plcr_nodes.proofs.Seeing.{grows_again}
use Rattle.plcr_imagelist.specs.Finding.{NoneFree, IsFreeIn}
use Rattle.plcr_imagelist.specs.States.{WriterState, Doing, Loads, Unloads, ChangeState, change_step, steps_of}
use Rattle.plcr_imagelist.specs.Changes.{WriterSeesMore, IsLookedAt, Looks, IsCountedAt, IsLoadedAt, IsUnloadedAt, IsChangedAt}
use Rattle.plcr_imagelist.specs.Listing.{HasLists, change_of, writer_of as left_of}
use Rattle.plcr_imagelist.specs.Steps.{MakesStore, Advances, IsStepped}
use Rattle.plcr_imagelist.specs.declared.change.Progress.{Progress}
use Rattle.plcr_imagelist.specs.declared.change.Progress.TheVariants.{More, Done}
use Rattle.plcr_imagelist.proofs.Taking.{header_at-first}
use Rattle.plcr_imagelist.proofs.Looking.{went_again}
use Rattle.plcr_script.specs.RunChanges.{Plan}
use Rattle.plcr_nodes.specs.declared.view.Store.{Store}
use Rattle.plcr_script.specs.RunStates.{is_full, stepped}
use Rattle.plcr_run.specs.inner.Tokens.{opened_by, steps_before}
use Rattle.plcr_run.proofs.SameLength.{went_same}
use Rattle.plcr_run.proofs.Still.{OwnerActs, writer_still}

-- the same writer, with more history and names
pub record WriterWent (old new : WriterState) : Type 0 where
  pub table : new.table ≡ old.table
  pub nodes : new.nodes ≡ old.nodes
  pub passes : new.passes ≡ old.passes
  pub joined : new.joined ≡ old.joined
  pub grows : Grows old.history new.history
  pub went : WentOn old.names new.names

pub went_nowhere : (s : WriterState) → WriterWent s s
went_nowhere s = record { table = refl; nodes = refl; passes = refl; joined = refl; grows = ([], refl); went = ([], refl) }

pub went_twice : (a b c : WriterState) → WriterWent a b → WriterWent b c → WriterWent a c
went_twice a b c g h = record {
  table = h.table ∙ g.table;
  nodes = h.nodes ∙ g.nodes;
  passes = h.passes ∙ g.passes;
  joined = h.joined ∙ g.joined;
  grows = grows_again a.history b.history c.history g.grows h.grows;
  went = went_again a.names b.names c.names g.went h.went;
}

-- a writer that saw more, and saw nothing new
pub record OwnerSawNothing (old : WriterState) (past : List Entry) (named : List (List ℕ)) : Type 0 where
  pub history : past ≡ old.history
  pub names : named ≡ old.names

pub owner_saw_nothing : (old : WriterState) (past : List Entry) (names : List (List ℕ)) (top : List Entry) → length old.names ≡ loads old.history → WriterSeesMore old past names → OwnerActs old.passes old.history top → Grows past top → OwnerSawNothing old past names
owner_saw_nothing old past names top named g o on =
    let same : past ≡ old.history = writer_still old.nodes old.passes old.history past top o g.added.grows on g.legal.legal (g.added.owner refl) in
    let long : length names ≡ length old.names = g.legal.named ∙ ap loads same ∙ sym named in
    record { history = same; names = went_same old.names names g.named.0 g.named.1 long }

-- an entry that no pass makes
pub record IsOwners (entry : Entry) : Type 0 where
  pub none : (k : ℕ) (h : List Entry) → own_entries k (entry ∷ h) ≡ own_entries k h

pub owner_more : (passes : ℕ) (entry : Entry) (now top : List Entry) → OwnerActs passes now top → IsOwners entry → Grows (entry ∷ now) top → OwnerActs passes (entry ∷ now) top
owner_more passes entry now top o own g = record { grows = g; own = λ k below. o.own k below ∙ sym (own.none k now) }

-- what a writer's step came to: it went on, and it acts alone still
pub record StepMade (old new : WriterState) (events : List Event) (top : List Entry) : Type 0 where
  pub made : events_of new.names new.history ≡ events
  pub acts : OwnerActs new.passes new.history top
  pub named : length new.names ≡ loads new.history

-- the history is so, whatever the state is
on_history : (top : List Entry) (s t : WriterState) → s ≡ t → Grows s.history top → Grows t.history top
on_history top s t e g = subst (λ (w : WriterState). Grows w.history top) e g

-- the change was counted
pub counted_went : (old new : WriterState) → IsCountedAt old new → WriterWent old new
counted_went old new k =
    let later : Grows old.history (Count ∷ k.past) = grows_again old.history k.past (Count ∷ k.past) k.sees.added.grows (Count ∷ [], refl) in
    record {
      table = ap (λ (s : WriterState). s.table) k.now;
      nodes = ap (λ (s : WriterState). s.nodes) k.now;
      passes = ap (λ (s : WriterState). s.passes) k.now;
      joined = ap (λ (s : WriterState). s.joined) k.now;
      grows = subst (λ (s : WriterState). Grows old.history s.history) (sym k.now) later;
      went = subst (λ (s : WriterState). WentOn old.names s.names) (sym k.now) k.sees.named;
    }

pub counted_made : (old new : WriterState) (top : List Entry) → length old.names ≡ loads old.history → IsCountedAt old new → OwnerActs old.passes old.history top → Grows new.history top → StepMade old new (Noted Count ∷ events_of old.names old.history) top
counted_made old new top named k o on =
    let all : Grows (Count ∷ k.past) top = subst (λ (s : WriterState). Grows s.history top) k.now on in
    let saw = owner_saw_nothing old k.past k.names top named k.sees o (grows_again k.past (Count ∷ k.past) top (Count ∷ [], refl) all) in
    let now : new ≡ record old { history = Count ∷ old.history } = k.now ∙ (λ i. record old { history = Count ∷ saw.history i; names = saw.names i }) in
    subst (λ (s : WriterState). StepMade old s (Noted Count ∷ events_of old.names old.history) top) (sym now) (record {
      made = refl;
      acts = owner_more old.passes Count old.history top o (record { none = λ j h. refl }) (subst (λ (h : List Entry). Grows (Count ∷ h) top) saw.history all);
      named = named;
    })

-- the image was linked
pub loaded_went : (old : WriterState) (header : ℕ) (name : List ℕ) (load node : ℕ) (new : WriterState) → IsLoadedAt old header name load node new → WriterWent old new
loaded_went old header name load node new k =
    let entry : Entry = Load node load header in
    let later : Grows old.history (entry ∷ k.past) = grows_again old.history k.past (entry ∷ k.past) k.sees.added.grows (entry ∷ [], refl) in
    record {
      table = ap (λ (s : WriterState). s.table) k.now;
      nodes = ap (λ (s : WriterState). s.nodes) k.now;
      passes = ap (λ (s : WriterState). s.passes) k.now;
      joined = ap (λ (s : WriterState). s.joined) k.now;
      grows = subst (λ (s : WriterState). Grows old.history s.history) (sym k.now) later;
      went = subst (λ (s : WriterState). WentOn old.names s.names) (sym k.now) (name ∷ k.sees.named.0, ap (λ (l : List (List ℕ)). name ∷ l) k.sees.named.1);
    }

pub loaded_made : (old : WriterState) (header : ℕ) (name : List ℕ) (load node : ℕ) (new : WriterState) (top : List Entry) → IsHistory old.nodes old.passes old.history old.names → IsLoadedAt old header name load node new → OwnerActs old.passes old.history top → Grows new.history top
    → (load ≡ suc (loads old.history)) × StepMade old new (Changed (change_of (Loads header name) load) ∷ events_of old.names old.history) top
loaded_made old header name load node new top known k o on =
    let entry : Entry = Load node load header in
    let all : Grows (entry ∷ k.past) top = subst (λ (s : WriterState). Grows s.history top) k.now on in
    let saw = owner_saw_nothing old k.past k.names top known.named k.sees o (grows_again k.past (entry ∷ k.past) top (entry ∷ [], refl) all) in
    let number : load ≡ suc (loads old.history) = k.number ∙ ap (λ (h : List Entry). suc (loads h)) saw.history in
    let w : WriterState = record old { history = entry ∷ old.history; names = name ∷ old.names; stores = new.stores } in
    let now : new ≡ w = (λ i. record (k.now i) { stores = new.stores }) ∙ (λ i. record old { history = entry ∷ saw.history i; names = name ∷ saw.names i; stores = new.stores }) in
    let events : events_of (name ∷ old.names) (entry ∷ old.history) ≡ Changed (change_of (Loads header name) load) ∷ events_of old.names old.history =
    subst (λ n. events_of (name ∷ old.names) (Load node n header ∷ old.history) ≡ Changed (change_of (Loads header name) n) ∷ events_of old.names old.history) (sym number)
    (load_events old.nodes old.passes node header name old.names old.history known.legal known.named).1 in (
      number,
      subst (λ (s : WriterState). StepMade old s (Changed (change_of (Loads header name) load) ∷ events_of old.names old.history) top) (sym now) (record {
        made = events;
        acts = owner_more old.passes entry old.history top o (record { none = λ j h. refl }) (subst (λ (h : List Entry). Grows (entry ∷ h) top) saw.history all);
        named = ap suc known.named;
      }),
    )

-- the image was unlinked
pub unloaded_went : (old : WriterState) (image : Image) (new : WriterState) → IsUnloadedAt old image new → WriterWent old new
unloaded_went old image new k =
    let entry : Entry = Unload image.node in
    let later : Grows old.history (entry ∷ k.past) = grows_again old.history k.past (entry ∷ k.past) k.sees.added.grows (entry ∷ [], refl) in
    record {
      table = ap (λ (s : WriterState). s.table) k.now;
      nodes = ap (λ (s : WriterState). s.nodes) k.now;
      passes = ap (λ (s : WriterState). s.passes) k.now;
      joined = ap (λ (s : WriterState). s.joined) k.now;
      grows = subst (λ (s : WriterState). Grows old.history s.history) (sym k.now) later;
      went = subst (λ (s : WriterState). WentOn old.names s.names) (sym k.now) k.sees.named;
    }

pub unloaded_made : (old : WriterState) (image : Image) (load : ℕ) (new : WriterState) (top : List Entry) → IsHistory old.nodes old.passes old.history old.names → IsUnloadedAt old image new → OwnerActs old.passes old.history top → Grows new.history top
    → StepMade old new (Changed (change_of (Unloads image) load) ∷ events_of old.names old.history) top
unloaded_made old image load new top known k o on =
    let entry : Entry = Unload image.node in
    let all : Grows (entry ∷ k.past) top = subst (λ (s : WriterState). Grows s.history top) k.now on in
    let saw = owner_saw_nothing old k.past k.names top known.named k.sees o (grows_again k.past (entry ∷ k.past) top (entry ∷ [], refl) all) in
    let now : new ≡ record old { history = entry ∷ old.history } = k.now ∙ (λ i. record old { history = entry ∷ saw.history i; names = saw.names i }) in
    let is : header_at image.node (live old.history) ≡ image.header = header_at-first image.header (live old.history) image (live_apart old.nodes old.passes old.history known.legal) k.first in
    subst (λ (s : WriterState). StepMade old s (Changed (change_of (Unloads image) load) ∷ events_of old.names old.history) top) (sym now) (record {
      made = ap (λ n. Changed (UnloadsFirst n) ∷ events_of old.names old.history) is;
      acts = owner_more old.passes entry old.history top o (record { none = λ j h. refl }) (subst (λ (h : List Entry). Grows (entry ∷ h) top) saw.history all);
      named = known.named;
    })

-- the change itself
pub changed_went : (old : WriterState) (doing : Doing) (load node : ℕ) (new : WriterState) → IsChangedAt old doing load node new → WriterWent old new
changed_went old (Loads header name) load node new k = loaded_went old header name load node new k
changed_went old (Unloads image) load node new k = unloaded_went old image new k

pub changed_made : (old : WriterState) (doing : Doing) (load node : ℕ) (new : WriterState) (top : List Entry) → IsHistory old.nodes old.passes old.history old.names → IsChangedAt old doing load node new → OwnerActs old.passes old.history top → Grows new.history top
    → StepMade old new (Changed (change_of doing load) ∷ events_of old.names old.history) top
changed_made old (Loads header name) load node new top known k o on = (loaded_made old header name load node new top known k o on).1
changed_made old (Unloads image) load node new top known k o on = unloaded_made old image load new top known k o on

-- a store of a word
pub stored_is : (doing : Doing) (made node : ℕ) (old new : WriterState) → MakesStore doing made node old new → new ≡ record old { stores = new.stores }
stored_is (Loads header name) made node old new m = m ∙ (λ i. record old { stores = sym (ap (λ (s : WriterState). s.stores) m) i })
stored_is (Unloads image) made node old new m = absurd m

-- any step of a change
advanced_went : (old new : ChangeState) → Advances old new → WriterWent old.writer new.writer
advanced_went old new a =
    ⊎_elim
    (λ (e : new.made ≡ change_step old.doing). changed_went old.writer old.doing old.load old.node new.writer (a.change e))
    (λ (n : new.made ≡ change_step old.doing → ⊥). subst (λ (s : WriterState). WriterWent old.writer s) (sym (stored_is old.doing old.made old.node old.writer new.writer (a.before n).1)) (stored_went old.writer new.writer.stores))
    (cases_eq new.made (change_step old.doing))
  where
    stored_went : (s : WriterState) (stores : List Store) → WriterWent s (record s { stores = stores })
    stored_went s stores = record { table = refl; nodes = refl; passes = refl; joined = refl; grows = ([], refl); went = ([], refl) }

pub step_went : (old : ChangeState) (left : Progress) → IsStepped old left → WriterWent old.writer (left_of left)
step_went old (More new) s = advanced_went old new s.1
step_went old (Done writer) s = counted_went old.writer writer s.1

-- one behind the step that makes the change comes its count
pub change_at : (doing : Doing) → change_step doing ≡ suc (steps_before doing)
change_at (Loads header name) = omega arith
change_at (Unloads image) = refl

pub stepped_change : (plan : Plan) (made : ℕ) (events : List Event) → made ≡ plan.before → stepped plan made events ≡ Changed plan.change ∷ events
stepped_change plan made events e = rw (eq-eqb made plan.before e) refl

pub stepped_count : (plan : Plan) (made : ℕ) (events : List Event) → plan.before < made → stepped plan made events ≡ Noted Count ∷ events
stepped_count plan made events lt =
    let other : eqb made plan.before ≡ false = ne_eqb made plan.before (λ e. omega arith) in
    let later : ltb plan.before made ≡ true = lt-ltb plan.before made lt in
    rw (other, later) refl

pub stepped_store : (plan : Plan) (made : ℕ) (events : List Event) → made < plan.before → stepped plan made events ≡ events
stepped_store plan made events lt =
    let other : eqb made plan.before ≡ false = ne_eqb made plan.before (λ e. omega arith) in
    let later : ltb plan.before made ≡ false = le-ltb plan.before made (omega arith) in
    rw (other, later) refl

advanced_made : (old new : ChangeState) (top : List Entry) → IsHistory old.writer.nodes old.writer.passes old.writer.history old.writer.names → suc old.made < steps_of old.doing → Advances old new → OwnerActs old.writer.passes old.writer.history top → Grows new.writer.history top
    → StepMade old.writer new.writer (stepped (opened_by old).plan old.made (events_of old.writer.names old.writer.history)) top
advanced_made old new top known few a o on =
    let plan : Plan = (opened_by old).plan in
    let events : List Event = events_of old.writer.names old.writer.history in
    let at = change_at old.doing in
    ⊎_elim
    (λ (e : new.made ≡ change_step old.doing).
    let here : old.made ≡ steps_before old.doing = let made = a.made in omega arith in
    subst (λ (es : List Event). StepMade old.writer new.writer es top) (sym (stepped_change plan old.made events here)) (changed_made old.writer old.doing old.load old.node new.writer top known (a.change e) o on))
    (λ (n : new.made ≡ change_step old.doing → ⊥).
    let early : old.made < steps_before old.doing = let made = a.made in omega (arith, (λ (e : new.made ≡ change_step old.doing). n e)) in
    let now = stored_is old.doing old.made old.node old.writer new.writer (a.before n).1 in
    subst (λ (es : List Event). StepMade old.writer new.writer es top) (sym (stepped_store plan old.made events early))
    (subst (λ (s : WriterState). StepMade old.writer s events top) (sym now) (record { made = refl; acts = o; named = known.named })))
    (cases_eq new.made (change_step old.doing))

pub step_made : (old : ChangeState) (left : Progress) (top : List Entry) → IsHistory old.writer.nodes old.writer.passes old.writer.history old.writer.names → IsStepped old left → OwnerActs old.writer.passes old.writer.history top → Grows (left_of left).history top
    → StepMade old.writer (left_of left) (stepped (opened_by old).plan old.made (events_of old.writer.names old.writer.history)) top
step_made old (More new) top known s o on = advanced_made old new top known s.0 s.1 o on
step_made old (Done writer) top known s o on =
    let at = change_at old.doing in
    let late : steps_before old.doing < old.made = let last = s.0 in omega arith in
    subst (λ (es : List Event). StepMade old.writer writer es top) (sym (stepped_count (opened_by old).plan old.made (events_of old.writer.names old.writer.history) late))
    (counted_made old.writer writer top known.named s.1 o on)

-- a look at each pass
looked_went : (old : WriterState) (pass stamp : ℕ) (new : WriterState) → IsLookedAt old pass stamp new → WriterWent old new
looked_went old pass stamp new k =
    let entry : Entry = Look pass stamp in
    let later : Grows old.history (entry ∷ k.past) = grows_again old.history k.past (entry ∷ k.past) k.sees.added.grows (entry ∷ [], refl) in
    record {
      table = ap (λ (s : WriterState). s.table) k.now;
      nodes = ap (λ (s : WriterState). s.nodes) k.now;
      passes = ap (λ (s : WriterState). s.passes) k.now;
      joined = ap (λ (s : WriterState). s.joined) k.now;
      grows = subst (λ (s : WriterState). Grows old.history s.history) (sym k.now) later;
      went = subst (λ (s : WriterState). WentOn old.names s.names) (sym k.now) k.sees.named;
    }

pub looks_went : (pass : ℕ) (old : WriterState) (found : ℕ) (new : WriterState) → Looks pass old found new → WriterWent old new
looks_went zero old found new l = subst (λ (s : WriterState). WriterWent old s) (sym l.0) (went_nowhere old)
looks_went (suc pass) old found new (mid, less, stamp, before, look, sum) = went_twice old mid new (looks_went pass old less mid before) (looked_went mid pass stamp new look)

-- looks change nobody's announcement
pub looked-announced : (q p : ℕ) (h : List Entry) → is_announced q (looked_at p h) ≡ is_announced q h
looked-announced q zero h = refl
looked-announced q (suc p) h = looked-announced q p h

-- a number of looks, as they are in a run
pub record LooksMade (passes : ℕ) (old new : WriterState) (found : ℕ) (top : List Entry) : Type 0 where
  pub history : new.history ≡ looked_at passes old.history
  pub names : new.names ≡ old.names
  pub acts : OwnerActs old.passes new.history top
  pub count : found ≡ announced_count passes old.history

one_if : (b : Bool) (n : ℕ) → ◌≡◌ {A = ℕ} (if (cond b (suc n) 0) == 0 then 0 else 1) (if b then 1 else 0)
one_if true n = rw (ne_eqb (suc n) 0 (λ e. omega arith)) refl
one_if false n = refl

abbrev stamped : ℕ → ℕ
stamped n = if n == 0 then 0 else 1

abbrev once : Bool → ℕ
once b = if b then 1 else 0

pub looks_made : (pass : ℕ) (old : WriterState) (found : ℕ) (new : WriterState) (top : List Entry) → length old.names ≡ loads old.history → Looks pass old found new → OwnerActs old.passes old.history top → Grows new.history top → LooksMade pass old new found top
looks_made zero old found new top named l o on = subst (λ (s : WriterState). LooksMade zero old s found top) (sym l.0) (record { history = refl; names = refl; acts = o; count = l.1 })
looks_made (suc pass) old found new top named (mid, less, stamp, before, look, sum) o on =
    let w = looks_went pass old less mid before in
    let entry : Entry = Look pass stamp in
    let all : Grows (entry ∷ look.past) top = subst (λ (s : WriterState). Grows s.history top) look.now on in
    let on' : Grows look.past top = grows_again look.past (entry ∷ look.past) top (entry ∷ [], refl) all in
    let m = looks_made pass old less mid top named before o (grows_again mid.history look.past top look.sees.added.grows on') in
    let named' : length mid.names ≡ loads mid.history = ap (λ (l : List (List ℕ)). length l) m.names ∙ named ∙ sym (ap loads m.history ∙ looked-loads pass old.history) in
    let o' : OwnerActs mid.passes mid.history top = subst (λ n. OwnerActs n mid.history top) (sym w.passes) m.acts in
    let saw = owner_saw_nothing mid look.past look.names top named' look.sees o' on' in
    let h : List Entry = looked_at pass old.history in
    let past : look.past ≡ h = saw.history ∙ m.history in
    let legal = subst (λ (s : WriterState). IsHistory s.nodes s.passes s.history s.names) look.now look.legal in
    let found_is : stamp ≡ stamp_of pass h = subst (λ (p : List Entry). stamp ≡ stamp_of pass p) past legal.legal.0.1 in
    let one : ◌≡◌ {A = ℕ} (if stamp == 0 then 0 else 1) (if is_announced pass old.history then 1 else 0) =
    ap stamped found_is ∙ one_if (is_announced pass h) (seen_by pass h) ∙ ap once (looked-announced pass pass old.history) in
    let now : new.history ≡ Look pass (stamp_of pass h) ∷ h = ap (λ (s : WriterState). s.history) look.now ∙ (λ i. Look pass (found_is i) ∷ past i) in
    record {
      history = now;
      names = ap (λ (s : WriterState). s.names) look.now ∙ saw.names ∙ m.names;
      acts = subst (λ (g : List Entry). OwnerActs old.passes g top) (sym now)
          (owner_more old.passes (Look pass (stamp_of pass h)) h top (subst (λ (g : List Entry). OwnerActs old.passes g top) m.history m.acts) (record { none = λ j g. refl }) (subst (λ (g : List Entry). Grows g top) now on));
      count = let less_is = m.count in let shown = one in omega arith;
    }
  where
    looked-loads : (p : ℕ) (g : List Entry) → loads (looked_at p g) ≡ loads g
    looked-loads zero g = refl
    looked-loads (suc p) g = looked-loads p g

-- whether a run says that no node is free
full_is : (s : WriterState) → HasLists s → is_full s.nodes s.passes (events_of s.names s.history) ≡ (length (live s.history) + waiting_count s.nodes s.passes s.history == s.nodes)
full_is s k =
    let list : length (list_of (changes_in (events_of s.names s.history))) ≡ length (live s.history) =
    ap (λ (cs : List Change). length (list_of cs)) (events-changes s.names s.history) ∙ ap (λ (l : List Named). length l) (lists_made s.nodes s.passes s.names s.history k.known.legal k.first) ∙ length-map (live s.history) (named s.names) in
    let back = held_waiting s.nodes s.passes s.names s.history k.known.legal in
    (λ i. list i + back i == s.nodes)

pub full_none : (s : WriterState) → HasLists s → NoneFree s.nodes s.passes s.history → is_full s.nodes s.passes (events_of s.names s.history) ≡ true
full_none s k none = full_is s k ∙ eq-eqb (length (live s.history) + waiting_count s.nodes s.passes s.history) s.nodes (none_counted s.nodes s.passes s.history k.known.legal none)

pub full_free : (s : WriterState) (node : ℕ) → HasLists s → IsFreeIn s node → is_full s.nodes s.passes (events_of s.names s.history) ≡ false
full_free s node k free =
    full_is s k ∙ ne_eqb (length (live s.history) + waiting_count s.nodes s.passes s.history) s.nodes
    (λ e. let no = counted_none s.nodes s.passes s.history k.known.legal e node free.0 free.1 in let yes = free.2 in not_both (is_free s.passes node s.history) yes no)
