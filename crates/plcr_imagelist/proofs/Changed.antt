-- The changes that come new to the writer's history, by headers and names.
use Rattle.std.proofs.Common.{◌≡◌, ⊎_elim, ℕ, suc, List, [], ◌∷◌, ◌++◌, length, length-append, refl, sym, ap, ◌∙◌, subst, arith, append_assoc, ne_eqb, eq-eqb}
use Rattle.std.proofs.lemmas.Bool.{cases_eq}
use Rattle.plcr_machine.specs.declared.image.Image.{Image}
use Rattle.plcr_machine.specs.declared.entry.Entry.{Entry}
use Rattle.plcr_machine.specs.declared.change.Change.{Change}
use Rattle.plcr_machine.specs.declared.change.Change.TheVariants.{Loads as LoadsNamed, Unloads as UnloadsFirst}
use Rattle.plcr_machine.specs.Lists.{Grows, live, changes}
use Rattle.plcr_machine.specs.Histories.{IsHistory}
use Rattle.plcr_machine.specs.Changes.{header_at, TakesFirst, changes_of}
use Rattle.plcr_machine.proofs.Freedom.{live_apart}
use Rattle.plcr_machine.proofs.ListsMade.{changes_of-length, lists_after}
use Rattle.plcr_machine.proofs.Staying.{changes_stay}
use Rattle.plcr_nodes.specs.Entries.{WentOn}
use Rattle.plcr_nodes.proofs.Known.{live_same}
use Rattle.plcr_nodes.proofs.NamesKept.{name-new}
use Rattle.plcr_nodes.proofs.Pacing.{changes_same}
use Rattle.plcr_imagelist.specs.declared.change.Progress.{Progress}
use Rattle.plcr_imagelist.specs.declared.change.Progress.TheVariants.{More, Done}
use Rattle.plcr_imagelist.specs.Finding.{first_with}
use Rattle.plcr_imagelist.specs.States.{WriterState, Doing, Loads, Unloads, change_step, ChangeState}
use Rattle.plcr_nodes.specs.Tokens.{NoteState}
use Rattle.plcr_imagelist.specs.Holds.{WalkerState}
use Rattle.plcr_imagelist.specs.Changes.{WriterSeesMore, IsCountedAt, IsLoadedAt, IsUnloadedAt, IsChangedAt}
use Rattle.plcr_imagelist.specs.Loading.{HasMade}
use Rattle.plcr_imagelist.specs.Tellings.{IsWriterTold, IsMet}
use Rattle.plcr_imagelist.specs.Steps.{MakesStore, IsStepped}
use Rattle.plcr_imagelist.specs.Listing.{HasLists, AddsChanges, change_of, made_by_step, writer_of}
use Rattle.plcr_imagelist.specs.inner.Making.{IsFinished}
use Rattle.plcr_imagelist.proofs.Taking.{header_at-first}

pub has_lists : (s : WriterState) → IsHistory s.nodes s.passes s.history s.names → TakesFirst s.history → HasLists s
has_lists s k f = record { known = k; first = f; all = changes_of-length s.names s.history; lists = λ j. lists_after s.nodes s.passes s.names s.history j k.legal f }

empty : (xs : List Change) → length xs ≡ 0 → xs ≡ []
empty [] e = refl
empty (x ∷ xs) e = absurd (omega arith)

-- a history with no change more has the same changes
none_new : (nodes passes : ℕ) (past h : List Entry) (names all : List (List ℕ)) → IsHistory nodes passes past names → Grows past h → WentOn names all → changes h ≡ changes past → changes_of all h ≡ changes_of names past
none_new nodes passes past h names all k g w same =
    let stay = changes_stay nodes passes past h names w.0 k g in
    let is : changes_of all h ≡ stay.0 ++ changes_of names past = ap (λ (l : List (List ℕ)). changes_of l h) w.1 ∙ stay.1 in
    let long = ap (λ (l : List Change). length l) is ∙ length-append stay.0 (changes_of names past) in
    let now = changes_of-length all h in
    let then = changes_of-length names past in
    is ∙ ap (λ (l : List Change). l ++ changes_of names past) (empty stay.0 (omega arith))

pub sees_none : (old : WriterState) (past : List Entry) (names : List (List ℕ)) → IsHistory old.nodes old.passes old.history old.names → WriterSeesMore old past names → changes_of names past ≡ changes_of old.names old.history
sees_none old past names k g = none_new old.nodes old.passes old.history past old.names names k g.added.grows g.named (changes_same past old.history (g.added.owner refl))

-- so where no change was made or told, none came new
pub made_none : (old new : WriterState) → IsHistory old.nodes old.passes old.history old.names → HasMade old 0 new → AddsChanges old [] new
made_none old new k m = none_new old.nodes old.passes old.history new.history old.names new.names k m.grows m.names (omega (arith, m.more))

pub told_adds : (old : WriterState) (note : NoteState) (new : WriterState) → IsHistory old.nodes old.passes old.history old.names → IsWriterTold old note new → AddsChanges old [] new
told_adds old note new k t = subst (λ (s : WriterState). AddsChanges old [] s) (sym t.now) (sees_none old t.past t.names k t.sees)

pub met_adds : (old : WriterState) (pass : WalkerState) (new : WriterState) → IsHistory old.nodes old.passes old.history old.names → IsMet old pass new → AddsChanges old [] new
met_adds old pass new k t = subst (λ (s : WriterState). AddsChanges old [] s) (sym t.now) (sees_none old t.past t.names k t.sees)

pub adds_more : (a b c : WriterState) (first then : List Change) → AddsChanges a first b → AddsChanges b then c → AddsChanges a (then ++ first) c
adds_more a b c first then g h = h ∙ ap (λ (l : List Change). then ++ l) g ∙ sym (append_assoc then first (changes_of a.names a.history))

counted_adds : (old new : WriterState) → IsHistory old.nodes old.passes old.history old.names → IsCountedAt old new → AddsChanges old [] new
counted_adds old new k c = subst (λ (s : WriterState). AddsChanges old [] s) (sym c.now) (sees_none old c.past c.names k c.sees)

loaded_adds : (old : WriterState) (header : ℕ) (name : List ℕ) (load node : ℕ) (new : WriterState) → IsHistory old.nodes old.passes old.history old.names → IsLoadedAt old header name load node new
    → AddsChanges old (change_of (Loads header name) load ∷ []) new
loaded_adds old header name load node new k l =
    let named = l.sees.legal.named in
    let is = name-new load name l.names (omega (arith, l.number)) in
    let more : WentOn old.names (name ∷ l.names) = (name ∷ l.sees.named.0, ap (λ (ns : List (List ℕ)). name ∷ ns) l.sees.named.1) in
    let rest = none_new old.nodes old.passes old.history l.past old.names (name ∷ l.names) k l.sees.added.grows more (changes_same l.past old.history (l.sees.added.owner refl)) in
    subst (λ (s : WriterState). AddsChanges old (change_of (Loads header name) load ∷ []) s) (sym l.now) (λ i. LoadsNamed (record { load = load; header = header; name = is i }) ∷ rest i)

unloaded_adds : (old : WriterState) (image : Image) (load : ℕ) (new : WriterState) → IsHistory old.nodes old.passes old.history old.names → IsUnloadedAt old image new
    → AddsChanges old (change_of (Unloads image) load ∷ []) new
unloaded_adds old image load new k u =
    let lists = live_same u.past old.history (u.sees.added.owner refl) in
    let apart = live_apart old.nodes old.passes u.past u.sees.legal.legal in
    let is : header_at image.node (live u.past) ≡ image.header = header_at-first image.header (live u.past) image apart (ap (first_with image.header) lists ∙ u.first) in
    let rest = sees_none old u.past u.names k u.sees in
    subst (λ (s : WriterState). AddsChanges old (change_of (Unloads image) load ∷ []) s) (sym u.now) (λ i. UnloadsFirst (is i) ∷ rest i)

changed_adds : (old : WriterState) (doing : Doing) (load node : ℕ) (new : WriterState) → IsHistory old.nodes old.passes old.history old.names → IsChangedAt old doing load node new
    → AddsChanges old (change_of doing load ∷ []) new × IsHistory new.nodes new.passes new.history new.names
changed_adds old (Loads header name) load node new k c = (loaded_adds old header name load node new k c, c.legal)
changed_adds old (Unloads image) load node new k c = (unloaded_adds old image load new k c, c.legal)

-- a step adds the change, or none
stores_none : (doing : Doing) (made node : ℕ) (old new : WriterState) → MakesStore doing made node old new → AddsChanges old [] new
stores_none (Loads header name) made node old new m = subst (λ (s : WriterState). AddsChanges old [] s) (sym m) refl
stores_none (Unloads image) made node old new m = absurd m

pub stepped_adds : (old : ChangeState) (left : Progress) → IsHistory old.writer.nodes old.writer.passes old.writer.history old.writer.names → IsStepped old left → AddsChanges old.writer (made_by_step old) (writer_of left)
stepped_adds old (More new) k s =
    let step = s.1 in
    ⊎_elim
    (λ (e : suc old.made ≡ change_step old.doing).
    rw (eq-eqb (suc old.made) (change_step old.doing) e) (changed_adds old.writer old.doing old.load old.node new.writer k (step.change (step.made ∙ e))).0)
    (λ (n : suc old.made ≡ change_step old.doing → ⊥).
    rw (ne_eqb (suc old.made) (change_step old.doing) n) (stores_none old.doing old.made old.node old.writer new.writer (step.before (λ e. n (sym step.made ∙ e))).1))
    (cases_eq (suc old.made) (change_step old.doing))
stepped_adds old (Done writer) k s =
    rw (ne_eqb (suc old.made) (change_step old.doing) (λ e. omega (arith, e, s.0))) (counted_adds old.writer writer k s.1)

-- a whole change adds itself
pub finished_adds : (start : ChangeState) (new : WriterState) → IsHistory start.writer.nodes start.writer.passes start.writer.history start.writer.names → IsFinished start new
    → AddsChanges start.writer (change_of start.doing start.load ∷ []) new
finished_adds start new k f =
    let change = changed_adds start.writer start.doing start.load start.node f.changed k f.change in
    adds_more start.writer f.changed new (change_of start.doing start.load ∷ []) [] change.0 (counted_adds f.changed new change.1 f.count)
