-- The parts of a turn agree after the writer is told and after a line is applied.
use Rattle.std.proofs.Common.{◌≡◌, ◌≢◌, ℕ, zero, suc, ◌+◌, ◌-◌, ◌^◌, ◌<◌, ◌≤◌, true, false, cond, eqb, eqb-true, List, [], ◌∷◌, ◌++◌, length, set, sum, sum_by, filter, count_by, slice_get, get_or, Option, Some, refl, sym, ap, ◌∙◌, subst, unwrap_or, length-append, append-nil, add-one, arith}
use Rattle.std.proofs.lemmas.List.Sums.{sum_by-append, sum_by-cons}
use Rattle.std.specs.Prelude.{All}
use Rattle.std.proofs.lemmas.Option.{slice_get_within, same_Some, none-some}
use Rattle.std.proofs.lemmas.List.Elements.{filter-append, All-nil, All-push}
use Rattle.plcr_machine.proofs.Cases.{at_or_else, by_cases, eqb_same, not_both}
use Rattle.plcr_machine.specs.Lists.{changes}
use Rattle.plcr_machine.specs.declared.entry.Entry.{Entry}
use Rattle.plcr_machine.specs.declared.entry.Entry.TheVariants.{Load, Unload, Count, Look}
use Rattle.plcr_machine.specs.declared.image.Image.{Image}
use Rattle.plcr_nodes.specs.declared.view.Store.{Store}
use Rattle.plcr_nodes.specs.Names.{stored_elsewhere}
use Rattle.plcr_imagelist.specs.Changes.{Looks, IsLookedAt, IsCountedAt, FindsNode, AtOnce, AfterLooks}
use Rattle.plcr_imagelist.specs.Loading.{IsLoaded, IsUnloaded}
use Rattle.plcr_nodes.specs.Entries.{among}
use Rattle.plcr_nodes.specs.Seeing.{AddsOthers, GoesOn}
use Rattle.plcr_nodes.specs.Tokens.{NoteState}
use Rattle.plcr_nodes.proofs.Seeing.{adds_again}
use Rattle.plcr_nodes.proofs.Pacing.{same_list}
use Rattle.plcr_imagelist.proofs.Changed.{sees_none}
use Rattle.plcr_imagelist.proofs.Looking.{went_again}
use Rattle.plcr_imagelist.specs.States.{WriterState, IsAtRest}
use Rattle.plcr_imagelist.specs.Opening.{opened_writer}
use Rattle.plcr_imagelist.specs.Tellings.{IsWriterTold}
use Rattle.plcr_turns.specs.declared.lines.Asked.{Asked}
use Rattle.plcr_turns.specs.declared.lines.Asked.TheVariants as asked
use Rattle.plcr_turns.specs.declared.lines.Said.{Said}
use Rattle.plcr_turns.specs.declared.lines.Said.TheVariants.{NotImage, Worn, Long, Full, NotLoaded, Loaded, Unloaded}
use Rattle.plcr_turns.specs.declared.lines.ChangeLine.{ChangeLine}
use Rattle.plcr_turns.specs.declared.turn.Part.{Part}
use Rattle.plcr_turns.specs.Lines.{is_change, accepted, lines_of}
use Rattle.plcr_turns.proofs.Shares.{other_of}
use Rattle.plcr_turns.specs.Turns.{TurnState, Says, changes_by, Does, Did, SeesOthers, Applied, IsPart, IsTurn, room_wanted, IsTold, line_of, one_more, HasCome, HasLeft, turn_state, is_new, untouched}

-- ---- what the writer sees of others

pub sees_itself : (s : WriterState) → SeesOthers s s
sees_itself s = record { added = record { grows = ([], refl); owner = λ _. refl; own = λ _ _. refl }; named = ([], refl); changes = refl; sizes = (refl, refl) }

pub sees_again : (a b c : WriterState) → SeesOthers a b → SeesOthers b c → SeesOthers a c
sees_again a b c g h = record { added = adds_again true [] a.history b.history c.history g.added h.added; named = went_again a.names b.names c.names g.named h.named; changes = h.changes ∙ g.changes; sizes = (h.sizes.0 ∙ g.sizes.0, h.sizes.1 ∙ g.sizes.1) }

pub sees_told : (old : WriterState) (note : NoteState) (new : WriterState) → IsAtRest old → IsWriterTold old note new → SeesOthers old new
sees_told old note new rest t =
    subst (λ (s : WriterState). SeesOthers old s) (sym t.now)
    (record {
      added = record { grows = t.sees.added.grows; owner = t.sees.added.owner; own = λ p a. not_both false a refl };
      named = t.sees.named;
      changes = sees_none old t.past t.names rest.known t.sees;
      sizes = (refl, refl);
    })

-- ---- the chain of lines

pub applied_more : (start : WriterState) (lines : List ChangeLine) (end later : WriterState) → Applied start lines end → SeesOthers end later → Applied start lines later
applied_more start [] end later a s = sees_again start end later a s
applied_more start (line ∷ lines) end later a s = (a.0, a.1, a.2, a.3, a.4, applied_more a.1 lines end later a.5 s)

pub applied_line : (start : WriterState) (lines : List ChangeLine) (end later : WriterState) (line : ChangeLine) (name : List ℕ) → Applied start lines end → Did line name end later → Applied start (lines ++ line ∷ []) later
applied_line start [] end later line name a d = (end, later, name, a, d, sees_itself later)
applied_line start (l ∷ lines) end later line name a d = (a.0, a.1, a.2, a.3, a.4, applied_line a.1 lines end later line name a.5 d)

-- ---- lines that are added

pub accepted_more : (lines : List ChangeLine) (line : ChangeLine) → accepted (lines ++ line ∷ []) ≡ accepted lines + cond (is_change line.said) 1 0
accepted_more lines line =
    let s = sum_by-append (λ (l : ChangeLine). cond (is_change l.said) 1 0) lines (line ∷ []) in
    let n : ℕ = cond (is_change line.said) 1 0 in
    let s' : accepted (lines ++ line ∷ []) ≡ accepted lines + (0 + n) = s in
    omega arith

pub lines_more : (script : ℕ) (lines more : List ChangeLine) → lines_of script (lines ++ more) ≡ lines_of script lines ++ lines_of script more
lines_more script lines more = filter-append (λ (l : ChangeLine). eqb l.script script) lines more

pub line_here : (script : ℕ) (line : ChangeLine) → line.script ≡ script → lines_of script (line ∷ []) ≡ line ∷ []
line_here script line e = ap (λ b. cond b (line ∷ []) []) (subst (λ k. eqb line.script k ≡ true) e (eqb_same line.script))

pub line_else : (script : ℕ) (line : ChangeLine) → eqb line.script script ≡ false → lines_of script (line ∷ []) ≡ []
line_else script line f = ap (λ b. cond b (line ∷ []) []) f

-- a line makes one change, or none
pub makes_one : (a : Asked) (name : List ℕ) (old : WriterState) (said : Said) (new : WriterState) → Says a name old said new → length (changes_by a name said) ≡ cond (is_change said) 1 0
makes_one (asked.Load header) name old (NotImage kind) new s = refl
makes_one (asked.Load header) name old (Worn number) new s = refl
makes_one (asked.Load header) name old (Long len) new s = refl
makes_one (asked.Load header) name old (Full lives held seen) new s = refl
makes_one (asked.Load header) name old NotLoaded new s = absurd s
makes_one (asked.Load header) name old (Loaded load) new s = refl
makes_one (asked.Load header) name old (Unloaded load) new s = absurd s
makes_one (asked.Unload header) name old (NotImage kind) new s = absurd s
makes_one (asked.Unload header) name old (Worn number) new s = refl
makes_one (asked.Unload header) name old (Long len) new s = absurd s
makes_one (asked.Unload header) name old (Full lives held seen) new s = absurd s
makes_one (asked.Unload header) name old NotLoaded new s = refl
makes_one (asked.Unload header) name old (Loaded load) new s = absurd s
makes_one (asked.Unload header) name old (Unloaded load) new s = refl

-- ---- parts of which one went on

pub one_more_here : (script : ℕ) (parts : List Part) (part : Part) → slice_get parts script ≡ Some part → slice_get (one_more script parts) script ≡ Some (record part { applied = suc part.applied })
one_more_here script [] part e = absurd (none-some part e)
one_more_here zero (p ∷ parts) part e = ap (λ (o : Option Part). Some (record (unwrap_or o p) { applied = suc (unwrap_or o p).applied })) e
one_more_here (suc script) (p ∷ parts) part e = one_more_here script parts part e

pub one_more_else : (script other : ℕ) (parts : List Part) → other ≢ script → slice_get (one_more script parts) other ≡ slice_get parts other
one_more_else script other [] apart = refl
one_more_else zero zero (p ∷ parts) apart = absurd (apart refl)
one_more_else zero (suc other) (p ∷ parts) apart = refl
one_more_else (suc script) zero (p ∷ parts) apart = refl
one_more_else (suc script) (suc other) (p ∷ parts) apart = one_more_else script other parts (λ e. apart (ap suc e))

pub one_more_length : (script : ℕ) (parts : List Part) → length (one_more script parts) ≡ length parts
one_more_length script [] = refl
one_more_length zero (p ∷ parts) = refl
one_more_length (suc script) (p ∷ parts) = ap suc (one_more_length script parts)

-- one line less is wanted of it
pub room_used : (script : ℕ) (parts : List Part) (part : Part) → slice_get parts script ≡ Some part → part.applied < part.total → room_wanted parts ≡ suc (room_wanted (one_more script parts))
room_used script [] part e less = absurd (none-some part e)
room_used zero (p ∷ parts) part e less =
    let less' : p.applied < p.total = subst (λ (o : Option Part). (unwrap_or o p).applied < (unwrap_or o p).total) (sym e) less in
    omega arith
room_used (suc script) (p ∷ parts) part e less = let r = room_used script parts part e less in omega arith

-- ---- the turn

-- what others did leaves the number of changes
changes_stay : (old new : WriterState) → SeesOthers old new → changes new.history ≡ changes old.history
changes_stay old new s = (same_list [] old.history new.history s.added).changes

pub told_turn : (old : TurnState) (note : NoteState) (new : TurnState) → IsTurn old → IsTold old note new → IsAtRest new.writer → IsTurn new
told_turn old note new turn told rest =
    let sees = sees_told old.writer note new.writer turn.rest told.writer in
    subst IsTurn (sym told.same)
    (record {
      rest = rest;
      counted = changes_stay old.writer new.writer sees ∙ turn.counted;
      applied = subst (λ (s : WriterState). Applied (opened_writer s.table s.nodes s.passes) old.journal new.writer) (sym told.writer.now)
          (applied_more (opened_writer old.writer.table old.writer.nodes old.writer.passes) old.journal old.writer new.writer turn.applied sees);
      progress = turn.progress;
      alone = turn.alone;
    })

-- the line of the script stands last, and its part says so
progress_more : (journal : List ChangeLine) (parts : List Part) (script : ℕ) (part : Part) (line : ChangeLine) → line.script ≡ script → slice_get parts script ≡ Some part → part.applied < part.total
    → ((s : ℕ) (p : Part) → slice_get parts s ≡ Some p → IsPart s p journal) → (s : ℕ) (p : Part) → slice_get (one_more script parts) s ≡ Some p → IsPart s p (journal ++ line ∷ [])
progress_more journal parts script part line is at less all s p there =
    at_or_else s script
    (λ e.
    let was = all script part at in
    let now : record part { applied = suc part.applied } ≡ p = same_Some _ _ (sym (one_more_here script parts part at) ∙ subst (λ k. slice_get (one_more script parts) k ≡ Some p) e there) in
    let count : length (lines_of s (journal ++ line ∷ [])) ≡ suc part.applied =
    ap (λ k. length (lines_of k (journal ++ line ∷ []))) e ∙ ap length (lines_more script journal (line ∷ []) ∙ ap (λ l. lines_of script journal ++ l) (line_here script line is)) ∙ length-append (lines_of script journal) (line ∷ [])
    ∙ (let w = was.lines in omega arith) in
    subst (λ (q : Part). IsPart s q (journal ++ line ∷ [])) now (record { most = less; word = was.word; lines = count }))
    (λ f.
    let was = all s p (sym (one_more_else script s parts (other_of s script f)) ∙ there) in
    let out : eqb line.script s ≡ false = by_cases (eqb line.script s) (λ t. absurd (other_of s script f (sym (eqb-true line.script s t) ∙ is))) (λ g. g) in
    record {
      most = was.most;
      word = was.word;
      lines = ap length (lines_more s journal (line ∷ []) ∙ ap (λ l. lines_of s journal ++ l) (line_else s line out) ∙ append-nil (lines_of s journal)) ∙ was.lines;
    })

-- ---- the sizes of the list stay

abbrev pub SameSizes : WriterState → WriterState → Type 0
SameSizes old new = (new.nodes ≡ old.nodes) × (new.passes ≡ old.passes)

same_if : (old new : WriterState) (history : List Entry) (names : List (List ℕ)) (stores : List Store) → new ≡ record old { history = history; names = names; stores = stores } → SameSizes old new
same_if old new history names stores e = (ap (λ (s : WriterState). s.nodes) e, ap (λ (s : WriterState). s.passes) e)

pub same_again : (a b c : WriterState) → SameSizes a b → SameSizes b c → SameSizes a c
same_again a b c s t = (t.0 ∙ s.0, t.1 ∙ s.1)

same_looks : (passes : ℕ) (old : WriterState) (found : ℕ) (new : WriterState) → Looks passes old found new → SameSizes old new
same_looks zero old found new l = (ap (λ (s : WriterState). s.nodes) l.0, ap (λ (s : WriterState). s.passes) l.0)
same_looks (suc pass) old found new l =
    let k : IsLookedAt l.0 pass l.2 new = l.4 in
    same_again old l.0 new (same_looks pass old l.1 l.0 l.3) (same_if l.0 new (Look pass l.2 ∷ k.past) k.names l.0.stores k.now)

same_found : (old : WriterState) (node : ℕ) (ready : WriterState) → FindsNode old node ready → SameSizes old ready
same_found old node ready (AtOnce free e) = (ap (λ (s : WriterState). s.nodes) e, ap (λ (s : WriterState). s.passes) e)
same_found old node ready (AfterLooks none found looks free) = same_looks old.passes old found ready looks

same_counted : (old new : WriterState) → IsCountedAt old new → SameSizes old new
same_counted old new c = same_if old new (Count ∷ c.past) c.names old.stores c.now

same_loaded : (old : WriterState) (header : ℕ) (name : List ℕ) (number : ℕ) (new : WriterState) → IsLoaded old header name number new → SameSizes old new
same_loaded old header name number new l =
    same_again old l.linked new
    (same_again old l.ready l.linked (same_found old l.node l.ready l.finds)
    (same_if l.ready l.linked (Load l.node number header ∷ l.link.past) (name ∷ l.link.names) (stored_elsewhere l.node l.ready.stores) l.link.now))
    (same_counted l.linked new l.count)

same_unloaded : (old : WriterState) (image : Image) (new : WriterState) → IsUnloaded old image new → SameSizes old new
same_unloaded old image new u = same_again old u.unlinked new (same_if old u.unlinked (Unload image.node ∷ u.unlink.past) u.unlink.names old.stores u.unlink.now) (same_counted u.unlinked new u.count)

same_is : (old new : WriterState) → new ≡ old → SameSizes old new
same_is old new e = (ap (λ (s : WriterState). s.nodes) e, ap (λ (s : WriterState). s.passes) e)

pub same_sizes : (a : Asked) (name : List ℕ) (old : WriterState) (said : Said) (new : WriterState) → Says a name old said new → SameSizes old new
same_sizes (asked.Load header) name old (NotImage kind) new s = same_is old new s
same_sizes (asked.Load header) name old (Worn number) new s = same_is old new s.2
same_sizes (asked.Load header) name old (Long len) new s = same_is old new s.3
same_sizes (asked.Load header) name old (Full lives held seen) new s = same_looks old.passes old s.2.announced new s.2.looks
same_sizes (asked.Load header) name old NotLoaded new s = absurd s
same_sizes (asked.Load header) name old (Loaded load) new s = same_loaded old header name load new s.2
same_sizes (asked.Load header) name old (Unloaded load) new s = absurd s
same_sizes (asked.Unload header) name old (NotImage kind) new s = absurd s
same_sizes (asked.Unload header) name old (Worn number) new s = same_is old new s.2
same_sizes (asked.Unload header) name old (Long len) new s = absurd s
same_sizes (asked.Unload header) name old (Full lives held seen) new s = absurd s
same_sizes (asked.Unload header) name old NotLoaded new s = same_is old new s.2
same_sizes (asked.Unload header) name old (Loaded load) new s = absurd s
same_sizes (asked.Unload header) name old (Unloaded load) new s = same_unloaded old s.1.0 new s.1.3

-- ---- a line is applied

as_many : (script : ℕ) (parts : List Part) → length (one_more script parts) ≡ length parts
as_many script [] = refl
as_many zero (part ∷ parts) = refl
as_many (suc script) (part ∷ parts) = ap suc (as_many script parts)

-- the line is of one of the scripts
alone_more : (journal : List ChangeLine) (parts : List Part) (script : ℕ) (line : ChangeLine) → line.script ≡ script → script < length parts → All (λ (l : ChangeLine). l.script < length parts) journal
    → All (λ (l : ChangeLine). l.script < length (one_more script parts)) (journal ++ line ∷ [])
alone_more journal parts script line is few all =
    subst (λ n. All (λ (l : ChangeLine). l.script < n) (journal ++ line ∷ [])) (sym (as_many script parts))
    (All-push (λ (l : ChangeLine). l.script < length parts) journal line all (subst (λ n. n < length parts) (sym is) few))

pub applied_turn : (old : TurnState) (script line : ℕ) (a : Asked) (name : List ℕ) (said : Said) (writer : WriterState) → IsTurn old → HasLeft old.parts script → HasCome a name old.writer said writer
    → IsTurn (turn_state writer (old.journal ++ line_of script line a said ∷ []) (one_more script old.parts))
applied_turn old script line a name said writer turn left come =
    let l = line_of script line a said in
    let same = same_sizes a name old.writer said writer come.does.says in
    record {
      rest = come.rest;
      counted = come.does.made.more ∙ ap (λ n. n + changes old.writer.history) (makes_one a name old.writer said writer come.does.says) ∙ ap (λ n. cond (is_change said) 1 0 + n) turn.counted
          ∙ (let m = accepted_more old.journal l in omega arith);
      applied = subst (λ (s : WriterState). Applied s (old.journal ++ l ∷ []) writer) (λ i. opened_writer (sym come.table i) (sym same.0 i) (sym same.1 i))
          (applied_line (opened_writer old.writer.table old.writer.nodes old.writer.passes) old.journal old.writer writer l name turn.applied (record { was = turn.rest; does = come.does; rest = come.rest }));
      progress = progress_more old.journal old.parts script left.0 l refl left.1 left.2 turn.progress;
      alone = alone_more old.journal old.parts script l refl (slice_get_within old.parts script left.0 left.1) turn.alone;
    }

-- a part as the code writes it
pub set_part : (script : ℕ) (parts : List Part) (part was : Part) → slice_get parts script ≡ Some part → was ≡ part → set parts script (record { applied = was.applied + 1; total = was.total }) ≡ one_more script parts
set_part script [] part was e same = absurd (none-some part e)
set_part zero (p ∷ parts) part was e same =
    let q : was ≡ p = same ∙ sym (same_Some _ _ e) in
    (λ i. record { applied = add-one (q i).applied i; total = (q i).total } ∷ parts)
set_part (suc script) (p ∷ parts) part was e same = ap (λ l. p ∷ l) (set_part script parts part was e same)

-- ---- a turn that was just opened

untouched_at : (totals : List ℕ) → ((k : ℕ) → get_or totals k 0 < 2 ^ 32) → (script : ℕ) (part : Part) → slice_get (untouched totals) script ≡ Some part → IsPart script part []
untouched_at [] small script part e = absurd (none-some part e)
untouched_at (total ∷ totals) small zero part e = subst (λ (p : Part). IsPart 0 p []) (same_Some _ _ e) (record { most = omega arith; word = small 0; lines = refl })
untouched_at (total ∷ totals) small (suc script) part e = let p = untouched_at totals (λ k. small (suc k)) script part e in record { most = p.most; word = p.word; lines = p.lines }

pub opened_is_turn : (writer : WriterState) (totals : List ℕ) (parts : List Part) (journal : List ChangeLine) → is_new writer → IsAtRest writer → journal ≡ [] → parts ≡ untouched totals → ((k : ℕ) → get_or totals k 0 < 2 ^ 32)
    → IsTurn (turn_state writer journal parts)
opened_is_turn writer totals parts journal new rest empty are small =
    subst (λ (y : List ChangeLine × List Part). IsTurn (turn_state writer y.0 y.1)) (λ i. (sym empty i, sym are i))
    (record {
      rest = rest;
      counted = ap (λ (s : WriterState). changes s.history) new;
      applied = subst (λ (s : WriterState). SeesOthers (opened_writer s.table s.nodes s.passes) s) (sym new) (sees_itself (opened_writer writer.table writer.nodes writer.passes));
      progress = untouched_at totals small;
      alone = All-nil (λ (l : ChangeLine). l.script < length (untouched totals));
    })

pub room_of_all : (totals : List ℕ) → room_wanted (untouched totals) ≡ sum totals
room_of_all [] = refl
room_of_all (total ∷ totals) = let r = room_of_all totals in let e : sum (total ∷ totals) ≡ total + sum totals = sum_by-cons (λ (t : ℕ). t) total totals in omega arith
