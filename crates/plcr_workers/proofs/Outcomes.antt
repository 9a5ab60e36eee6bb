-- The lines of a journal are the outcomes of a run.
use Rattle.std.proofs.Common.{◌≡◌, ℕ, zero, suc, ◌+◌, ◌*◌, ◌≤◌, Bool, true, false, List, [], ◌∷◌, ◌++◌, length, Option, Some, None, Ok, Err, unwrap_or, refl, sym, ap, ◌∙◌, subst, append_assoc, append-nil, arith}
use Rattle.std.proofs.lemmas.List.{length-map}
use Rattle.plcr_machine.specs.declared.limits.TheConstants.{COUNT_UNIT, MOST_CHANGES}
use Rattle.plcr_machine.specs.declared.entry.Entry.{Entry}
use Rattle.plcr_machine.specs.declared.entry.Entry.TheVariants.{Announce, Enter, Leave, Retire, Load, Unload, Count, Look}
use Rattle.plcr_machine.specs.declared.change.Named.{Named}
use Rattle.plcr_machine.specs.declared.change.Change.{Change}
use Rattle.plcr_machine.specs.Lists.{Grows, live, unloads}
use Rattle.plcr_machine.specs.Passes.{counts}
use Rattle.plcr_machine.specs.Changes.{named, changes_of, list_of}
use Rattle.plcr_machine.specs.Events.{events_of, changes_in}
use Rattle.plcr_machine.proofs.Cases.{not_both}
use Rattle.plcr_machine.proofs.Pace.{paced_rest}
use Rattle.plcr_machine.proofs.Counted.{none_counted, waiting_most}
use Rattle.plcr_machine.proofs.ListsMade.{changes_of-length, lists_made}
use Rattle.plcr_machine.proofs.EventsMade.{events-changes}
use Rattle.plcr_nodes.specs.Entries.{WentOn}
use Rattle.plcr_nodes.proofs.Seeing.{grows_again}
use Rattle.plcr_imagelist.specs.States.{WriterState, IsAtRest}
use Rattle.plcr_imagelist.specs.Finding.{NoneFree}
use Rattle.plcr_imagelist.specs.Changes.{Looks, IsLookedAt}
use Rattle.plcr_imagelist.specs.Refusing.{IsFull}
use Rattle.plcr_imagelist.specs.Listing.{AddsChanges}
use Rattle.plcr_imagelist.specs.Opening.{opened_writer}
use Rattle.plcr_imagelist.proofs.Changed.{has_lists}
use Rattle.plcr_script.specs.declared.statements.Statement.{Statement}
use Rattle.plcr_script.specs.declared.statements.Statement.TheVariants as statements
use Rattle.plcr_script.specs.declared.outcomes.Outcome.TheVariants as outcomes
use Rattle.plcr_script.specs.Scripts.{ScriptValue}
use Rattle.plcr_script.specs.Meanings.{Meanings}
use Rattle.plcr_script.specs.RunChanges.{planned_load, planned_unload}
use Rattle.plcr_run.proofs.Planned.{planned_worn, planned_long, planned_fine, plan_of, unplanned_worn, unplanned_none, unplanned_one}
use Rattle.plcr_turns.specs.declared.lines.Asked.{Asked}
use Rattle.plcr_turns.specs.declared.lines.Asked.TheVariants as asked
use Rattle.plcr_turns.specs.declared.lines.Said.{Said}
use Rattle.plcr_turns.specs.declared.lines.Said.TheVariants.{NotImage, Worn, Long, Full, NotLoaded, Loaded, Unloaded}
use Rattle.plcr_turns.specs.declared.lines.ChangeLine.{ChangeLine}
use Rattle.plcr_turns.specs.Turns.{TurnState, LoadSays, UnloadSays, Says, changes_by, Applied, IsTurn, NameSaid}
use Rattle.plcr_turns.specs.Journals.{change_made, changes_made}
use Rattle.plcr_imagelist.proofs.Looking.{went_again}
use Rattle.plcr_turns.proofs.Turned.{SameSizes, same_again, same_sizes}
use Rattle.plcr_turns.proofs.Journaled.{grows_through, sizes_through, change_then, change_by_names, made_later, journal_is}
use Rattle.plcr_workers.specs.Asking.{asked_in, statement_of, name_in, change_of, accepted_changes}
use Rattle.plcr_workers.specs.Outcomes.{outcome_of, whole_outcome, unloads_in, Looked, IsFullAfter, LoadComesTo, ComesTo, JournalRuns}
use Rattle.plcr_workers.specs.Known.{FaultTold, StatementFault, IsKnownLine, AreKnown, HasEnded}

-- ---- a list that is full

-- the looks between two moments
looked : (pass : ℕ) (old : WriterState) (found : ℕ) (new : WriterState) → Looks pass old found new → Looked pass old.history found new.history
looked zero old found new l = (subst (λ (s : WriterState). Grows old.history s.history) (sym l.0) ([], refl), l.1)
looked (suc pass) old found new l =
    let k : IsLookedAt l.0 pass l.2 new = l.4 in
    (l.0.history, k.past, l.1, l.2, looked pass old l.1 l.0 l.3, k.sees.added.grows, ap (λ (s : WriterState). s.history) k.now, l.5)

-- the unloads of a history are those among its changes
unloads_in-of : (names : List (List ℕ)) (h : List Entry) → unloads_in (changes_of names h) ≡ unloads h
unloads_in-of names [] = refl
unloads_in-of names (Load n i a ∷ past) = unloads_in-of names past
unloads_in-of names (Unload n ∷ past) = ap suc (unloads_in-of names past)
unloads_in-of names (Announce p seen ∷ past) = unloads_in-of names past
unloads_in-of names (Enter p ∷ past) = unloads_in-of names past
unloads_in-of names (Leave p ∷ past) = unloads_in-of names past
unloads_in-of names (Retire p ∷ past) = unloads_in-of names past
unloads_in-of names (Count ∷ past) = unloads_in-of names past
unloads_in-of names (Look p stamp ∷ past) = unloads_in-of names past

-- a writer at rest has counted its changes
rest_counts : (s : WriterState) → IsAtRest s → counts s.history ≡ length (changes_of s.names s.history)
rest_counts s rest = sym (paced_rest s.history rest.paced rest.counted) ∙ sym (changes_of-length s.names s.history)

pub full_after : (w old new : WriterState) (lives held seen : ℕ) → IsAtRest old → IsAtRest new → IsFull old lives held seen new → AddsChanges old [] new → SameSizes old w → SameSizes old new
    → IsFullAfter w (changes_of old.names old.history) lives held seen old.history new.history
full_after w old new lives held seen was rest full adds sizes same =
    let cs = changes_of old.names old.history in
    let counted = none_counted new.nodes new.passes new.history rest.known.legal full.still in
    let most = waiting_most new.nodes new.passes new.history in
    let gone : unloads_in cs ≡ unloads new.history = ap unloads_in (sym adds) ∙ unloads_in-of new.names new.history in
    let listed : length (list_of cs) ≡ length (live new.history) =
    ap (λ (l : List Change). length (list_of l)) (sym adds) ∙ ap (λ (l : List Named). length l) (lists_made new.nodes new.passes new.names new.history rest.known.legal rest.first) ∙ length-map (live new.history) (named new.names) in
    record {
      found = full.announced;
      few = subst (λ n. full.announced ≤ n) (sym sizes.1) full.few;
      looks = subst (λ n. Looked n old.history full.announced new.history) (sym sizes.1) (looked old.passes old full.announced new full.looks);
      counted = (rest_counts old was, rest_counts new rest ∙ ap (λ (l : List Change). length l) adds);
      none = subst (λ (z : ℕ × ℕ). NoneFree z.0 z.1 new.history) (λ i. ((same.0 ∙ sym sizes.0) i, (same.1 ∙ sym sizes.1) i)) full.still;
      live_is = full.live ∙ sym listed;
      all = full.all ∙ same.0 ∙ sym sizes.0;
      seen_is = full.seen_is ∙ ap (λ n. n * COUNT_UNIT + full.announced) (sym (changes_of-length old.names old.history));
      held_back = full.held_back;
      held_most = (let all = full.all in let live_is = full.live in omega arith);
    }

-- ---- what a line comes to

-- the plans by the changes of the history
by_changes : {A : Type 0} (P : List Change → A) (s : WriterState) (x : A) → P (changes_in (events_of s.names s.history)) ≡ x → P (changes_of s.names s.history) ≡ x
by_changes P s x e = ap P (sym (events-changes s.names s.history)) ∙ e

load_comes : (process : Meanings) (w old new : WriterState) (header : ℕ) (name other : List ℕ) (said : Said) → process.fault header ≡ None → FaultTold None said → NameSaid name said
    → LoadSays header other old said new → IsAtRest old → IsAtRest new → AddsChanges old (changes_by (asked.Load header) other said) new → SameSizes old w → SameSizes old new
    → LoadComesTo process w (changes_of old.names old.history) header name said old.history new.history
load_comes process w old new header name other (NotImage kind) fine fault long says was rest adds sizes same = absurd (fault kind refl)
load_comes process w old new header name other (Worn number) fine fault long says was rest adds sizes same =
    ap outcomes.Worn says.1 ∙ sym (ap whole_outcome (ap (λ o. planned_load o (changes_of old.names old.history) header name) fine ∙ by_changes (λ cs. planned_load None cs header name) old (Err (outcomes.Worn MOST_CHANGES)) (planned_worn old header name says.0)))
load_comes process w old new header name other (Long len) fine fault long says was rest adds sizes same =
    ap outcomes.Long long.1
    ∙ sym (ap whole_outcome (ap (λ o. planned_load o (changes_of old.names old.history) header name) fine ∙ by_changes (λ cs. planned_load None cs header name) old (Err (outcomes.Long (length name))) (planned_long old header name was says.0 long.0)))
load_comes process w old new header name other (Full lives held seen) fine fault long says was rest adds sizes same = (
  (plan_of old header name, ap (λ o. planned_load o (changes_of old.names old.history) header name) fine ∙ by_changes (λ cs. planned_load None cs header name) old (Ok (plan_of old header name)) (planned_fine old header name was says.0 long)),
  (old.history, new.history, ([], refl), full_after w old new lives held seen was rest says.2 adds sizes same, ([], refl)),
)
load_comes process w old new header name other NotLoaded fine fault long says was rest adds sizes same = absurd says
load_comes process w old new header name other (Loaded load) fine fault long says was rest adds sizes same =
    ap outcomes.Loaded says.2.number_is
    ∙ sym (ap whole_outcome (ap (λ o. planned_load o (changes_of old.names old.history) header name) fine ∙ by_changes (λ cs. planned_load None cs header name) old (Ok (plan_of old header name)) (planned_fine old header name was says.0 long)))
load_comes process w old new header name other (Unloaded load) fine fault long says was rest adds sizes same = absurd says

-- a load of an image with a fault
fault_comes : (process : Meanings) (w old new : WriterState) (header : ℕ) (name other : List ℕ) (said : Said) (kind : ℕ) → process.fault header ≡ Some kind → said ≡ NotImage kind
    → LoadComesTo process w (changes_of old.names old.history) header name said old.history new.history
fault_comes process w old new header name other said kind fault is =
    subst (λ (s : Said). LoadComesTo process w (changes_of old.names old.history) header name s old.history new.history) (sym is)
    (sym (ap whole_outcome (ap (λ o. planned_load o (changes_of old.names old.history) header name) fault)))

unload_comes : (old new : WriterState) (header : ℕ) (said : Said) → UnloadSays header old said new → IsAtRest old → outcome_of said ≡ whole_outcome (planned_unload (changes_of old.names old.history) header)
unload_comes old new header (NotImage kind) says was = absurd says
unload_comes old new header (Worn number) says was = ap outcomes.Worn says.1 ∙ sym (ap whole_outcome (by_changes (λ cs. planned_unload cs header) old (Err (outcomes.Worn MOST_CHANGES)) (unplanned_worn old header says.0)))
unload_comes old new header (Long len) says was = absurd says
unload_comes old new header (Full lives held seen) says was = absurd says
unload_comes old new header NotLoaded says was =
    sym (ap whole_outcome (by_changes (λ cs. planned_unload cs header) old (Err outcomes.NotLoaded) (unplanned_none old header was (has_lists old was.known was.first) says.0 says.1)))
unload_comes old new header (Loaded load) says was = absurd says
unload_comes old new header (Unloaded load) says was =
    ap outcomes.Unloaded says.1.2 ∙ sym (ap whole_outcome (by_changes (λ cs. planned_unload cs header) old _ (unplanned_one old header says.1.0 was (has_lists old was.known was.first) says.0 says.1.1)))

some_asked : {a b : Asked} → Some a ≡ Some b → a ≡ b
some_asked {a} {b} e = ap (λ (o : Option Asked). unwrap_or o a) e

abbrev is_some_asked : Option Asked → Bool
is_some_asked None = false
is_some_asked (Some a) = true

none_asked : {P : Type 0} {a : Asked} → None ≡ Some a → P
none_asked e = not_both false (ap is_some_asked e) refl

-- what is done where there is a fault and where there is none
by_fault : {P : Type 0} (fault : Option ℕ) (said : Said) → FaultTold fault said → ((kind : ℕ) → fault ≡ Some kind → said ≡ NotImage kind → P) → (fault ≡ None → FaultTold None said → P) → P
by_fault None said told f g = g refl told
by_fault (Some kind) said told f g = f kind refl told

line_comes : (process : Meanings) (w old new : WriterState) (statement : Statement) (a : Asked) (other : List ℕ) (said : Said) → asked_in statement ≡ Some a → StatementFault process statement said → NameSaid (name_in (Some statement)) said
    → Says a other old said new → IsAtRest old → IsAtRest new → AddsChanges old (changes_by a other said) new → SameSizes old w → SameSizes old new
    → ComesTo process w (changes_of old.names old.history) statement said old.history new.history
line_comes process w old new (statements.Load header name) a other said asks fault long says was rest adds sizes same =
    let is : asked.Load header ≡ a = some_asked asks in
    by_fault (process.fault header) said fault
    (λ kind at told. fault_comes process w old new header name other said kind at told)
    (λ fine none. load_comes process w old new header name other said fine none long (subst (λ x. Says x other old said new) (sym is) says) was rest
    (subst (λ x. AddsChanges old (changes_by x other said) new) (sym is) adds) sizes same)
line_comes process w old new (statements.Unload header) a other said asks fault long says was rest adds sizes same =
    unload_comes old new header said (subst (λ x. Says x other old said new) (sym (some_asked asks)) says) was
line_comes process w old new (statements.BeginLoad header name) a other said asks fault long says was rest adds sizes same = none_asked asks
line_comes process w old new (statements.BeginUnload header) a other said asks fault long says was rest adds sizes same = none_asked asks
line_comes process w old new (statements.Step most) a other said asks fault long says was rest adds sizes same = none_asked asks
line_comes process w old new statements.End a other said asks fault long says was rest adds sizes same = none_asked asks
line_comes process w old new (statements.Enter pass) a other said asks fault long says was rest adds sizes same = none_asked asks
line_comes process w old new (statements.Walk pass most) a other said asks fault long says was rest adds sizes same = none_asked asks
line_comes process w old new (statements.Leave pass) a other said asks fault long says was rest adds sizes same = none_asked asks
line_comes process w old new (statements.Report pass file) a other said asks fault long says was rest adds sizes same = none_asked asks

-- what a line comes to from an earlier moment on
load_from : (process : Meanings) (w : WriterState) (cs : List Change) (header : ℕ) (name : List ℕ) (said : Said) (first from to : List Entry) → Grows first from → LoadComesTo process w cs header name said from to → LoadComesTo process w cs header name said first to
load_from process w cs header name (NotImage kind) first from to grows c = c
load_from process w cs header name (Worn number) first from to grows c = c
load_from process w cs header name (Long len) first from to grows c = c
load_from process w cs header name (Full lives held seen) first from to grows c = (c.0, (c.1.0, c.1.1, grows_again first from c.1.0 grows c.1.2, c.1.3, c.1.4))
load_from process w cs header name NotLoaded first from to grows c = c
load_from process w cs header name (Loaded load) first from to grows c = c
load_from process w cs header name (Unloaded load) first from to grows c = c

comes_from : (process : Meanings) (w : WriterState) (cs : List Change) (statement : Statement) (said : Said) (first from to : List Entry) → Grows first from → ComesTo process w cs statement said from to → ComesTo process w cs statement said first to
comes_from process w cs (statements.Load header name) said first from to grows c = load_from process w cs header name said first from to grows c
comes_from process w cs (statements.Unload header) said first from to grows c = c
comes_from process w cs (statements.BeginLoad header name) said first from to grows c = absurd c
comes_from process w cs (statements.BeginUnload header) said first from to grows c = absurd c
comes_from process w cs (statements.Step most) said first from to grows c = absurd c
comes_from process w cs statements.End said first from to grows c = absurd c
comes_from process w cs (statements.Enter pass) said first from to grows c = absurd c
comes_from process w cs (statements.Walk pass most) said first from to grows c = absurd c
comes_from process w cs (statements.Leave pass) said first from to grows c = absurd c
comes_from process w cs (statements.Report pass file) said first from to grows c = absurd c

-- ---- the journal

-- one line more
accepted_more : (scripts : List ScriptValue) (before : List ChangeLine) (line : ChangeLine) → accepted_changes scripts (before ++ line ∷ []) ≡ change_of scripts line ++ accepted_changes scripts before
accepted_more scripts [] line = sym (append-nil (change_of scripts line))
accepted_more scripts (l ∷ before) line = ap (λ (cs : List Change). cs ++ change_of scripts l) (accepted_more scripts before line) ∙ append_assoc (change_of scripts line) (accepted_changes scripts before) (change_of scripts l)

-- the change of a line, by the name in its statement
change_known : (process : Meanings) (scripts : List ScriptValue) (names : List (List ℕ)) (line : ChangeLine) → IsKnownLine process scripts names line → change_made names line ≡ change_of scripts line
change_known process scripts names line k =
    sym (change_by_names line.wanted.asked (name_in (statement_of scripts line)) line.said names (λ load e. k.named load e ∙ sym (ap name_in k.stands)))

journal_runs : (process : Meanings) (scripts : List ScriptValue) (w start : WriterState) (before lines : List ChangeLine) (end : WriterState) → Applied start lines end → Grows end.history w.history → WentOn end.names w.names → SameSizes end w
    → changes_of start.names start.history ≡ accepted_changes scripts before → AreKnown process scripts w.names lines → JournalRuns process scripts w before start.history lines
journal_runs process scripts w start before [] end a grows went sizes cs known = grows_again start.history end.history w.history a.added.grows grows
journal_runs process scripts w start before (line ∷ lines) end a grows went sizes cs known =
    let old = a.0 in
    let new = a.1 in
    let k = known.0 in
    let same = same_sizes line.wanted.asked a.2 old line.said new a.4.does.says in
    let rest = grows_through new lines end a.5 in
    let later : SameSizes old w = same_again old new w same (same_again new end w (sizes_through new lines end a.5) sizes) in
    let earlier : changes_of old.names old.history ≡ accepted_changes scripts before = a.3.changes ∙ cs in
    let to_new = grows_again start.history old.history new.history a.3.added.grows a.4.does.made.grows in
    let made : changes_by line.wanted.asked a.2 line.said ≡ change_of scripts line = change_then line a.2 old new w.names a.4 (went_again new.names end.names w.names rest.1 went) ∙ change_known process scripts w.names line k in (
      new.history,
      to_new,
      record {
        statement = k.statement;
        stands = k.stands;
        asks = k.asks;
        comes = subst (λ (l : List Change). ComesTo process w l k.statement line.said start.history new.history) earlier
            (comes_from process w (changes_of old.names old.history) k.statement line.said start.history old.history new.history a.3.added.grows
            (line_comes process w old new k.statement line.wanted.asked a.2 line.said k.asks k.fault k.long a.4.does.says a.4.was a.4.rest a.4.does.changes later same));
      },
      journal_runs process scripts w new (before ++ line ∷ []) lines end a.5 grows went sizes
          (a.4.does.changes ∙ (λ i. made i ++ earlier i) ∙ sym (accepted_more scripts before line)) known.1,
    )

pub known_journals_run : (process : Meanings) (scripts : List ScriptValue) (t : TurnState) (w : WriterState) → IsTurn t → HasEnded t w → AreKnown process scripts w.names t.journal → JournalRuns process scripts w [] [] t.journal
known_journals_run process scripts t w turn ended known =
    journal_runs process scripts w (opened_writer t.writer.table t.writer.nodes t.writer.passes) [] t.journal t.writer turn.applied ended.grows ended.went ended.sizes refl known

-- ---- the changes

made_known : (process : Meanings) (scripts : List ScriptValue) (names : List (List ℕ)) (lines : List ChangeLine) → AreKnown process scripts names lines → changes_made names lines ≡ accepted_changes scripts lines
made_known process scripts names [] known = refl
made_known process scripts names (line ∷ lines) known = λ i. made_known process scripts names lines known.1 i ++ change_known process scripts names line known.0 i

pub known_journals_are : (process : Meanings) (scripts : List ScriptValue) (t : TurnState) (w : WriterState) → IsTurn t → HasEnded t w → AreKnown process scripts w.names t.journal
    → changes_of w.names w.history ≡ accepted_changes scripts t.journal
known_journals_are process scripts t w turn ended known =
    ended.changes ∙ journal_is t turn ∙ made_later (opened_writer t.writer.table t.writer.nodes t.writer.passes) t.journal t.writer w.names turn.applied ended.went ∙ made_known process scripts w.names t.journal known
