-- What workers that have run, or that were only hired, leave.
use Rattle.std.proofs.Common.{inl, inr, ◌≡◌, ℕ, zero, suc, ◌+◌, ◌-◌, ◌<◌, ◌≤◌, true, List, [], ◌∷◌, ◌++◌, length, map, get_or, slice_get, take_all, Option, Some, refl, sym, ap, subst, ◌∙◌, arith}
use Rattle.std.specs.Prelude.{All, Vec, reverse, unwrap_or}
use Rattle.std.specs.declared.alloc.Global.{Global}
use Rattle.std.proofs.lemmas.List.{map-append, length-map}
use Rattle.std.proofs.lemmas.List.Elements.{All-nil, All-cons, All-head, All-tail, All-append, All-weaker}
use Rattle.std.proofs.lemmas.Option.{slice_get_within, get_or_from_slice_get}
use Rattle.atomic_table.specs.Seated.{TableId}
use Rattle.crossbeam_queue.specs.Passes.{view}
use Rattle.plcr_nodes.specs.Entries.{among, WentOn}
use Rattle.plcr_imagelist.specs.States.{WriterState, IsAtRest}
use Rattle.plcr_imagelist.specs.Holds.{WalkerState}
use Rattle.plcr_io.specs.Desk.{Told}
use Rattle.plcr_script.specs.Scripts.{ScriptValue}
use Rattle.plcr_script.specs.Reading.{files_of}
use Rattle.plcr_core.specs.declared.read.Core.{Core}
use Rattle.plcr_core.specs.Cores.{AreThreads}
use Rattle.plcr_macho.specs.Images.{Listed}
use Rattle.plcr_report.specs.Spelling.{spelling_of}
use Rattle.plcr_encode.specs.declared.context.Context.{Context}
use Rattle.plcr_encode.specs.Conditions.{AreWhole, IsWritable}
use Rattle.plcr_encode.specs.Values.{process_report}
use Rattle.plcr_script.specs.Contexts.{context_of, SaysSame}
use Rattle.plcr_script.specs.Lawful.{IsLawful}
use Rattle.plcr_script.specs.Meanings.{Meanings, meanings}
use Rattle.plcr_script.proofs.SameContexts.{same_writable}
use Rattle.plcr_command.specs.Process.{fault_at, meanings_of}
use Rattle.plcr_command.proofs.Reported.{report_is, threads_writable}
use Rattle.plcr_turns.specs.declared.lines.ChangeLine.{ChangeLine}
use Rattle.plcr_turns.specs.declared.view.View.{View}
use Rattle.plcr_turns.specs.Gathering.{AreWorking, HasGathered}
use Rattle.plcr_turns.specs.Lines.{lines_of}
use Rattle.plcr_turns.specs.Turns.{IsTurn, TurnState}
use Rattle.plcr_turns.specs.Views.{IsTaken}
use Rattle.plcr_turns.proofs.Fronts.{all_front}
use Rattle.plcr_workers.specs.declared.drafts.Draft.{Draft}
use Rattle.plcr_workers.specs.declared.drafts.Progress.TheVariants.{Written}
use Rattle.plcr_workers.specs.declared.lines.PassLine.{PassLine}
use Rattle.plcr_workers.specs.declared.worker.Worker.{Worker}
use Rattle.plcr_workers.specs.Command.{IsJournalOf, IsWriterOf, meanings_in}
use Rattle.plcr_workers.specs.Log.{file_of}
use Rattle.plcr_workers.specs.inner.Drafts.{AreSamePlaces, HasTaken, HaveTaken}
use Rattle.plcr_workers.specs.inner.Hired.{IsHired, IsReadyToRun, IsGone, IsWholeOf, AreNew, AreNumbered, AreFromTheLast, lines_left, passes_left, views_of, AreSizesOf, KnowsSameSizes}
use Rattle.plcr_workers.specs.inner.Own.{HaveOwnLines, KnowsOwnOf}
use Rattle.plcr_workers.specs.Known.{HasEnded}
use Rattle.plcr_workers.proofs.Joined.{AllKnow, all_known, first_applied, outputs_each, pass_of, whole_applied}
use Rattle.plcr_workers.proofs.Outcomes.{known_journals_are, known_journals_run}
use Rattle.plcr_workers.proofs.Owned.{nothing_own}
use Rattle.plcr_workers.specs.inner.Outputs.{AllMade, AreDone, AreMade, AreSameWorkers, IsDraftOf, IsSameWorker, draft_names, name_at, outputs_of}
use Rattle.plcr_workers.specs.inner.Stages.{AppliesAll, AreLinesOf, HasMetThese, HasWorked}

-- ---- the outputs

pub all_behind : {A : Type 0} (P : A → Type 0) (xs ys : List A) → All P (xs ++ ys) → All P ys
all_behind P [] ys all = all
all_behind P (x ∷ xs) ys all = all_behind P xs ys (All-tail P x (xs ++ ys) all)

done_both : {K : Type 0} (faults : K → ℕ) (first second : List (Draft K)) → AreDone faults first → AreDone faults second → AreDone faults (first ++ second)
done_both faults [] second a b = b
done_both faults (d ∷ first) second (inl h) b = inl (h.0, done_both faults first second h.1 b)
done_both faults (d ∷ first) second (inr h) b = inr h

module _ {K : Type 0} (scripts : List ScriptValue) where
  same_names : (olds news : List (Draft K)) → AreSamePlaces olds news → draft_names scripts news ≡ draft_names scripts olds
  same_names [] [] same = refl
  same_names [] (n ∷ news) same = absurd (let count = same.count in omega (arith, count))
  same_names (o ∷ olds) [] same = absurd (let count = same.count in omega (arith, count))
  same_names (o ∷ olds) (n ∷ news) same =
      let first = same.each 0 o (omega arith) in
      let rest = same_names olds news (record { count = (let count = same.count in omega (arith, count)); each = λ k other less. same.each (suc k) other (omega (arith, less)) }) in
      λ i. name_at scripts (first.0 i) (first.1 i) ∷ rest i

  same_are : (olds news : List (Draft K)) → AreSamePlaces olds news → All (IsDraftOf scripts) olds → All (IsDraftOf scripts) news
  same_are [] [] same all = All-nil (IsDraftOf scripts)
  same_are [] (n ∷ news) same all = absurd (let count = same.count in omega (arith, count))
  same_are (o ∷ olds) [] same all = absurd (let count = same.count in omega (arith, count))
  same_are (o ∷ olds) (n ∷ news) same all =
      let first = same.each 0 o (omega arith) in
      let is = All-head (IsDraftOf scripts) o olds all in
      All-cons (IsDraftOf scripts) n news
      (record { value = is.value; stands = ap (slice_get scripts) first.0 ∙ is.stands; within = (let within = is.within in let at = first.1 in omega (arith, within, at)) })
      (same_are olds news (record { count = (let count = same.count in omega (arith, count)); each = λ k other less. same.each (suc k) other (omega (arith, less)) }) (All-tail (IsDraftOf scripts) o olds all))

-- workers that took their reports have the outputs that they had
pub record OutputsTaken {K : Type 0} (faults : K → ℕ) (scripts : List ScriptValue) (olds news : List (Worker K)) : Type 0 where
  pub names : draft_names scripts (outputs_of news) ≡ draft_names scripts (outputs_of olds)
  pub are : All (IsDraftOf scripts) (outputs_of news)
  pub done : AreDone faults (outputs_of news)

pub outputs_taken : {K : Type 0} (faults : K → ℕ) (scripts : List ScriptValue) (olds news : List (Worker K)) → HaveTaken faults olds news → All (IsDraftOf scripts) (outputs_of olds) → OutputsTaken faults scripts olds news
outputs_taken faults scripts [] [] taken all = record { names = refl; are = all; done = tt }
outputs_taken faults scripts [] (n ∷ news) taken all = absurd (let count = taken.count in omega (arith, count))
outputs_taken faults scripts (o ∷ olds) [] taken all = absurd (let count = taken.count in omega (arith, count))
outputs_taken {K = K} faults scripts (o ∷ olds) (n ∷ news) taken all =
    let first : HasTaken faults o n = taken.each 0 o (omega arith) in
    let rest = outputs_taken faults scripts olds news (record { count = (let count = taken.count in omega (arith, count)); each = λ k other less. taken.each (suc k) other (omega (arith, less)) })
    (all_behind (IsDraftOf scripts) o.drafts.items (outputs_of olds) all) in
    let Named : Draft K → List ℕ = λ d. name_at scripts d.script d.at in
    record {
      names = map-append Named n.drafts.items (outputs_of news) ∙ (λ i. same_names scripts o.drafts.items n.drafts.items first.places i ++ rest.names i) ∙ sym (map-append Named o.drafts.items (outputs_of olds));
      are = All-append (IsDraftOf scripts) n.drafts.items (outputs_of news) (same_are scripts o.drafts.items n.drafts.items first.places (all_front (IsDraftOf scripts) o.drafts.items (outputs_of olds) all)) rest.are;
      done = done_both faults n.drafts.items (outputs_of news) first.done rest.done;
    }

-- ---- workers that never ran

pub none_all : {A : Type 0} (P : A → Type 0) (xs : List A) → length xs ≡ 0 → All P xs
none_all P [] none = All-nil P
none_all P (x ∷ xs) none = absurd (omega (arith, none))

pub hired_gone : {K : Type 0} (queue list : TableId) (scripts : List ScriptValue) (w : Worker K) → IsHired queue list scripts w → IsGone queue list scripts w
hired_gone queue list scripts w h = record {
  script = h.script;
  stands = h.stands;
  pass = h.ready.begins.pass;
  count = 0;
  so_far = h.ready.begins.so_far;
  image = h.ready.image;
  lines = none_all (λ (l : PassLine). l.at < length h.script.statements) w.lines.items (sym w.lines.ok.0 ∙ h.ready.begins.none);
}

-- ---- the other lines

pub record LeftAt {K : Type 0} (workers : List (Worker K)) (k : ℕ) (other : Vec PassLine Global) : Type 0 where
  pub worker : Worker K
  pub is : (d : Worker K) → get_or workers k d ≡ worker
  pub lines : get_or (lines_left workers) k other ≡ worker.lines

left_at : {K : Type 0} (workers : List (Worker K)) (k : ℕ) (other : Vec PassLine Global) → k < length workers → LeftAt workers k other
left_at [] k other less = absurd (omega (arith, less))
left_at (w ∷ workers) zero other less = record { worker = w; is = λ d. refl; lines = refl }
left_at (w ∷ workers) (suc k) other less =
    let rest = left_at workers k other (omega (arith, less)) in
    record { worker = rest.worker; is = rest.is; lines = rest.lines }

left_count : {K : Type 0} (workers : List (Worker K)) → length (lines_left workers) ≡ length workers
left_count [] = refl
left_count (w ∷ workers) = let rest = left_count workers in omega (arith, rest)

some_script : {s t : ScriptValue} → Some s ≡ Some t → s ≡ t
some_script {s} {t} e = ap (λ (o : Option ScriptValue). unwrap_or o s) e

pub lines_are : {K : Type 0} (queue list : TableId) (scripts : List ScriptValue) (workers : List (Worker K)) → length workers ≡ length scripts → AreNumbered workers → All (λ w. IsGone queue list scripts w) workers → AreLinesOf scripts (lines_left workers)
lines_are {K = K} queue list scripts workers count numbers gone = record {
  count = left_count workers ∙ count;
  each = λ k other script stands. one k other script stands;
}
  where
    one : (k : ℕ) (other : Vec PassLine Global) (script : ScriptValue) → slice_get scripts k ≡ Some script → All (λ (l : PassLine). l.at < length script.statements) (get_or (lines_left workers) k other).items
    one k other script stands =
        let within : k < length workers = let w = slice_get_within scripts k script stands in omega (arith, w, count) in
        let l = left_at workers k other within in
        let g : IsGone queue list scripts l.worker = subst (λ (w : Worker K). IsGone queue list scripts w) (l.is l.worker) (gone k l.worker within) in
        let number : l.worker.script ≡ k = ap (λ (w : Worker K). w.script) (sym (l.is l.worker)) ∙ numbers k l.worker within in
        let same : g.script ≡ script = some_script (sym g.stands ∙ ap (slice_get scripts) number ∙ stands) in
        subst (λ (v : Vec PassLine Global). All (λ (p : PassLine). p.at < length script.statements) v.items) (sym l.lines)
        (subst (λ (s : ScriptValue). All (λ (p : PassLine). p.at < length s.statements) l.worker.lines.items) same g.lines)

-- ---- the passes

abbrev no_pass : TableId → WalkerState
no_pass list = record { table = list; nodes = 0; passes = 0; number = 0; history = []; names = [] }

all_met : (list : TableId) (count : ℕ) (images : List WalkerState) (old new : WriterState) → length images ≡ count → AreFromTheLast count list images → HasMetThese images old new → (pass : ℕ) → pass < count → among pass new.joined ≡ true
all_met list count images old new long are met pass less =
    let place : ℕ = count - (pass + 1) in
    let within : place < length images = omega (arith, less, long) in
    let number = (are place (no_pass list) within).1 in
    let same : (get_or images place (no_pass list)).number ≡ pass = omega (arith, number, less) in
    subst (λ (n : ℕ). among n new.joined ≡ true) same (met.joined place (no_pass list) within)

pub writer_is : (list : TableId) (scripts : List ScriptValue) (images : List WalkerState) (old new : WriterState) → length images ≡ length scripts → AreFromTheLast (length scripts) list images → HasMetThese images old new → AreSizesOf scripts old.nodes old.passes → IsAtRest new → IsWriterOf scripts (Some new)
writer_is list scripts images old new long are met sizes rest = record {
  writer = new;
  is = refl;
  known = rest.known;
  first = rest.first;
  paced = rest.paced;
  met = all_met list (length scripts) images old new long are met;
  nodes_are = λ script first. met.sizes.0 ∙ sizes.0 script first;
  passes_are = met.sizes.1 ∙ sizes.1;
}

-- the turn that was taken last is of a list of the same sizes
pub sizes_taken : (scripts : List ScriptValue) (old new : View) (t : TurnState) → AreSizesOf scripts old.nodes old.passes → KnowsSameSizes old new → (new.nodes ≡ t.writer.nodes) × (new.passes ≡ t.writer.passes) → AreSizesOf scripts t.writer.nodes t.writer.passes
sizes_taken scripts old new t sizes same taken = (λ script first. sym taken.0 ∙ same.0 ∙ sizes.0 script first, sym taken.1 ∙ same.1 ∙ sizes.1)

-- ---- workers that have their outputs

-- of a worker that is the same but for its outputs
hired_as : {K : Type 0} (queue list : TableId) (scripts : List ScriptValue) (o n : Worker K) → IsSameWorker o n → IsHired queue list scripts o → IsHired queue list scripts n
hired_as {K = K} queue list scripts o n same h = subst (λ (w : Worker K). IsHired queue list scripts w) (sym same) (record {
  script = h.script;
  stands = h.stands;
  ready = record {
    begins = record { pass = h.ready.begins.pass; few = h.ready.begins.few; so_far = h.ready.begins.so_far; room = h.ready.begins.room; none = h.ready.begins.none };
    image = record { image = h.ready.image.image; held = h.ready.image.held; walks = h.ready.image.walks; number = h.ready.image.number };
  };
})

pub hired_same : {K : Type 0} (queue list : TableId) (scripts : List ScriptValue) (olds news : List (Worker K)) → AreSameWorkers olds news → All (λ w. IsHired queue list scripts w) olds → All (λ w. IsHired queue list scripts w) news
hired_same queue list scripts olds news same hired k other within =
    let less : k < length olds = let count = same.count in omega (arith, count, within) in
    hired_as queue list scripts (get_or olds k other) (get_or news k other) (same.each k other less) (hired k other less)

pub gone_all : {K : Type 0} (queue list : TableId) (scripts : List ScriptValue) (workers : List (Worker K)) → All (λ w. IsHired queue list scripts w) workers → All (λ w. IsGone queue list scripts w) workers
gone_all queue list scripts workers hired k other within = hired_gone queue list scripts (get_or workers k other) (hired k other within)

pub numbered_same : {K : Type 0} (scripts : List ScriptValue) (olds news : List (Worker K)) → AreNew scripts olds → AreSameWorkers olds news → AreNumbered news
numbered_same scripts olds news new same k other within =
    let less : k < length olds = let count = same.count in omega (arith, count, within) in
    ap (λ (w : Worker _). w.script) (same.each k other less) ∙ (new k other less).number

pub numbered_taken : {K : Type 0} (faults : K → ℕ) (olds news : List (Worker K)) → AreNumbered olds → HaveTaken faults olds news → AreNumbered news
numbered_taken faults olds news numbers taken k other within =
    let less : k < length olds = let count = taken.count in omega (arith, count, within) in
    (taken.each k other less).number ∙ numbers k other less

ready_one : {K : Type 0} (faults : K → ℕ) (queue list : TableId) (scripts : List ScriptValue) (w : Worker K) (h : IsHired queue list scripts w) → AreMade faults w.script h.script.statements (length h.script.statements) w.drafts.items → HaveOwnLines h.script.statements → IsReadyToRun faults queue list scripts w
ready_one faults queue list scripts w h made apart =
    let a = ap length made.names in
    let b = length-map w.drafts.items (λ (d : Draft _). file_of (slice_get h.script.statements d.at)) in
    let c = ap (λ l. length (files_of l)) (take_all (length h.script.statements) h.script.statements (omega arith)) in
    record {
      script = h.script;
      stands = h.stands;
      ready = h.ready;
      outputs = record {
        count = omega (arith, a, b, c);
        waiting = All-weaker (λ (d : Draft _). (d.script ≡ w.script) × (d.at < length h.script.statements) × (faults d.out ≡ 0)) (λ (d : Draft _). faults d.out ≡ 0) (λ d one. one.2) w.drafts.items made.each;
      };
      apart = apart;
    }

pub ready_all : {K : Type 0} (faults : K → ℕ) (queue list : TableId) (scripts : List ScriptValue) (workers : List (Worker K)) (old new : Told) → AllMade faults scripts workers old new → AreNumbered workers → All (λ w. IsHired queue list scripts w) workers
    → All (λ (script : ScriptValue). HaveOwnLines script.statements) scripts → All (λ w. IsReadyToRun faults queue list scripts w) workers
ready_all faults queue list scripts workers old new made numbers hired apart k other within =
    let w = get_or workers k other in
    let h = hired k other within in
    let number : w.script ≡ k = numbers k other within in
    let stands : slice_get scripts k ≡ Some h.script = ap (slice_get scripts) (sym number) ∙ h.stands in
    let here = slice_get_within scripts k h.script stands in
    let own = subst (λ (s : ScriptValue). HaveOwnLines s.statements) (get_or_from_slice_get scripts k h.script h.script stands) (apart k h.script here) in
    ready_one faults queue list scripts w h (subst (λ (n : ℕ). AreMade faults n h.script.statements (length h.script.statements) w.drafts.items) (sym number) (made.each k other h.script stands within)) own

pub has_worked : {K : Type 0} (faults : K → ℕ) (scripts : List ScriptValue) (olds news : List (Worker K)) (old new : Told) → AllMade faults scripts olds old new → HaveTaken faults olds news → All (λ w. IsWholeOf scripts w) news → HasWorked faults scripts news old new
has_worked faults scripts olds news old new made taken wholes =
    let t = outputs_taken faults scripts olds news taken made.are in
    record { made = made.made; names = t.names ∙ made.names; are = t.are; done = t.done; wholes = wholes }

-- ---- what workers know that never ran

pub hired_knows : {K : Type 0} (process : Meanings) (queue list : TableId) (scripts : List ScriptValue) (w : Worker K) → IsHired queue list scripts w → KnowsOwnOf process scripts w
hired_knows process queue list scripts w h = record {
  script = h.script;
  stands = h.stands;
  knows = record {
    image = h.ready.image.image;
    held = h.ready.image.held;
    own = nothing_own process h.script.statements h.ready.image.image.names (lines_of w.script (view w.turns).journal) h.ready.begins.so_far.lines;
  };
}

pub know_all : {K : Type 0} (process : Meanings) (queue list : TableId) (scripts : List ScriptValue) (workers : List (Worker K)) → All (λ w. IsHired queue list scripts w) workers → All (λ w. KnowsOwnOf process scripts w) workers
know_all process queue list scripts workers hired k other within = hired_knows process queue list scripts (get_or workers k other) (hired k other within)

-- ---- the journal

module _ {K : Type 0} (process : Meanings) (queue list : TableId) (scripts : List ScriptValue) (workers : List (Worker K)) (chief : View) (t : TurnState) (images : List WalkerState) (w : WriterState) (count : length workers ≡ length scripts) (numbers : AreNumbered workers)
    (gathered : HasGathered (length scripts) list (views_of workers) chief) (working : AreWorking 0 list (views_of workers)) (gone : All (λ x. IsGone queue list scripts x) workers) (own : All (λ x. KnowsOwnOf process scripts x) workers) (taken : IsTaken chief t) (turn : IsTurn t)
    (left : map Some images ≡ reverse (passes_left workers)) (met : HasMetThese images t.writer w) where
  all_know : AllKnow process queue list scripts workers chief t w.names
  all_know = record {
    gathered = gathered;
    working = working;
    numbers = numbers;
    count = count;
    gone = gone;
    own = own;
    met = λ n x image at has. pass_of (λ (i : WalkerState). WentOn i.names w.names) workers images n x image left met.known at has;
    taken = taken;
    turn = turn;
  }

  pub journal_is : IsJournalOf process scripts t.journal w
  journal_is =
      let ended : HasEnded t w = record { grows = met.grows; went = met.went; changes = met.changes; sizes = met.sizes } in
      let known = all_known process queue list scripts workers chief t w.names all_know in
      record {
        lines = first_applied process queue list scripts workers chief t w.names all_know;
        alone = subst (λ (n : ℕ). All (λ (l : ChangeLine). l.script < n) t.journal) (sym taken.count ∙ gathered.count_is) turn.alone;
        changes = known_journals_are process scripts t w turn ended known;
        outcomes = known_journals_run process scripts t w turn ended known;
      }

  pub journal_applies : AppliesAll scripts workers t.journal
  journal_applies wholes written = whole_applied process queue list scripts workers chief t w.names all_know wholes (outputs_each (λ (d : Draft K). d.progress ≡ Written) workers written)

pub few_lines : (count : ℕ) (list : TableId) (views : List View) (chief : View) (t : TurnState) → HasGathered count list views chief → IsTaken chief t → IsTurn t → All (λ (l : ChangeLine). l.script < count) t.journal
few_lines count list views chief t gathered taken turn = subst (λ (n : ℕ). All (λ (l : ChangeLine). l.script < n) t.journal) (sym taken.count ∙ gathered.count_is) turn.alone

pub same_table : (count : ℕ) (list : TableId) (views : List View) (chief : View) (t : TurnState) → HasGathered count list views chief → IsTaken chief t → t.writer.table ≡ list
same_table count list views chief t gathered taken = some_table (sym taken.list ∙ gathered.list_is)
  where
    some_table : {a b : TableId} → Some a ≡ Some b → a ≡ b
    some_table {a} {b} e = ap (λ (o : Option TableId). unwrap_or o a) e

-- ---- what the core means to the run

meanings_same : (fault : ℕ → Option ℕ) (r q : List Listed → List ℕ) → ((images : List Listed) → r images ≡ q images) → meanings fault r ≡ meanings fault q
meanings_same fault r q same i = meanings fault (λ images. same images i)

meanings_first : (core : Core) (scripts : List ScriptValue) (d : ScriptValue) → 1 ≤ length scripts → meanings_in core scripts ≡ meanings_of core (get_or scripts 0 d)
meanings_first core [] d some = absurd (omega (arith, some))
meanings_first core (script ∷ scripts) d some = refl

-- by the context of the first script
pub meanings_are : (core : Core) (scripts : List ScriptValue) (first : ScriptValue) (context : Context) → 1 ≤ length scripts → first ≡ get_or scripts 0 first → SaysSame context (context_of first core.arch)
    → meanings (fault_at core) (λ images. spelling_of (process_report context core.threads core.memory images)) ≡ meanings_in core scripts
meanings_are core scripts first context some is same =
    meanings_same (fault_at core) _ _ (report_is core first context same) ∙ ap (λ (s : ScriptValue). meanings_of core s) is ∙ sym (meanings_first core scripts first some)

-- the context can be handed in
pub context_fits : (core : Core) (scripts : List ScriptValue) (first : ScriptValue) (context : Context) → 1 ≤ length scripts → first ≡ get_or scripts 0 first → SaysSame context (context_of first core.arch) → AreThreads core.arch core.threads → All IsLawful scripts
    → AreWhole context.arch core.threads × IsWritable context
context_fits core scripts first context some is same threads lawful =
    let one : IsLawful first = subst IsLawful (sym is) (lawful 0 first (omega (arith, some))) in
    (rw same.arch (threads_writable core.arch core.threads threads), same_writable context (context_of first core.arch) same (one.writable core.arch))
