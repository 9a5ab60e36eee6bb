-- Where all workers ran their scripts whole, their lines and files are those of runs of the scripts over the one history.
use Rattle.std.proofs.Common.{◌≡◌, ℕ, zero, suc, ◌+◌, List, [], ◌∷◌, ◌++◌, length, map, reverse, slice_get, All, Option, Some, refl, sym, ap, ◌∙◌, subst, length-append, zero-add, arith}
use Rattle.std.proofs.lemmas.List.{nil_from_length}
use Rattle.std.proofs.lemmas.Option.{slice_get_within, get_or_from_slice_get}
use Rattle.atomic_table.specs.Seated.{TableId}
use Rattle.crossbeam_queue.specs.Passes.{view}
use Rattle.plcr_machine.specs.Lists.{Grows}
use Rattle.plcr_machine.specs.Parts.{own_entries}
use Rattle.plcr_nodes.specs.Entries.{WentOn}
use Rattle.plcr_imagelist.specs.Holds.{WalkerState}
use Rattle.plcr_imagelist.specs.States.{WriterState, IsAtRest}
use Rattle.plcr_script.specs.Meanings.{Meanings}
use Rattle.plcr_script.specs.Reading.{files_of, written_by}
use Rattle.plcr_script.specs.Scripts.{ScriptValue}
use Rattle.plcr_command.specs.Endings.{kept_names}
use Rattle.plcr_turns.specs.declared.lines.ChangeLine.{ChangeLine}
use Rattle.plcr_turns.specs.declared.view.View.{View}
use Rattle.plcr_turns.specs.Gathering.{AreWorking, HasGathered}
use Rattle.plcr_turns.specs.Lines.{lines_of}
use Rattle.plcr_turns.specs.Turns.{IsTurn, TurnState}
use Rattle.plcr_turns.specs.Views.{IsTaken}
use Rattle.plcr_turns.proofs.Gathered.{each_once}
use Rattle.plcr_turns.proofs.Turned.{lines_more}
use Rattle.plcr_workers.specs.declared.drafts.Draft.{Draft}
use Rattle.plcr_workers.specs.declared.drafts.Progress.TheVariants.{Written}
use Rattle.plcr_workers.specs.declared.places.Place.TheVariants.{Out}
use Rattle.plcr_workers.specs.declared.worker.Worker.{Worker}
use Rattle.plcr_workers.specs.Scripts.{IsScriptRun}
use Rattle.plcr_workers.specs.Threads.{ScriptsRun}
use Rattle.plcr_workers.specs.inner.Hired.{AreNumbered, views_of, passes_left, lines_left}
use Rattle.plcr_workers.specs.inner.Outputs.{AreFiles, draft_names, name_at, outputs_of}
use Rattle.plcr_workers.specs.inner.Places.{walker_of}
use Rattle.plcr_workers.specs.inner.Stages.{HasMetThese, HaveRun, items_of}
use Rattle.plcr_workers.specs.inner.Traces.{HaveBytes, IsActed, IsRunnable, Ran}
use Rattle.plcr_workers.proofs.Freshly.{GoesOnFrom}
use Rattle.plcr_workers.proofs.Joined.{outputs_each, pass_of, some_same}
use Rattle.plcr_workers.proofs.Passing.{again}
use Rattle.plcr_workers.proofs.Running.{Ended, script_ran}
use Rattle.plcr_workers.proofs.Stayed.{World, out_goes, pairs, ran_goes}
use Rattle.plcr_workers.proofs.Tracing.{ran_count}

-- ---- files

pairs_both : (names more : List (List ℕ)) (bytes later : List (List ℕ)) → length names ≡ length bytes → pairs (names ++ more) (bytes ++ later) ≡ pairs names bytes ++ pairs more later
pairs_both [] more [] later same = refl
pairs_both [] more (b ∷ bytes) later same = absurd (omega (arith, same))
pairs_both (n ∷ names) more [] later same = absurd (omega (arith, same))
pairs_both (n ∷ names) more (b ∷ bytes) later same = ap (λ (l : List (List ℕ × List ℕ)). (n, b) ∷ l) (pairs_both names more bytes later (omega (arith, same)))

bytes_both : {K : Type 0} (written : K → Option (List ℕ)) (first second : List (Draft K)) (wrote later : List (List ℕ)) → HaveBytes written first wrote → HaveBytes written second later → HaveBytes written (first ++ second) (wrote ++ later)
bytes_both written [] second [] later a b = b
bytes_both written [] second (w ∷ wrote) later a b = absurd a
bytes_both written (d ∷ first) second [] later a b = absurd a
bytes_both written (d ∷ first) second (w ∷ wrote) later a b = (a.0, bytes_both written first second wrote later a.1 b)

pub are_files : {K : Type 0} (written : K → Option (List ℕ)) (scripts : List ScriptValue) (drafts : List (Draft K)) (wrote : List (List ℕ)) → HaveBytes written drafts wrote → AreFiles written scripts drafts (pairs (draft_names scripts drafts) wrote)
are_files written scripts [] [] told = refl
are_files written scripts [] (w ∷ wrote) told = absurd told
are_files written scripts (d ∷ drafts) [] told = absurd told
are_files written scripts (d ∷ drafts) (w ∷ wrote) told = (refl, told.0, are_files written scripts drafts wrote told.1)

-- ---- one script

-- a script's run, with the reports of its outputs
record OneRun {K : Type 0} (written : K → Option (List ℕ)) (process : Meanings) (w : WriterState) (journal : List ChangeLine) (number : ℕ) (script : ScriptValue) (worker : Worker K) : Type 0 where
  wrote : List (List ℕ)
  count : length (files_of script.statements) ≡ length wrote
  told : HaveBytes written worker.drafts.items wrote
  run : IsScriptRun process w journal number script worker.lines.items (pairs (files_of script.statements) wrote)

-- what the workers left, with the turn that was taken last and the writer once it has met all passes
pub record AllLeft {K : Type 0} (list : TableId) (count : ℕ) (workers : List (Worker K)) (chief : View) (t : TurnState) (images : List WalkerState) (w : WriterState) : Type 0 where
  pub gathered : HasGathered count list (views_of workers) chief
  pub working : AreWorking 0 list (views_of workers)
  pub numbers : AreNumbered workers
  pub taken : IsTaken chief t
  pub turn : IsTurn t
  pub passes : map Some images ≡ reverse (passes_left workers)
  pub met : HasMetThese images t.writer w
  pub rest : IsAtRest w

view_at : {K : Type 0} (workers : List (Worker K)) (n : ℕ) (w : Worker K) → slice_get workers n ≡ Some w → slice_get (views_of workers) n ≡ Some (view w.turns)
view_at [] n w at = absurd cc
view_at (x ∷ workers) zero w at = ap (λ (y : Worker _). Some (view y.turns)) (some_same at)
view_at (x ∷ workers) (suc n) w at = view_at workers n w at

-- the last journal goes on from what a worker saw, by lines of others
goes_from : (script : ℕ) (journal : List ChangeLine) (v : View) (rest : List ChangeLine) → v.journal ++ rest ≡ journal → lines_of script journal ≡ lines_of script v.journal → GoesOnFrom script journal v
goes_from script journal v rest is same =
    let parts = ap length (sym (ap (lines_of script) is) ∙ lines_more script v.journal rest ∙ refl) in
    let all : length (lines_of script journal) ≡ length (lines_of script v.journal ++ lines_of script rest) = ap length (sym (ap (lines_of script) is) ∙ lines_more script v.journal rest) in
    let long = length-append (lines_of script v.journal) (lines_of script rest) in
    let few = ap length same in
    record { rest = rest; is = sym is; none = nil_from_length (lines_of script rest) (omega (arith, all, long, few)) }

one_run : {K : Type 0} (written : K → Option (List ℕ)) (process : Meanings) (list : TableId) (count : ℕ) (scripts : List ScriptValue) (workers : List (Worker K)) (chief : View) (t : TurnState) (images : List WalkerState) (w : WriterState)
    → AllLeft list count workers chief t images w → (n : ℕ) (script : ScriptValue) (worker : Worker K) → slice_get workers n ≡ Some worker → slice_get scripts n ≡ Some script → worker.script ≡ n
    → IsRunnable script → IsActed written process.report scripts worker → All (λ (d : Draft K). d.progress ≡ Written) worker.drafts.items → OneRun written process w t.journal n script worker
one_run {K} written process list count scripts workers chief t images w a n script worker at stands number may acted whole =
    let g = acted.gone whole in
    let same : acted.script ≡ script = some_same (sym acted.stands ∙ ap (slice_get scripts) number ∙ stands) in
    let once = each_once count list (views_of workers) chief t a.gathered a.working a.taken a.turn n (view worker.turns) (view_at workers n worker at) in
    let ran = subst (λ (s : ScriptValue). Ran process.report worker.script 0 s.statements (Out g.first) g.start worker.lines.items g.wrote g.place (view worker.turns)) same g.ran in
    let W : World = record {
      process = process;
      script = worker.script;
      journal = t.journal;
      names = w.names;
      place = g.place;
      view = view worker.turns;
      final = g.last;
      goes = subst (λ k. GoesOnFrom k t.journal (view worker.turns)) (sym number) (goes_from n t.journal (view worker.turns) once.0.0 once.0.1 once.1);
      out = g.out;
      named = pass_of (λ (i : WalkerState). WentOn i.names w.names) workers images n worker g.last a.passes a.met.known at g.is;
    } in
    let goes = again g.first (walker_of g.place) g.last (ran_goes process.report worker.script 0 script.statements (Out g.first) g.start worker.lines.items g.wrote g.place (view worker.turns) ran) (out_goes g.place g.last g.out) in
    let last_number : g.last.number ≡ worker.script = goes.number ∙ g.number in
    let own = pass_of (λ (i : WalkerState). own_entries i.number w.history ≡ own_entries i.number i.history) workers images n worker g.last a.passes a.met.own at g.is in
    let ended : Ended W w = record {
      names_are = refl;
      rest = a.rest;
      grows = pass_of (λ (i : WalkerState). Grows i.history w.history) workers images n worker g.last a.passes a.met.seen at g.is;
      own = subst (λ k. own_entries k w.history ≡ own_entries k g.last.history) last_number own;
    } in
    let run = script_ran W w script g.first g.start worker.lines.items g.wrote ran may.0 may.1 g.number (ap (own_entries worker.script) g.none) g.empty ended in
    record {
      wrote = g.wrote;
      count = sym (ran_count process.report worker.script 0 script.statements (Out g.first) g.start worker.lines.items g.wrote g.place (view worker.turns) ran);
      told = g.bytes;
      run = subst (λ k. IsScriptRun process w t.journal k script worker.lines.items (pairs (files_of script.statements) g.wrote)) number run;
    }

-- ---- all scripts

record AllRun {K : Type 0} (written : K → Option (List ℕ)) (process : Meanings) (w : WriterState) (journal : List ChangeLine) (number : ℕ) (scripts : List ScriptValue) (workers : List (Worker K)) : Type 0 where
  wrote : List (List ℕ)
  told : HaveBytes written (outputs_of workers) wrote
  runs : ScriptsRun process w journal number scripts (items_of (lines_left workers)) (pairs (written_by scripts) wrote)

all_run : {K : Type 0} (written : K → Option (List ℕ)) (process : Meanings) (w : WriterState) (journal : List ChangeLine) (number : ℕ) (scripts : List ScriptValue) (workers : List (Worker K)) → length workers ≡ length scripts
    → ((k : ℕ) (script : ScriptValue) (worker : Worker K) → slice_get workers k ≡ Some worker → slice_get scripts k ≡ Some script → OneRun written process w journal (number + k) script worker) → AllRun written process w journal number scripts workers
all_run written process w journal number [] [] count each = record { wrote = []; told = tt; runs = (refl, refl) }
all_run written process w journal number [] (x ∷ workers) count each = absurd (omega (arith, count))
all_run written process w journal number (s ∷ scripts) [] count each = absurd (omega (arith, count))
all_run written process w journal number (s ∷ scripts) (x ∷ workers) count each =
    let here : number + 0 ≡ number = omega arith in
    let one = each 0 s x refl refl in
    let rest = all_run written process w journal (suc number) scripts workers (omega (arith, count))
    (λ k script worker at stands. (let next : number + suc k ≡ suc number + k = omega arith in subst (λ n. OneRun written process w journal n script worker) next (each (suc k) script worker at stands))) in
    record {
      wrote = one.wrote ++ rest.wrote;
      told = bytes_both written x.drafts.items (outputs_of workers) one.wrote rest.wrote one.told rest.told;
      runs = (
        pairs (files_of s.statements) one.wrote,
        pairs (written_by scripts) rest.wrote,
        pairs_both (files_of s.statements) (written_by scripts) one.wrote rest.wrote one.count,
        subst (λ n. IsScriptRun process w journal n s x.lines.items (pairs (files_of s.statements) one.wrote)) here one.run,
        rest.runs,
      );
    }

pairs_names : {K : Type 0} (written : K → Option (List ℕ)) (scripts : List ScriptValue) (drafts : List (Draft K)) (wrote : List (List ℕ)) → HaveBytes written drafts wrote → kept_names (pairs (draft_names scripts drafts) wrote) ≡ draft_names scripts drafts
pairs_names written scripts [] [] told = refl
pairs_names written scripts [] (w ∷ wrote) told = absurd told
pairs_names written scripts (d ∷ drafts) [] told = absurd told
pairs_names written scripts (d ∷ drafts) (w ∷ wrote) told = ap (λ (l : List (List ℕ)). name_at scripts d.script d.at ∷ l) (pairs_names written scripts drafts wrote told.1)

-- so they ran, and their outputs have the files
pub scripts_ran : {K : Type 0} (written : K → Option (List ℕ)) (process : Meanings) (list : TableId) (scripts : List ScriptValue) (workers : List (Worker K)) (chief : View) (t : TurnState) (images : List WalkerState) (w : WriterState)
    → length workers ≡ length scripts → AllLeft list (length scripts) workers chief t images w → All IsRunnable scripts → All (λ (x : Worker K). IsActed written process.report scripts x) workers → draft_names scripts (outputs_of workers) ≡ written_by scripts → All (λ (d : Draft K). d.progress ≡ Written) (outputs_of workers)
    → HaveRun written process scripts w t.journal (outputs_of workers) (items_of (lines_left workers))
scripts_ran {K} written process list scripts workers chief t images w many a may acted names whole =
    let r = all_run written process w t.journal 0 scripts workers many one in
    record {
      files = pairs (written_by scripts) r.wrote;
      are = subst (λ (l : List (List ℕ)). AreFiles written scripts (outputs_of workers) (pairs l r.wrote)) names (are_files written scripts (outputs_of workers) r.wrote r.told);
      names = subst (λ (l : List (List ℕ)). kept_names (pairs l r.wrote) ≡ l) names (pairs_names written scripts (outputs_of workers) r.wrote r.told);
      runs = r.runs;
    }
  where
    one : (k : ℕ) (script : ScriptValue) (worker : Worker K) → slice_get workers k ≡ Some worker → slice_get scripts k ≡ Some script → OneRun written process w t.journal (0 + k) script worker
    one k script worker at stands =
        let within = slice_get_within workers k worker at in
        let is = get_or_from_slice_get workers k worker worker at in
        let below = slice_get_within scripts k script stands in
        let runnable = subst IsRunnable (get_or_from_slice_get scripts k script script stands) (may k script below) in
        subst (λ n. OneRun written process w t.journal n script worker) (sym (zero-add k)) (
        one_run written process list (length scripts) scripts workers chief t images w a k script worker at stands (ap (λ (x : Worker K). x.script) (sym is) ∙ a.numbers k worker within) runnable
        (subst (λ (x : Worker K). IsActed written process.report scripts x) is (acted k worker within)) (outputs_each (λ (d : Draft K). d.progress ≡ Written) workers whole k worker at))
