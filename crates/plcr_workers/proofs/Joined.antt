-- What all workers know, once they were taken in: of each script the first lines were applied, each once, and each line of
-- the journal is known.
use Rattle.std.proofs.Common.{◌≡◌, ℕ, zero, suc, ◌-◌, ◌<◌, List, [], ◌∷◌, ◌++◌, length, map, take, drop, reverse, get_or, slice_get, All, Option, Some, None, unwrap_or, refl, sym, ap, ◌∙◌, subst, arith}
use Rattle.std.specs.Prelude.{option_and_then}
use Rattle.std.proofs.lemmas.List.{get_or-reverse, length-reverse, take-append-drop}
use Rattle.std.proofs.lemmas.List.Elements.{All-tail, filter_map-append}
use Rattle.std.proofs.lemmas.Option.{slice_get_within}
use Rattle.atomic_table.specs.Seated.{TableId}
use Rattle.crossbeam_queue.specs.Passes.{view}
use Rattle.plcr_machine.proofs.Cases.{at_or_else}
use Rattle.plcr_nodes.specs.Entries.{WentOn}
use Rattle.plcr_imagelist.specs.Holds.{WalkerState}
use Rattle.plcr_script.specs.declared.statements.NumberedStatement.{NumberedStatement}
use Rattle.plcr_script.specs.Scripts.{ScriptValue}
use Rattle.plcr_script.specs.Meanings.{Meanings}
use Rattle.plcr_turns.specs.declared.lines.ChangeLine.{ChangeLine}
use Rattle.plcr_turns.specs.declared.view.View.{View}
use Rattle.plcr_turns.specs.Lines.{lines_of, wanted_by}
use Rattle.plcr_turns.specs.Turns.{TurnState, IsTurn}
use Rattle.plcr_turns.specs.Views.{IsTaken}
use Rattle.plcr_turns.specs.Gathering.{AreWorking, HasGathered}
use Rattle.plcr_turns.proofs.Gathered.{each_once}
use Rattle.plcr_turns.proofs.Turned.{lines_more, line_here, line_else}
use Rattle.plcr_turns.proofs.Fronts.{all_front, take_front}
use Rattle.plcr_workers.specs.declared.drafts.Draft.{Draft}
use Rattle.plcr_workers.specs.declared.drafts.Progress.TheVariants.{Written}
use Rattle.plcr_workers.specs.declared.worker.Worker.{Worker}
use Rattle.plcr_workers.specs.Asking.{change_lines, statement_on}
use Rattle.plcr_workers.specs.Known.{IsKnownLine, AreKnown}
use Rattle.plcr_workers.specs.inner.Hired.{AreNumbered, IsGone, IsWholeOf, views_of, passes_left}
use Rattle.plcr_workers.specs.inner.Outputs.{outputs_of}
use Rattle.plcr_workers.specs.inner.Own.{IsOwnLine, AreOwn, KnowsOwnOf}
use Rattle.plcr_workers.proofs.Owned.{own_later}

-- the element at a place
pub element : {A : Type 0} (xs : List A) (n : ℕ) → n < length xs → (x : A) × (get_or xs n x ≡ x) × (slice_get xs n ≡ Some x)
element [] n less = absurd (omega (arith, less))
element (x ∷ xs) zero less = (x, refl, refl)
element (x ∷ xs) (suc n) less = element xs n (omega (arith, less))

pub some_same : {A : Type 0} {a b : A} → Some a ≡ Some b → a ≡ b
some_same {A} {a} {b} e = ap (λ (o : Option A). unwrap_or o a) e

known_line : (process : Meanings) (scripts : List ScriptValue) (script : ScriptValue) (names : List (List ℕ)) (line : ChangeLine) → slice_get scripts line.script ≡ Some script → IsOwnLine process script.statements names line → IsKnownLine process scripts names line
known_line process scripts script names line at own = record {
  statement = own.statement;
  stands = ap (option_and_then (λ (s : ScriptValue). statement_on line.wanted.line s.statements)) at ∙ own.stands;
  asks = own.asks;
  fault = own.came.fault;
  long = own.came.long;
  named = λ load e. (own.came.named load e).1;
}

-- where the lines of each script are known, all lines are
pub known_from : (process : Meanings) (scripts : List ScriptValue) (names : List (List ℕ)) (lines : List ChangeLine) → All (λ (l : ChangeLine). l.script < length scripts) lines
    → ((s : ℕ) (script : ScriptValue) → slice_get scripts s ≡ Some script → AreOwn process script.statements names (lines_of s lines)) → AreKnown process scripts names lines
known_from process scripts names [] few own = tt
known_from process scripts names (l ∷ lines) few own =
    let script = element scripts l.script (few 0 l (omega arith)) in
    let mine : AreOwn process script.0.statements names (l ∷ lines_of l.script lines) =
    subst (AreOwn process script.0.statements names) (lines_more l.script (l ∷ []) lines ∙ ap (λ m. m ++ lines_of l.script lines) (line_here l.script l refl)) (own l.script script.0 script.2) in (
      known_line process scripts script.0 names l script.2 mine.0,
      known_from process scripts names lines (λ k d less. few (suc k) d (omega (arith, less)))
          (λ s sc at. at_or_else l.script s
          (λ (e : l.script ≡ s). (subst (AreOwn process sc.statements names) (lines_more s (l ∷ []) lines ∙ ap (λ m. m ++ lines_of s lines) (line_here s l e)) (own s sc at)).1)
          (λ f. subst (AreOwn process sc.statements names) (lines_more s (l ∷ []) lines ∙ ap (λ m. m ++ lines_of s lines) (line_else s l f)) (own s sc at))),
    )

views_at : {K : Type 0} (workers : List (Worker K)) (n : ℕ) (w : Worker K) → slice_get workers n ≡ Some w → slice_get (views_of workers) n ≡ Some (view w.turns)
views_at [] n w at = absurd cc
views_at (x ∷ workers) zero w at = ap (λ (y : Worker _). Some (view y.turns)) (some_same at)
views_at (x ∷ workers) (suc n) w at = views_at workers n w at

passes_count : {K : Type 0} (workers : List (Worker K)) → length (passes_left workers) ≡ length workers
passes_count [] = refl
passes_count (w ∷ workers) = ap suc (passes_count workers)

passes_at : {K : Type 0} (workers : List (Worker K)) (n : ℕ) (w : Worker K) (d : Option WalkerState) → slice_get workers n ≡ Some w → get_or (passes_left workers) n d ≡ w.image
passes_at [] n w d at = absurd cc
passes_at (x ∷ workers) zero w d at = ap (λ (y : Worker _). y.image) (some_same at)
passes_at (x ∷ workers) (suc n) w d at = passes_at workers n w d at

-- what holds of a pass that is there
abbrev IfPass : (WalkerState → Type 0) → Option WalkerState → Type 0
IfPass P None = Unit {0}
IfPass P (Some image) = P image

each_pass : (P : WalkerState → Type 0) (images : List WalkerState) → All P images → All (IfPass P) (map Some images)
each_pass P [] all k d less = absurd (omega (arith, less))
each_pass P (i ∷ images) all zero d less = all 0 i (omega arith)
each_pass P (i ∷ images) all (suc k) d less = each_pass P images (λ n e l. all (suc n) e (omega (arith, l))) k d (omega (arith, less))

-- what holds of the passes that workers left holds of the pass of each
pub pass_of : {K : Type 0} (P : WalkerState → Type 0) (workers : List (Worker K)) (images : List WalkerState) (n : ℕ) (w : Worker K) (image : WalkerState) → map Some images ≡ reverse (passes_left workers) → All P images → slice_get workers n ≡ Some w → w.image ≡ Some image → P image
pass_of P workers images n w image left all at has =
    let within = slice_get_within workers n w at in
    let many = passes_count workers in
    let long = length-reverse (passes_left workers) in
    let place = length workers - 1 - n in
    let there : get_or (reverse (passes_left workers)) place (Some image) ≡ get_or (passes_left workers) (length (passes_left workers) - 1 - place) (Some image) = get_or-reverse (passes_left workers) place (Some image) (omega (arith, within, many)) in
    let back : length (passes_left workers) - 1 - place ≡ n = omega (arith, within, many) in
    let is : get_or (reverse (passes_left workers)) place (Some image) ≡ Some image =
    there ∙ ap (λ k. get_or (passes_left workers) k (Some image)) back ∙ passes_at workers n w (Some image) at ∙ has in
    subst (IfPass P) is (subst (All (IfPass P)) left (each_pass P images all) place (Some image) (omega (arith, within, many, long)))

-- what the workers know, taken together with the turn that was taken last
pub record AllKnow {K : Type 0} (process : Meanings) (queue list : TableId) (scripts : List ScriptValue) (workers : List (Worker K)) (chief : View) (t : TurnState) (names : List (List ℕ)) : Type 0 where
  pub gathered : HasGathered (length scripts) list (views_of workers) chief
  pub working : AreWorking 0 list (views_of workers)
  pub numbers : AreNumbered workers
  pub count : length workers ≡ length scripts
  pub gone : All (λ (w : Worker K). IsGone queue list scripts w) workers
  pub own : All (λ (w : Worker K). KnowsOwnOf process scripts w) workers
  pub met : (n : ℕ) (w : Worker K) (image : WalkerState) → slice_get workers n ≡ Some w → w.image ≡ Some image → WentOn image.names names
  pub taken : IsTaken chief t
  pub turn : IsTurn t

-- the lines of a script are those that its worker saw
lines_seen : {K : Type 0} (process : Meanings) (queue list : TableId) (scripts : List ScriptValue) (workers : List (Worker K)) (chief : View) (t : TurnState) (names : List (List ℕ)) → AllKnow process queue list scripts workers chief t names
    → (n : ℕ) (w : Worker K) → slice_get workers n ≡ Some w → lines_of n t.journal ≡ lines_of n (view w.turns).journal
lines_seen process queue list scripts workers chief t names a n w at =
    (each_once (length scripts) list (views_of workers) chief t a.gathered a.working a.taken a.turn n (view w.turns) (views_at workers n w at)).1

own_of : {K : Type 0} (process : Meanings) (queue list : TableId) (scripts : List ScriptValue) (workers : List (Worker K)) (chief : View) (t : TurnState) (names : List (List ℕ)) → AllKnow process queue list scripts workers chief t names
    → (n : ℕ) (script : ScriptValue) → slice_get scripts n ≡ Some script → AreOwn process script.statements names (lines_of n t.journal)
own_of process queue list scripts workers chief t names a n script at =
    let less = slice_get_within scripts n script at in
    let many = a.count in
    let w = element workers n (omega (arith, less, many)) in
    let knows = subst (λ (x : Worker _). KnowsOwnOf process scripts x) w.1 (a.own n w.0 (omega (arith, less, many))) in
    let number : w.0.script ≡ n = ap (λ (x : Worker _). x.script) (sym w.1) ∙ a.numbers n w.0 (omega (arith, less, many)) in
    let same : knows.script ≡ script = some_same (sym knows.stands ∙ ap (slice_get scripts) number ∙ at) in
    let seen = lines_seen process queue list scripts workers chief t names a n w.0 w.2 in
    let own = own_later process knows.script.statements knows.knows.image.names names (lines_of w.0.script (view w.0.turns).journal) (a.met n w.0 knows.knows.image w.2 knows.knows.held) knows.knows.own in
    subst (λ (l : List ChangeLine). AreOwn process script.statements names l) (ap (λ k. lines_of k (view w.0.turns).journal) number ∙ sym seen)
    (subst (λ (s : ScriptValue). AreOwn process s.statements names (lines_of w.0.script (view w.0.turns).journal)) same own)

pub all_known : {K : Type 0} (process : Meanings) (queue list : TableId) (scripts : List ScriptValue) (workers : List (Worker K)) (chief : View) (t : TurnState) (names : List (List ℕ)) → AllKnow process queue list scripts workers chief t names
    → AreKnown process scripts names t.journal
all_known process queue list scripts workers chief t names a =
    known_from process scripts names t.journal (subst (λ n. All (λ (l : ChangeLine). l.script < n) t.journal) (sym a.taken.count ∙ a.gathered.count_is) a.turn.alone) (own_of process queue list scripts workers chief t names a)

-- the lines of the first statements are the first lines of all
first_lines : (count : ℕ) (statements : List NumberedStatement) → change_lines (take count statements) ≡ take (length (change_lines (take count statements))) (change_lines statements)
first_lines count statements =
    let first = change_lines (take count statements) in
    let parts = ap change_lines (sym (take-append-drop count statements)) ∙ filter_map-append _ (take count statements) (drop count statements) in
    sym (ap (take (length first)) parts ∙ take_front (length first) first (change_lines (drop count statements)) refl)

-- of each script the first lines were applied, each once
pub first_applied : {K : Type 0} (process : Meanings) (queue list : TableId) (scripts : List ScriptValue) (workers : List (Worker K)) (chief : View) (t : TurnState) (names : List (List ℕ)) → AllKnow process queue list scripts workers chief t names
    → (n : ℕ) (script : ScriptValue) → slice_get scripts n ≡ Some script → (count : ℕ) × (wanted_by (lines_of n t.journal) ≡ take count (change_lines script.statements))
first_applied process queue list scripts workers chief t names a n script at =
    let less = slice_get_within scripts n script at in
    let many = a.count in
    let w = element workers n (omega (arith, less, many)) in
    let gone = subst (λ (x : Worker _). IsGone queue list scripts x) w.1 (a.gone n w.0 (omega (arith, less, many))) in
    let number : w.0.script ≡ n = ap (λ (x : Worker _). x.script) (sym w.1) ∙ a.numbers n w.0 (omega (arith, less, many)) in
    let same : gone.script ≡ script = some_same (sym gone.stands ∙ ap (slice_get scripts) number ∙ at) in
    let seen = lines_seen process queue list scripts workers chief t names a n w.0 w.2 in (
      length (change_lines (take gone.count script.statements)),
      ap wanted_by (seen ∙ ap (λ k. lines_of k (view w.0.turns).journal) (sym number)) ∙ gone.so_far.lines ∙ ap (λ (s : ScriptValue). change_lines (take gone.count s.statements)) same ∙ first_lines gone.count script.statements,
    )

-- what holds of all outputs holds of those of each worker
pub outputs_each : {K : Type 0} (P : Draft K → Type 0) (workers : List (Worker K)) → All P (outputs_of workers) → (k : ℕ) (w : Worker K) → slice_get workers k ≡ Some w → All P w.drafts.items
outputs_each P [] all k w at = absurd cc
outputs_each P (x ∷ workers) all zero w at = subst (λ (y : Worker _). All P y.drafts.items) (some_same at) (all_front P x.drafts.items (outputs_of workers) all)
outputs_each P (x ∷ workers) all (suc k) w at = outputs_each P workers (behind x.drafts.items all) k w at
  where
    behind : (ds : List (Draft _)) → All P (ds ++ outputs_of workers) → All P (outputs_of workers)
    behind [] h = h
    behind (d ∷ ds) h = behind ds (All-tail P d (ds ++ outputs_of workers) h)

-- where all outputs were written whole, each load and unload line of each script was applied once
pub whole_applied : {K : Type 0} (process : Meanings) (queue list : TableId) (scripts : List ScriptValue) (workers : List (Worker K)) (chief : View) (t : TurnState) (names : List (List ℕ)) → AllKnow process queue list scripts workers chief t names
    → All (λ (w : Worker K). IsWholeOf scripts w) workers → ((k : ℕ) (w : Worker K) → slice_get workers k ≡ Some w → All (λ (d : Draft K). d.progress ≡ Written) w.drafts.items)
    → (n : ℕ) (script : ScriptValue) → slice_get scripts n ≡ Some script → wanted_by (lines_of n t.journal) ≡ change_lines script.statements
whole_applied process queue list scripts workers chief t names a wholes written n script at =
    let less = slice_get_within scripts n script at in
    let many = a.count in
    let w = element workers n (omega (arith, less, many)) in
    let gone = subst (λ (x : Worker _). IsWholeOf scripts x) w.1 (wholes n w.0 (omega (arith, less, many))) in
    let number : w.0.script ≡ n = ap (λ (x : Worker _). x.script) (sym w.1) ∙ a.numbers n w.0 (omega (arith, less, many)) in
    let same : gone.script ≡ script = some_same (sym gone.stands ∙ ap (slice_get scripts) number ∙ at) in
    let seen = lines_seen process queue list scripts workers chief t names a n w.0 w.2 in
    ap wanted_by (seen ∙ ap (λ k. lines_of k (view w.0.turns).journal) (sym number)) ∙ gone.whole (written n w.0 w.2) ∙ ap (λ (s : ScriptValue). change_lines s.statements) same
