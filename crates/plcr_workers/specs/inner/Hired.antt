-- Workers that are about to run, and what they leave.
use Rattle.std.specs.Prelude.{◌≡◌, ℕ, ◌+◌, ◌<◌, ◌≤◌, List, [], ◌∷◌, length, map, take, Option, Some, None, Vec, vec_len, vec_capacity, slice_get, slice_index_or, All}
use Rattle.std.specs.declared.alloc.Global.{Global}
use Rattle.atomic_table.specs.Seated.{TableId}
use Rattle.crossbeam_queue.specs.Passes.{view}
use Rattle.plcr_imagelist.specs.Holds.{WalkerState}
use Rattle.plcr_command.specs.declared.limits.TheConstants.{MOST_SCRIPTS}
use Rattle.plcr_script.specs.declared.statements.NumberedStatement.{NumberedStatement}
use Rattle.plcr_script.specs.Scripts.{ScriptValue}
use Rattle.plcr_script.specs.Reading.{files_of}
use Rattle.plcr_turns.specs.declared.lines.Asked.{Asked}
use Rattle.plcr_turns.specs.declared.view.View.{View}
use Rattle.plcr_turns.specs.Lines.{lines_of, wanted_by}
use Rattle.plcr_turns.specs.Working.{IsWorking}
use Rattle.plcr_workers.specs.declared.drafts.Draft.{Draft}
use Rattle.plcr_workers.specs.declared.drafts.Progress.TheVariants.{Written}
use Rattle.plcr_workers.specs.declared.lines.PassLine.{PassLine}
use Rattle.plcr_workers.specs.declared.worker.Worker.{Worker}
use Rattle.plcr_workers.specs.Asking.{change_lines}
use Rattle.plcr_workers.specs.inner.Drafts.{HasOutputs}
use Rattle.plcr_workers.specs.inner.Own.{HaveOwnLines}
use Rattle.plcr_workers.specs.inner.Places.{total_of}

-- the statements before a place were taken: of the lines that they ask for each was applied, in
-- order, and no other
pub record SoFar (script : ℕ) (list : TableId) (statements : List NumberedStatement) (at : ℕ)
    (v : View) : Type 0 where
  pub working : IsWorking script list v
  pub lines : wanted_by (lines_of script v.journal) ≡ change_lines (take at statements)
  pub total : total_of v.shares ≡ length (change_lines statements)

-- the worker of a script, of whose statements none was taken, with room for all its lines
pub record Begins {K : Type 0} (queue list : TableId) (script : ScriptValue) (w : Worker K) : Type 0
  where
    pub pass : (w.turns.table_id ≡ queue) × (w.turns.me.1 ≡ [])
    pub few : w.script < MOST_SCRIPTS
    pub so_far : SoFar w.script list script.statements 0 (view w.turns)
    pub room : length script.statements ≤ vec_capacity w.lines
    pub none : vec_len w.lines ≡ 0

-- the first statements of its script were taken, up to one
pub record Goes {K : Type 0} (queue list : TableId) (script : ScriptValue)
    (old new : Worker K) : Type 0 where
  pub number : new.script ≡ old.script
  pub pass : (new.turns.table_id ≡ queue) × (new.turns.me.1 ≡ [])
  pub count : ℕ
  pub so_far : SoFar new.script list script.statements count (view new.turns)
  pub lines : All (λ (l : PassLine). l.at < length script.statements) new.lines.items

-- a worker as it was hired for the script of a place: with room for its outputs, and none of them,
-- and with the pass of that number
pub record IsNew {K : Type 0} (scripts : List ScriptValue) (place : ℕ) (w : Worker K) : Type 0 where
  pub number : w.script ≡ place
  pub none : vec_len w.drafts ≡ 0
  pub room : (script : ScriptValue) → slice_get scripts place ≡ Some script →
      length (files_of script.statements) ≤ vec_capacity w.drafts
  pub journal : (view w.turns).journal ≡ []
  pub untouched : (image : WalkerState) → w.image ≡ Some image → image.history ≡ []

-- a list of these sizes is that of scripts: as many nodes as the first says, and a pass for each
abbrev pub AreSizesOf : List ScriptValue → (nodes passes : ℕ) → Type 0
AreSizesOf scripts nodes passes =
    ((script : ScriptValue) → slice_get scripts 0 ≡ Some script → nodes ≡ script.nodes)
    × (passes ≡ length scripts)

-- a pass of the queue knows of a list of the same sizes as before
abbrev pub KnowsSameSizes : View → View → Type 0
KnowsSameSizes old new = (new.nodes ≡ old.nodes) × (new.passes ≡ old.passes)

-- passes that have seen nothing yet
abbrev pub AreUntouched : List WalkerState → Type 0
AreUntouched images = All (λ (i : WalkerState). i.history ≡ []) images

-- workers as they were hired for the scripts, in order
abbrev pub AreNew : {K : Type 0} → List ScriptValue → List (Worker K) → Type 0
AreNew {K = K} scripts workers = (place : ℕ) (other : Worker K) → place < length workers →
    IsNew scripts place (slice_index_or workers place other)

-- the worker at each place has the script of its number
abbrev pub AreNumbered : {K : Type 0} → List (Worker K) → Type 0
AreNumbered {K = K} workers = (place : ℕ) (other : Worker K) → place < length workers →
    (slice_index_or workers place other).script ≡ place

-- passes of a list, from number 0 on
abbrev pub AreInOrder : TableId → List WalkerState → Type 0
AreInOrder list images = (place : ℕ) (other : WalkerState) → place < length images →
    ((slice_index_or images place other).table ≡ list)
    × ((slice_index_or images place other).number ≡ place)

-- passes of a list, of so many, from the last number down
abbrev pub AreFromTheLast : ℕ → TableId → List WalkerState → Type 0
AreFromTheLast count list images = (place : ℕ) (other : WalkerState) → place < length images →
    ((slice_index_or images place other).table ≡ list)
    × ((slice_index_or images place other).number + place + 1 ≡ count)

-- what workers see
abbrev pub views_of : {K : Type 0} → List (Worker K) → List View
views_of [] = []
views_of (worker ∷ workers) = view worker.turns ∷ views_of workers

-- the passes of the list that workers leave
abbrev pub passes_left : {K : Type 0} → List (Worker K) → List (Option WalkerState)
passes_left [] = []
passes_left (worker ∷ workers) = worker.image ∷ passes_left workers

-- the other lines that workers leave
abbrev pub lines_left : {K : Type 0} → List (Worker K) → List (Vec PassLine Global)
lines_left [] = []
lines_left (worker ∷ workers) = worker.lines ∷ lines_left workers

-- its pass of the list is out
pub record HasImage {K : Type 0} (list : TableId) (w : Worker K) : Type 0 where
  pub image : WalkerState
  pub held : w.image ≡ Some image
  pub walks : image.table ≡ list
  pub number : image.number ≡ w.script

pub record IsReady {K : Type 0} (queue list : TableId) (script : ScriptValue)
    (w : Worker K) : Type 0 where
  pub begins : Begins queue list script w
  pub image : HasImage list w

pub record HasRun {K : Type 0} (queue list : TableId) (script : ScriptValue)
    (old new : Worker K) : Type 0 where
  pub goes : Goes queue list script old new
  pub image : HasImage list new

-- how many lines a statement gives the journal
abbrev pub asks_one : Option Asked → ℕ
asks_one None = 0
asks_one (Some asked) = 1

-- how many files a statement writes
abbrev pub writes_one : Option (List ℕ) → ℕ
writes_one None = 0
writes_one (Some file) = 1

-- how many load and unload lines scripts have
abbrev pub totals_in : List ScriptValue → List ℕ
totals_in scripts = map (λ (script : ScriptValue). length (change_lines script.statements)) scripts

-- a worker is ready to run the script of its number
pub record IsHired {K : Type 0} (queue list : TableId) (scripts : List ScriptValue)
    (w : Worker K) : Type 0 where
  pub script : ScriptValue
  pub stands : slice_get scripts w.script ≡ Some script
  pub ready : IsReady queue list script w

-- a worker that is ready, with an output for each report of its script
pub record IsReadyToRun {K : Type 0} (faults : K → ℕ) (queue list : TableId)
    (scripts : List ScriptValue) (w : Worker K) : Type 0 where
  pub script : ScriptValue
  pub stands : slice_get scripts w.script ≡ Some script
  pub ready : IsReady queue list script w
  pub outputs : HasOutputs faults script w
  pub apart : HaveOwnLines script.statements

-- where all outputs of a worker were written whole, each load and unload line of its script was
-- applied
abbrev pub IsWhole : {K : Type 0} → ScriptValue → Worker K → Type 0
IsWhole {K = K} script w = All (λ (d : Draft K). d.progress ≡ Written) w.drafts.items →
    wanted_by (lines_of w.script (view w.turns).journal) ≡ change_lines script.statements

-- a worker that has ended: of its script the first statements were taken, and its passes are those
-- of the queue and the list
pub record IsGone {K : Type 0} (queue list : TableId) (scripts : List ScriptValue)
    (w : Worker K) : Type 0 where
  pub script : ScriptValue
  pub stands : slice_get scripts w.script ≡ Some script
  pub pass : (w.turns.table_id ≡ queue) × (w.turns.me.1 ≡ [])
  pub count : ℕ
  pub so_far : SoFar w.script list script.statements count (view w.turns)
  pub image : HasImage list w
  pub lines : All (λ (l : PassLine). l.at < length script.statements) w.lines.items

-- the same of the script of its number
pub record IsWholeOf {K : Type 0} (scripts : List ScriptValue) (w : Worker K) : Type 0 where
  pub script : ScriptValue
  pub stands : slice_get scripts w.script ≡ Some script
  pub whole : IsWhole script w
