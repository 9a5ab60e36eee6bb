-- The stages of a run on threads: the list is opened, the workers run, and all passes meet the
-- writer.
use Rattle.std.specs.Prelude.{◌≡◌, ℕ, ◌<◌, ◌≤◌, true, List, [], ◌∷◌, All, length, slice_get, slice_index_or, Vec, vec_len, vec_capacity, Option, Some, None, Result, Ok, Err}
use Rattle.std.specs.declared.alloc.Global.{Global}
use Rattle.std.specs.Io.KnownBytes.{append_known}
use Rattle.plcr_base.specs.Causes.{Rose}
use Rattle.plcr_base.specs.Told.{AppendsProperFront}
use Rattle.crossbeam_queue.specs.Passes.{view, IsPassOf, ruled_capacity}
use Rattle.plcr_machine.specs.Lists.{Grows}
use Rattle.plcr_machine.specs.Parts.{own_entries}
use Rattle.plcr_nodes.specs.Entries.{WentOn, among}
use Rattle.plcr_imagelist.specs.States.{WriterState}
use Rattle.plcr_imagelist.specs.Holds.{WalkerState}
use Rattle.plcr_imagelist.specs.Listing.{AddsChanges}
use Rattle.plcr_io.specs.Desk.{Told}
use Rattle.plcr_script.specs.Meanings.{Meanings}
use Rattle.plcr_script.specs.Scripts.{ScriptValue}
use Rattle.plcr_script.specs.Reading.{written_by}
use Rattle.plcr_core.specs.declared.read.Core.{Core}
use Rattle.plcr_command.specs.declared.jobs.Job.{Job}
use Rattle.plcr_command.specs.declared.endings.Ending.{Ending}
use Rattle.plcr_command.specs.declared.endings.Ending.TheVariants.{Done, Stopped, Refused, Misused}
use Rattle.plcr_command.specs.declared.refusals.Refusal.TheVariants.{OutOfMemory}
use Rattle.plcr_command.specs.Seen.{Seen}
use Rattle.plcr_command.specs.Jobs.{IsJob, job_files}
use Rattle.plcr_command.specs.Endings.{HasRead, kept_names}
use Rattle.plcr_turns.specs.declared.lines.ChangeLine.{ChangeLine}
use Rattle.plcr_workers.specs.declared.command.TheConstants.{SIDE_BY_SIDE}
use Rattle.plcr_workers.specs.Log.{threads_log}
use Rattle.plcr_workers.specs.Threads.{ScriptsRun}
use Rattle.plcr_workers.specs.inner.Traces.{IsActed, IsRunnable}
use Rattle.plcr_turns.specs.Gathering.{HasGathered}
use Rattle.plcr_workers.specs.declared.opening.Stage.{Stage}
use Rattle.plcr_workers.specs.declared.drafts.Draft.{Draft}
use Rattle.plcr_workers.specs.declared.drafts.Progress.TheVariants.{Written}
use Rattle.plcr_workers.specs.declared.lines.PassLine.{PassLine}
use Rattle.plcr_workers.specs.declared.making.Unwritten.{Unwritten}
use Rattle.plcr_workers.specs.declared.worker.Worker.{Worker}
use Rattle.plcr_workers.specs.inner.Drafts.{HaveTaken}
use Rattle.plcr_workers.specs.inner.Reports.{HaveReports, IsToldReport}
use Rattle.plcr_workers.specs.inner.Hired.{AreSizesOf, IsHired, IsWholeOf, AreNew}
use Rattle.plcr_workers.specs.inner.Outputs.{AreFiles, AreDone, HaveEmpty, HasDropped, HasKeptAll, HasKeptUpTo, HasMade, IsDraftOf, draft_names, outputs_of}
use Rattle.plcr_workers.specs.Command.{AllApplied, AllKept, StoppedBy, IsJournalOf, IsWriterOf, LeftByScripts, IsPrinted, RanTogether, meanings_in, RanAndStopped, RanReports, RanWhole}

-- the writer has met these passes, and made nothing meanwhile
pub record HasMetThese (passes : List WalkerState) (old new : WriterState) : Type 0 where
  pub sizes : (new.nodes ≡ old.nodes) × (new.passes ≡ old.passes)
  pub grows : Grows old.history new.history
  pub went : WentOn old.names new.names
  pub changes : AddsChanges old [] new
  pub joined : All (λ (i : WalkerState). among i.number new.joined ≡ true) passes
  pub known : All (λ (i : WalkerState). WentOn i.names new.names) passes
  pub seen : All (λ (i : WalkerState). Grows i.history new.history) passes
  pub own : All (λ (i : WalkerState). own_entries i.number new.history
      ≡ own_entries i.number i.history) passes

-- the list, the queue and the workers are ready, with all room for what the workers leave
pub record IsStage {K : Type 0} (scripts : List ScriptValue) (stage : Stage K) : Type 0 where
  pub capacity : ruled_capacity stage.queue ≡ 1
  pub chief_is : IsPassOf stage.queue stage.chief
  pub handed : HasGathered (length scripts) stage.list [] (view stage.chief)
  pub sizes : AreSizesOf scripts (view stage.chief).nodes (view stage.chief).passes
  pub count : vec_len stage.workers ≡ length scripts
  pub new : AreNew scripts stage.workers.items
  pub hired : All (λ w. IsHired stage.queue.table.shared.table_id stage.list scripts w)
      stage.workers.items
  pub images : (vec_len stage.room.images ≡ 0) × (length scripts ≤ vec_capacity stage.room.images)
  pub drafts : (vec_len stage.room.drafts ≡ 0) × (length scripts ≤ vec_capacity stage.room.drafts)
  pub others : (vec_len stage.room.others ≡ 0) × (length scripts ≤ vec_capacity stage.room.others)

-- all outputs were made, and the workers ran
pub record HasWorked {K : Type 0} (faults : K → ℕ) (scripts : List ScriptValue)
    (workers : List (Worker K)) (old new : Told) : Type 0 where
  pub made : HasMade (written_by scripts) old new
  pub names : draft_names scripts (outputs_of workers) ≡ written_by scripts
  pub are : All (IsDraftOf scripts) (outputs_of workers)
  pub done : AreDone faults (outputs_of workers)
  pub wholes : All (λ (w : Worker K). IsWholeOf scripts w) workers

-- workers that ran with outputs into which nothing was written, and what they wrote
pub record HasReported {K : Type 0} (written : K → Option (List ℕ)) (faults : K →
    ℕ) (process : Meanings) (workers : List (Worker K)) : Type 0 where
  pub first : List (Worker K)
  pub reports : HaveReports written process.report first workers
  pub taken : HaveTaken faults first workers
  pub empty : HaveEmpty written first

-- each output that they have written whole is a lawful report in what the writer has seen
abbrev pub ToldReports : {K : Type 0} → (K → Option (List ℕ)) → Meanings → WriterState →
    List (Worker K) → Type 0
ToldReports {K = K} written process w workers =
    All (λ (d : Draft K). d.progress ≡ Written → IsToldReport written process w d)
    (outputs_of workers)

-- where such workers have written all outputs whole, all lines were applied
abbrev pub AppliesAll : {K : Type 0} → List ScriptValue → List (Worker K) → List ChangeLine → Type 0
AppliesAll {K = K} scripts workers journal =
    All (λ (w : Worker K). IsWholeOf scripts w) workers →
    All (λ (d : Draft K). d.progress ≡ Written) (outputs_of workers) →
    AllApplied scripts journal

-- each of these lines is that of a statement of the script at its place
pub record AreLinesOf (scripts : List ScriptValue) (others : List (Vec PassLine Global)) : Type 0
  where
    pub count : length others ≡ length scripts
    pub each : (k : ℕ) (other : Vec PassLine Global) (script : ScriptValue) →
        slice_get scripts k ≡ Some script →
        All (λ (l : PassLine). l.at < length script.statements)
        (slice_index_or others k other).items

abbrev pub items_of : List (Vec PassLine Global) → List (List PassLine)
items_of [] = []
items_of (lines ∷ others) = lines.items ∷ items_of others

-- outputs of which all were made are kept, up to the first that isn't; others are given up
abbrev pub Settles : {K : Type 0} → (K → Option (List ℕ)) → List ScriptValue → List (Draft K) →
    Result (Unit {0}) Unwritten → Told → Told → Result (Unit {0}) Unwritten → Type 0
Settles written scripts drafts (Ok made) old new (Ok done) =
    HasKeptAll written scripts drafts old new
Settles written scripts drafts (Ok made) old new (Err unwritten) =
    HasKeptUpTo written scripts drafts unwritten.script unwritten.at old new
Settles written scripts drafts (Err unmade) old new (Ok done) = ⊥
Settles written scripts drafts (Err unmade) old new (Err unwritten) = (unwritten ≡ unmade)
    × HasDropped old new

-- scripts ran whole over what the writer has seen, with these other lines, and these outputs have
-- their files
pub record HaveRun {K : Type 0} (written : K → Option (List ℕ)) (process : Meanings)
    (scripts : List ScriptValue) (w : WriterState) (journal : List ChangeLine)
    (drafts : List (Draft K)) (others : List (List PassLine)) : Type 0 where
  pub files : List (List ℕ × List ℕ)
  pub are : AreFiles written scripts drafts files
  pub names : kept_names files ≡ written_by scripts
  pub runs : ScriptsRun process w journal 0 scripts others files

-- where such workers took all statements and wrote all outputs whole, they did
abbrev pub RunWhole : {K : Type 0} → (K → Option (List ℕ)) → Meanings → List ScriptValue →
    List (Worker K) → WriterState → List ChangeLine → List (List PassLine) → Type 0
RunWhole {K = K} written process scripts workers w journal others =
    All IsRunnable scripts →
    All (λ (x : Worker K). IsActed written process.report scripts x) workers →
    draft_names scripts (outputs_of workers) ≡ written_by scripts →
    All (λ (d : Draft K). d.progress ≡ Written) (outputs_of workers)
    → HaveRun written process scripts w journal (outputs_of workers) others

-- how the printing of a log ends
abbrev pub LogEnds : Option (List ℕ) → Option (List ℕ) → List ℕ → ℕ → ℕ → Ending → Type 0
LogEnds old new text before after Done = new ≡ append_known old text
LogEnds old new text before after Stopped = AppendsProperFront old new text × Rose before after
LogEnds old new text before after (Refused refusal) = ⊥
LogEnds old new text before after Misused = ⊥

-- what a run leaves of the list that it ran on
pub record LeftOf (job : Job) (past : Option WriterState) (journal : List ChangeLine) : Type 0 where
  pub met : IsWriterOf job.scripts past
  pub tells : IsJournalOf (meanings_in job.core job.scripts) job.scripts journal met.writer

-- a core and scripts that were read
abbrev pub job_of : Core → List ScriptValue → Job
job_of core scripts = record { core = core; scripts = scripts }

-- how the run of a job ends
abbrev pub RunEnds : Job → Seen → Seen → Option WriterState → Ending → Type 0
RunEnds job old new past Done = (journal : List ChangeLine) × (others : List (List PassLine))
    × AllKept job old new × LeftOf job past journal
    × (new.lines ≡ append_known old.lines (threads_log job.scripts journal others))
    × AllApplied job.scripts journal
RunEnds job old new past Stopped = (journal : List ChangeLine) × StoppedBy job journal old new
    × LeftOf job past journal
RunEnds job old new past (Refused OutOfMemory) = (new ≡ old) × (past ≡ None)
RunEnds job old new past (Refused refusal) = ⊥
RunEnds job old new past Misused = ⊥

-- what `threads` leaves, by its ending
abbrev pub LeavesBy : List ℕ → List (List ℕ) → Seen → Seen → Option WriterState → Ending → Type 0
LeavesBy core scripts old new past Done = LeftByScripts core scripts old new past
LeavesBy core scripts old new past Stopped = LeftByScripts core scripts old new past
LeavesBy core scripts old new past (Refused refusal) = past ≡ None
LeavesBy core scripts old new past Misused = past ≡ None

-- what its journal tells, by its ending
abbrev pub TellsBy : List ℕ → List (List ℕ) → Seen → Seen → Option WriterState → Ending → Type 0
TellsBy core scripts old new past Done =
    HasRead (IsJob SIDE_BY_SIDE) (job_files core scripts) (RanTogether past 0) old new
TellsBy core scripts old new past Stopped =
    HasRead (IsJob SIDE_BY_SIDE) (job_files core scripts) (RanTogether past 5) old new
TellsBy core scripts old new past (Refused refusal) = Unit {0}
TellsBy core scripts old new past Misused = Unit {0}

-- what the files are that a run kept
abbrev pub KeptBy : Job → Seen → Seen → Option WriterState → Ending → Type 0
KeptBy job old new past Done = RanReports past job old new
KeptBy job old new past Stopped = RanReports past job old new
KeptBy job old new past (Refused refusal) = Unit {0}
KeptBy job old new past Misused = Unit {0}

abbrev pub KeptIn : List ℕ → List (List ℕ) → Seen → Seen → Option WriterState → Ending → Type 0
KeptIn core scripts old new past Done =
    HasRead (IsJob SIDE_BY_SIDE) (job_files core scripts) (RanReports past) old new
KeptIn core scripts old new past Stopped =
    HasRead (IsJob SIDE_BY_SIDE) (job_files core scripts) (RanReports past) old new
KeptIn core scripts old new past (Refused refusal) = Unit {0}
KeptIn core scripts old new past Misused = Unit {0}

-- what a run whose scripts workers can run comes to
abbrev pub WholeBy : Job → Seen → Seen → Option WriterState → Ending → Type 0
WholeBy job old new past Done = All IsRunnable job.scripts → RanWhole past IsPrinted job old new
WholeBy job old new past Stopped = All IsRunnable job.scripts → RanAndStopped past job old new
WholeBy job old new past (Refused refusal) = Unit {0}
WholeBy job old new past Misused = Unit {0}

abbrev pub WholeIn : List ℕ → List (List ℕ) → Seen → Seen → Option WriterState → Ending → Type 0
WholeIn core scripts old new past Done =
    HasRead (IsJob SIDE_BY_SIDE) (job_files core scripts) (RanWhole past IsPrinted) old new
WholeIn core scripts old new past Stopped =
    HasRead (IsJob SIDE_BY_SIDE) (job_files core scripts) (RanAndStopped past) old new
WholeIn core scripts old new past (Refused refusal) = Unit {0}
WholeIn core scripts old new past Misused = Unit {0}
