-- Outputs that were made, and are neither kept nor given up yet.
use Rattle.std.specs.Prelude.{◌≡◌, ◌≢◌, ◌⊎◌, ℕ, ◌+◌, ◌<◌, ◌≤◌, List, [], ◌∷◌, ◌++◌, Option, Some, length, map, reverse, take, slice_get, slice_index_or, option_and_then, Vec, All}
use Rattle.std.specs.declared.alloc.Global.{Global}
use Rattle.plcr_base.specs.Causes.{Rose}
use Rattle.plcr_base.specs.Told.{IfTold, Gains}
use Rattle.plcr_io.specs.Desk.{Told}
use Rattle.plcr_script.specs.declared.statements.NumberedStatement.{NumberedStatement}
use Rattle.plcr_script.specs.Scripts.{ScriptValue}
use Rattle.plcr_script.specs.Reading.{files_of, written_by}
use Rattle.plcr_command.specs.Saving.{TookNothing}
use Rattle.plcr_workers.specs.declared.drafts.Draft.{Draft}
use Rattle.plcr_workers.specs.declared.drafts.Progress.TheVariants.{Waiting, Written}
use Rattle.plcr_workers.specs.declared.worker.Worker.{Worker}
use Rattle.plcr_workers.specs.Log.{file_of}

-- where all three are told, so many more outputs were made than were kept and dropped
abbrev pub HasOpenFor : ℕ → Told → Type 0
HasOpenFor count told =
    IfTold told.made (λ made.
    IfTold told.kept (λ kept.
    IfTold told.dropped (λ dropped. length kept + length dropped + count ≤ length made)))

-- the file of the statement at a place of one of the scripts
abbrev pub name_at : List ScriptValue → ℕ → ℕ → List ℕ
name_at scripts script at =
    file_of (option_and_then (λ (s : ScriptValue). slice_get s.statements at)
    (slice_get scripts script))

-- there is a statement at a place of one of the scripts
pub record StandsAt (scripts : List ScriptValue) (script at : ℕ) : Type 0 where
  pub value : ScriptValue
  pub stands : slice_get scripts script ≡ Some value
  pub within : at < length value.statements

-- an output is that of a statement of one of the scripts
abbrev pub IsDraftOf : {K : Type 0} → List ScriptValue → Draft K → Type 0
IsDraftOf scripts draft = StandsAt scripts draft.script draft.at

-- the names of the files of outputs
abbrev pub draft_names : {K : Type 0} → List ScriptValue → List (Draft K) → List (List ℕ)
draft_names {K = K} scripts drafts = map (λ (d : Draft K). name_at scripts d.script d.at) drafts

-- an output whose report was not taken yet
pub record IsWaiting {K : Type 0} (written : K → Option (List ℕ)) (faults : K →
    ℕ) (draft : Draft K) : Type 0 where
  pub progress : draft.progress ≡ Waiting
  pub empty : IfTold (written draft.out) (λ bytes. bytes ≡ [])
  pub faultless : faults draft.out ≡ 0

-- outputs that wait, into which nothing was written, where that is told
abbrev pub AreEmpty : {K : Type 0} → (K → Option (List ℕ)) → List (Draft K) → Type 0
AreEmpty {K = K} written drafts =
    All (λ (d : Draft K). (d.progress ≡ Waiting) × IfTold (written d.out) (λ bytes. bytes ≡ []))
    drafts

-- those of workers
abbrev pub HaveEmpty : {K : Type 0} → (K → Option (List ℕ)) → List (Worker K) → Type 0
HaveEmpty {K = K} written workers = All (λ (w : Worker K). AreEmpty written w.drafts.items) workers

-- of outputs the first that was not written whole, if there is one, has faults
abbrev pub AreDone : {K : Type 0} → (K → ℕ) → List (Draft K) → Type 0
AreDone faults [] = Unit {0}
AreDone faults (draft ∷ drafts) = ((draft.progress ≡ Written) × AreDone faults drafts)
    ⊎ ((draft.progress ≢ Written) × (0 < faults draft.out))

-- the outputs of workers, in the order of script and line
abbrev pub outputs_of : {K : Type 0} → List (Worker K) → List (Draft K)
outputs_of [] = []
outputs_of (worker ∷ workers) = worker.drafts.items ++ outputs_of workers

-- the outputs in lists of which the last is the first, and likewise in each
abbrev pub in_order : {K : Type 0} → List (Vec (Draft K) Global) → List (Draft K)
in_order [] = []
in_order (drafts ∷ all) = in_order all ++ reverse drafts.items

-- files with the names of outputs, and with what these have written, where it is told
abbrev pub AreFiles : {K : Type 0} → (K → Option (List ℕ)) → List ScriptValue → List (Draft K) →
    List (List ℕ × List ℕ) → Type 0
AreFiles written scripts [] files = files ≡ []
AreFiles written scripts (draft ∷ drafts) [] = ⊥
AreFiles written scripts (draft ∷ drafts) (file ∷ files) =
    (file.0 ≡ name_at scripts draft.script draft.at)
    × IfTold (written draft.out) (λ bytes. bytes ≡ file.1) × AreFiles written scripts drafts files

-- these outputs, which were written whole, were kept, and no other was made, kept or given up
pub record HasKeptAll {K : Type 0} (written : K → Option (List ℕ)) (scripts : List ScriptValue)
    (drafts : List (Draft K)) (old new : Told) : Type 0 where
  pub whole : All (λ (d : Draft K). d.progress ≡ Written) drafts
  pub made : new.made ≡ old.made
  pub kept : (files : List (List ℕ × List ℕ)) → AreFiles written scripts drafts files →
      Gains old.kept new.kept files
  pub dropped : new.dropped ≡ old.dropped
  pub nothing : TookNothing old new

-- the first of these outputs were kept, and then that of this report was not, for which the count
-- of faults rose; no other was made
pub record HasKeptUpTo {K : Type 0} (written : K → Option (List ℕ)) (scripts : List ScriptValue)
    (drafts : List (Draft K)) (script at : ℕ) (old new : Told) : Type 0 where
  pub before : List (Draft K)
  pub draft : Draft K
  pub after : List (Draft K)
  pub parts : drafts ≡ before ++ draft ∷ after
  pub place : (draft.script ≡ script) × (draft.at ≡ at)
  pub whole : All (λ (d : Draft K). d.progress ≡ Written) before
  pub made : new.made ≡ old.made
  pub kept : (files : List (List ℕ × List ℕ)) → AreFiles written scripts before files →
      Gains old.kept new.kept files
  pub cause : Rose old.out_faults new.out_faults
  pub nothing : TookNothing old new

-- outputs were given up, and no other was made or kept
pub record HasDropped (old new : Told) : Type 0 where
  pub made : new.made ≡ old.made
  pub kept : new.kept ≡ old.kept
  pub nothing : TookNothing old new

-- the names of outputs by the statements of their script
abbrev pub names_in : {K : Type 0} → List NumberedStatement → List (Draft K) → List (List ℕ)
names_in {K = K} statements drafts =
    map (λ (d : Draft K). file_of (slice_get statements d.at)) drafts

-- outputs of the reports among the first statements of a script, in order, of which none was taken
-- yet
pub record AreMade {K : Type 0} (faults : K → ℕ) (number : ℕ) (statements : List NumberedStatement)
    (count : ℕ) (drafts : List (Draft K)) : Type 0 where
  pub names : names_in statements drafts ≡ files_of (take count statements)
  pub each : All (λ (d : Draft K). (d.script ≡ number) × (d.at < count) × (faults d.out ≡ 0)) drafts

-- outputs with these names were made, and none was kept or given up
pub record HasMade (names : List (List ℕ)) (old new : Told) : Type 0 where
  pub made : Gains old.made new.made names
  pub kept : new.kept ≡ old.kept
  pub dropped : new.dropped ≡ old.dropped
  pub nothing : TookNothing old new
  pub «open» : (count : ℕ) → HasOpenFor count old → HasOpenFor (count + length names) new

-- the outputs before this statement were made, and then that of its report was not
pub record IsUnmade {K : Type 0} (faults : K → ℕ) (number : ℕ) (statements : List NumberedStatement)
    (at : ℕ) (drafts : List (Draft K)) (old new : Told) : Type 0 where
  pub outputs : AreMade faults number statements at drafts
  pub made : HasMade (files_of (take at statements)) old new
  pub rest : List (List ℕ)
  pub parts : files_of statements ≡ files_of (take at statements)
      ++ file_of (slice_get statements at) ∷ rest
  pub within : at < length statements
  pub cause : Rose old.out_faults new.out_faults

-- a worker is the same but for its outputs
abbrev pub IsSameWorker : {K : Type 0} → Worker K → Worker K → Type 0
IsSameWorker old new = new ≡ record old { drafts = new.drafts }

pub record AreSameWorkers {K : Type 0} (old new : List (Worker K)) : Type 0 where
  pub count : length new ≡ length old
  pub each : (k : ℕ) (other : Worker K) → k < length old →
      IsSameWorker (slice_index_or old k other) (slice_index_or new k other)

-- all outputs were made, and the workers have them
pub record AllMade {K : Type 0} (faults : K → ℕ) (scripts : List ScriptValue)
    (workers : List (Worker K)) (old new : Told) : Type 0 where
  pub made : HasMade (written_by scripts) old new
  pub names : draft_names scripts (outputs_of workers) ≡ written_by scripts
  pub are : All (IsDraftOf scripts) (outputs_of workers)
  pub each : (k : ℕ) (other : Worker K) (script : ScriptValue) → slice_get scripts k ≡ Some script →
      k < length workers →
      AreMade faults k script.statements (length script.statements)
      (slice_index_or workers k other).drafts.items

-- the outputs before that of this report were made, and then that was not
pub record NotAllMade {K : Type 0} (scripts : List ScriptValue) (workers : List (Worker K))
    (script at : ℕ) (old new : Told) : Type 0 where
  pub before : List (List ℕ)
  pub later : List (List ℕ)
  pub parts : written_by scripts ≡ before ++ name_at scripts script at ∷ later
  pub made : HasMade before old new
  pub count : length (outputs_of workers) ≡ length before
  pub stands : StandsAt scripts script at
  pub cause : Rose old.out_faults new.out_faults
