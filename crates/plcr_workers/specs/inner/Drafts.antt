-- What the statements of a script do to the outputs of its reports.
use Rattle.std.specs.Prelude.{◌≡◌, ℕ, ◌+◌, ◌<◌, ◌≤◌, List, Option, Some, None, length, slice_set, slice_index_or, All}
use Rattle.plcr_base.specs.Causes.{Rose}
use Rattle.plcr_script.specs.Scripts.{ScriptValue}
use Rattle.plcr_script.specs.Reading.{files_of}
use Rattle.plcr_workers.specs.declared.acting.Took.{Took}
use Rattle.plcr_workers.specs.declared.acting.Took.TheVariants.{Silent, Said, Unwritten}
use Rattle.plcr_workers.specs.declared.lines.PassSaid.{PassSaid}
use Rattle.plcr_workers.specs.declared.lines.PassSaid.TheVariants.{Entered, Walked, Left, Reported}
use Rattle.plcr_workers.specs.declared.drafts.Draft.{Draft}
use Rattle.plcr_workers.specs.declared.drafts.Progress.TheVariants.{Written, Failed}
use Rattle.plcr_workers.specs.declared.worker.Worker.{Worker}
use Rattle.plcr_workers.specs.inner.Outputs.{AreDone}

-- the output of a report was written whole, or a put failed, for which the count of its faults rose
abbrev pub IsWrittenAs : {K : Type 0} → (K → ℕ) → (Draft K → Draft K → Type 0) → Took → Draft K →
    Draft K → Type 0
IsWrittenAs faults tells Silent old new = ⊥
IsWrittenAs faults tells (Said Entered) old new = ⊥
IsWrittenAs faults tells (Said (Walked met ended)) old new = ⊥
IsWrittenAs faults tells (Said (Left met low high)) old new = ⊥
IsWrittenAs faults tells (Said (Reported bytes images low high)) old new = (new.progress ≡ Written)
    × tells old new
IsWrittenAs faults tells Unwritten old new = (new.progress ≡ Failed)
    × Rose (faults old.out) (faults new.out)

-- a statement was taken as a report, of an output of the same statement, whose bytes tell what they
-- should where it was written whole
pub record IsOutput {K : Type 0} (faults : K → ℕ) (tells : Draft K → Draft K → Type 0) (took : Took)
    (old new : Draft K) : Type 0 where
  pub script : new.script ≡ old.script
  pub at : new.at ≡ old.at
  pub written : IsWrittenAs faults tells took old new

-- a statement that isn't a report came to this
abbrev pub IsNoReportSaid : PassSaid → Type 0
IsNoReportSaid Entered = Unit {0}
IsNoReportSaid (Walked met ended) = Unit {0}
IsNoReportSaid (Left met low high) = Unit {0}
IsNoReportSaid (Reported bytes images low high) = ⊥

abbrev pub IsNoReport : Took → Type 0
IsNoReport Silent = Unit {0}
IsNoReport (Said said) = IsNoReportSaid said
IsNoReport Unwritten = ⊥

-- a report writes the output that is next, and no other statement writes any
pub record WritesNext {K : Type 0} (faults : K → ℕ) (tells : Draft K → Draft K →
    Type 0) (next : ℕ) (took : Took) (old new : List (Draft K)) : Type 0 where
  pub is : Draft K
  pub new_is : new ≡ slice_set old next is
  pub did : (other : Draft K) → IsOutput faults tells took (slice_index_or old next other) is

abbrev pub TakesOutputs : {K : Type 0} → (K → ℕ) → (Draft K → Draft K → Type 0) → ℕ →
    Option (List ℕ) → Took → List (Draft K) → List (Draft K) → Type 0
TakesOutputs faults tells next None took old new = (new ≡ old) × IsNoReport took
TakesOutputs faults tells next (Some file) took old new = WritesNext faults tells next took old new

-- the outputs below a number are written whole, and those from it on weren't taken yet
pub record AreUpTo {K : Type 0} (faults : K → ℕ) (next : ℕ) (drafts : List (Draft K)) : Type 0 where
  pub written : (k : ℕ) (other : Draft K) → k < length drafts → k < next →
      (slice_index_or drafts k other).progress ≡ Written
  pub waiting : (k : ℕ) (other : Draft K) → k < length drafts → next ≤ k →
      faults (slice_index_or drafts k other).out ≡ 0

-- the number of the next output behind a statement; none where an output failed, which ends the
-- script
abbrev pub next_after : Took → ℕ → Option ℕ
next_after Silent next = Some next
next_after (Said Entered) next = Some next
next_after (Said (Walked met ended)) next = Some next
next_after (Said (Left met low high)) next = Some next
next_after (Said (Reported bytes images low high)) next = Some (next + 1)
next_after Unwritten next = None

-- outputs of the same statements, in the same order
pub record AreSamePlaces {K : Type 0} (old new : List (Draft K)) : Type 0 where
  pub count : length new ≡ length old
  pub each : (k : ℕ) (other : Draft K) → k < length old →
      ((slice_index_or new k other).script ≡ (slice_index_or old k other).script)
      × ((slice_index_or new k other).at ≡ (slice_index_or old k other).at)

-- a worker has an output for each report of its script, of which none was taken
pub record HasOutputs {K : Type 0} (faults : K → ℕ) (script : ScriptValue) (w : Worker K) : Type 0
  where
    pub count : length w.drafts.items ≡ length (files_of script.statements)
    pub waiting : All (λ (d : Draft K). faults d.out ≡ 0) w.drafts.items

-- an output failed
abbrev pub HasFailed : {K : Type 0} → List (Draft K) → Type 0
HasFailed {K = K} drafts = (k : ℕ) × (k < length drafts)
    × ((other : Draft K) → (slice_index_or drafts k other).progress ≡ Failed)

-- the worker took the reports of its script, up to the first whose output failed
pub record HasTaken {K : Type 0} (faults : K → ℕ) (old new : Worker K) : Type 0 where
  pub number : new.script ≡ old.script
  pub places : AreSamePlaces old.drafts.items new.drafts.items
  pub done : AreDone faults new.drafts.items

-- each of these workers did, at its place
pub record HaveTaken {K : Type 0} (faults : K → ℕ) (old new : List (Worker K)) : Type 0 where
  pub count : length new ≡ length old
  pub each : (k : ℕ) (other : Worker K) → k < length old →
      HasTaken faults (slice_index_or old k other) (slice_index_or new k other)
