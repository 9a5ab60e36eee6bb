-- Reports of the images that holds met, as the pass of a worker knows them.
use Rattle.std.specs.Prelude.{◌≡◌, ◌≢◌, ◌⊎◌, [], ℕ, ◌<◌, ◌≤◌, List, Option, Some, length, slice_index_or, Contains}
use Rattle.std.specs.Io.KnownBytes.{append_known}
use Rattle.plcr_base.specs.Told.{IfTold}
use Rattle.plcr_machine.specs.declared.image.Image.{Image}
use Rattle.plcr_machine.specs.Lists.{Grows, load_number, changes, list_after}
use Rattle.plcr_machine.specs.Walks.{IsWholeWalk}
use Rattle.plcr_macho.specs.Images.{Listed}
use Rattle.plcr_imagelist.specs.Holds.{WalkerState}
use Rattle.plcr_imagelist.specs.States.{WriterState}
use Rattle.plcr_imagelist.specs.Walk.{all_named}
use Rattle.plcr_nodes.specs.Entries.{WentOn}
use Rattle.plcr_script.specs.Meanings.{Meanings}
use Rattle.plcr_workers.specs.declared.drafts.Draft.{Draft}
use Rattle.plcr_workers.specs.declared.drafts.Progress.TheVariants.{Written}
use Rattle.plcr_workers.specs.declared.worker.Worker.{Worker}
use Rattle.plcr_workers.specs.Stopped.{IsLawfulReport}

-- bytes of a report of the images of a walk that came to its end, between two of the lists that the
-- pass has seen
pub record IsHeldReport (report : List Listed → List ℕ) (image : WalkerState)
    (bytes : List ℕ) : Type 0 where
  pub from : ℕ
  pub to : ℕ
  pub met : List Image
  pub rises : from ≤ to
  pub within : to ≤ changes image.history
  pub whole : IsWholeWalk load_number (list_after image.history) from to met
  pub short : (x : Image) → Contains met x → x.load ≤ length image.names
  pub written : bytes ≡ report (all_named image.names met)

-- an output gained such a report
pub record HasReport {K : Type 0} (written : K → Option (List ℕ)) (report : List Listed →
    List ℕ) (image : WalkerState) (old new : Draft K) : Type 0 where
  pub bytes : List ℕ
  pub tells : IsHeldReport report image bytes
  pub gains : written new.out ≡ append_known (written old.out) bytes

-- each output that was written whole gained one, or was as it is from the first
abbrev pub AreReports : {K : Type 0} → (K → Option (List ℕ)) → (List Listed → List ℕ) →
    WalkerState → List (Draft K) → List (Draft K) → Type 0
AreReports {K = K} written report image first drafts =
    (k : ℕ) (other : Draft K) → k < length first →
    (slice_index_or drafts k other).progress ≡ Written
    → (slice_index_or drafts k other ≡ slice_index_or first k other)
    ⊎ HasReport written report image (slice_index_or first k other)
    (slice_index_or drafts k other)

-- the outputs of a worker that has ended, by what its pass has seen
abbrev pub HasReports : {K : Type 0} → (K → Option (List ℕ)) → (List Listed → List ℕ) → Worker K →
    Worker K → Type 0
HasReports written report old new = (image : WalkerState) → new.image ≡ Some image →
    AreReports written report image old.drafts.items new.drafts.items

-- and those of workers, each at its place
abbrev pub HaveReports : {K : Type 0} → (K → Option (List ℕ)) → (List Listed → List ℕ) →
    List (Worker K) → List (Worker K) → Type 0
HaveReports {K = K} written report old new = (k : ℕ) (other : Worker K) → k < length old →
    HasReports written report (slice_index_or old k other) (slice_index_or new k other)

-- an output that was made, into which nothing was written
abbrev pub IsEmptyOutput : {K : Type 0} → (K → Option (List ℕ)) → Draft K → Type 0
IsEmptyOutput written draft = (draft.progress ≢ Written)
    × IfTold (written draft.out) (λ bytes. bytes ≡ [])

-- an output has the bytes of a report that is lawful in what the writer has seen
pub record IsToldReport {K : Type 0} (written : K → Option (List ℕ)) (process : Meanings)
    (w : WriterState) (draft : Draft K) : Type 0 where
  pub bytes : List ℕ
  pub lawful : IsLawfulReport process w bytes
  pub told : IfTold (written draft.out) (λ b. b ≡ bytes)

-- the writer has seen all that a pass has
abbrev pub IsSeenBy : WriterState → WalkerState → Type 0
IsSeenBy w image = Grows image.history w.history × WentOn image.names w.names
