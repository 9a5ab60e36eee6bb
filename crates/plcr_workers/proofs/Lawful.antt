-- Where each output was empty before its worker ran, it has a report that is lawful in what the writer has seen in the end.
use Rattle.std.proofs.Common.{◌≡◌, ◌⊎◌, ⊎_elim, ℕ, zero, suc, ◌<◌, List, [], ◌∷◌, ◌++◌, length, get_or, All, Option, Some, None, refl, sym, ap, ◌∙◌, subst, arith}
use Rattle.std.specs.Io.KnownBytes.{append_known}
use Rattle.std.proofs.lemmas.List.Elements.{All-nil, All-append, All-tail}
use Rattle.plcr_base.specs.Told.{IfTold}
use Rattle.plcr_imagelist.specs.Holds.{WalkerState}
use Rattle.plcr_imagelist.specs.States.{WriterState, IsAtRest}
use Rattle.plcr_script.specs.Meanings.{Meanings}
use Rattle.plcr_script.specs.Scripts.{ScriptValue}
use Rattle.plcr_workers.specs.declared.drafts.Draft.{Draft}
use Rattle.plcr_workers.specs.declared.drafts.Progress.TheVariants.{Written}
use Rattle.plcr_workers.specs.declared.worker.Worker.{Worker}
use Rattle.plcr_workers.specs.Stopped.{IsLawfulReport}
use Rattle.plcr_workers.specs.inner.Outputs.{AreFiles, name_at, outputs_of}
use Rattle.plcr_workers.specs.inner.Drafts.{HaveTaken}
use Rattle.plcr_workers.specs.inner.Reports.{HasReport, HaveReports, IsEmptyOutput, IsToldReport, IsSeenBy}
use Rattle.plcr_workers.proofs.Reported.{report_lawful}

pub told_bytes : (was now : Option (List ℕ)) (bytes : List ℕ) → IfTold was (λ b. b ≡ []) → now ≡ append_known was bytes → IfTold now (λ b. b ≡ bytes)
told_bytes None now bytes empty gains = subst (λ (o : Option (List ℕ)). IfTold o (λ b. b ≡ bytes)) (sym gains) tt
told_bytes (Some b) now bytes empty gains = subst (λ (o : Option (List ℕ)). IfTold o (λ x. x ≡ bytes)) (sym gains) (ap (λ (l : List ℕ). l ++ bytes) empty)

one_told : {K : Type 0} (written : K → Option (List ℕ)) (process : Meanings) (image : WalkerState) (w : WriterState) (old new : Draft K) → IsAtRest w → IsSeenBy w image → IsEmptyOutput written old
    → (new ≡ old) ⊎ HasReport written process.report image old new → new.progress ≡ Written → IsToldReport written process w new
one_told written process image w old new rest seen empty told is =
    ⊎_elim (λ (same : new ≡ old). absurd (empty.0 (ap (λ (d : Draft _). d.progress) (sym same) ∙ is)))
    (λ (h : HasReport written process.report image old new). record {
      bytes = h.bytes;
      lawful = report_lawful process image w h.bytes rest seen.0 seen.1 h.tells;
      told = told_bytes (written old.out) (written new.out) h.bytes empty.1 h.gains;
    })
    told

-- the outputs of workers tell such reports
pub reports_told : {K : Type 0} (written : K → Option (List ℕ)) (faults : K → ℕ) (process : Meanings) (w : WriterState) (olds news : List (Worker K)) → IsAtRest w → HaveReports written process.report olds news → HaveTaken faults olds news
    → All (λ (d : Draft K). IsEmptyOutput written d) (outputs_of olds) → All (λ (n : Worker K). (image : WalkerState) × (n.image ≡ Some image) × IsSeenBy w image) news
    → All (λ (d : Draft K). d.progress ≡ Written → IsToldReport written process w d) (outputs_of news)
reports_told {K} written faults process w [] [] rest reports taken empty seen = All-nil (λ (d : Draft K). d.progress ≡ Written → IsToldReport written process w d)
reports_told {K} written faults process w [] (n ∷ news) rest reports taken empty seen = absurd (let c = taken.count in omega (arith, c))
reports_told {K} written faults process w (o ∷ olds) [] rest reports taken empty seen = absurd (let c = taken.count in omega (arith, c))
reports_told {K} written faults process w (o ∷ olds) (n ∷ news) rest reports taken empty seen =
    All-append (λ (d : Draft K). d.progress ≡ Written → IsToldReport written process w d) n.drafts.items (outputs_of news) here
    (reports_told written faults process w olds news rest (λ k other less. reports (suc k) other (omega (arith, less)))
    (record { count = (let c = taken.count in omega (arith, c)); each = λ k other less. taken.each (suc k) other (omega (arith, less)) })
    (behind o.drafts.items empty) (λ k other less. seen (suc k) other (omega (arith, less))))
  where
    behind : (ds : List (Draft K)) → All (λ (d : Draft K). IsEmptyOutput written d) (ds ++ outputs_of olds) → All (λ (d : Draft K). IsEmptyOutput written d) (outputs_of olds)
    behind [] h = h
    behind (d ∷ ds) h = behind ds (All-tail (λ (x : Draft K). IsEmptyOutput written x) d (ds ++ outputs_of olds) h)

    first : (ds : List (Draft K)) → All (λ (d : Draft K). IsEmptyOutput written d) (ds ++ outputs_of olds) → (k : ℕ) (other : Draft K) → k < length ds → IsEmptyOutput written (get_or ds k other)
    first [] h k other less = absurd (omega (arith, less))
    first (d ∷ ds) h zero other less = h 0 other (omega arith)
    first (d ∷ ds) h (suc k) other less = first ds (All-tail (λ (x : Draft K). IsEmptyOutput written x) d (ds ++ outputs_of olds) h) k other (omega (arith, less))

    here : All (λ (d : Draft K). d.progress ≡ Written → IsToldReport written process w d) n.drafts.items
    here k other less is =
        let image = seen 0 n (omega arith) in
        let many = (taken.each 0 o (omega arith)).places.count in
        let within : k < length o.drafts.items = omega (arith, less, many) in
        one_told written process image.0 w (get_or o.drafts.items k other) (get_or n.drafts.items k other) rest image.2 (first o.drafts.items empty k other within)
        (reports 0 o (omega arith) image.0 image.1 k other within is) is

-- and so files with these bytes are lawful reports
pub record AreToldFiles {K : Type 0} (written : K → Option (List ℕ)) (process : Meanings) (scripts : List ScriptValue) (w : WriterState) (drafts : List (Draft K)) : Type 0 where
  pub files : List (List ℕ × List ℕ)
  pub are : AreFiles written scripts drafts files
  pub lawful : All (λ (file : List ℕ × List ℕ). IsLawfulReport process w file.1) files

pub files_told : {K : Type 0} (written : K → Option (List ℕ)) (process : Meanings) (scripts : List ScriptValue) (w : WriterState) (drafts : List (Draft K)) → All (λ (d : Draft K). d.progress ≡ Written → IsToldReport written process w d) drafts
    → All (λ (d : Draft K). d.progress ≡ Written) drafts → AreToldFiles written process scripts w drafts
files_told written process scripts w [] told whole = record { files = []; are = refl; lawful = All-nil (λ (file : List ℕ × List ℕ). IsLawfulReport process w file.1) }
files_told {K} written process scripts w (d ∷ drafts) told whole =
    let one : IsToldReport written process w d = told 0 d (omega arith) (whole 0 d (omega arith)) in
    let rest = files_told written process scripts w drafts (λ k other less is. told (suc k) other (omega (arith, less)) is) (λ k other less. whole (suc k) other (omega (arith, less))) in
    record {
      files = (name_at scripts d.script d.at, one.bytes) ∷ rest.files;
      are = (refl, one.told, rest.are);
      lawful = λ k other less. each one.bytes one.lawful rest.files rest.lawful k other less;
    }
  where
    each : (bytes : List ℕ) → IsLawfulReport process w bytes → (files : List (List ℕ × List ℕ)) → All (λ (file : List ℕ × List ℕ). IsLawfulReport process w file.1) files
        → (k : ℕ) (other : List ℕ × List ℕ) → k < length ((name_at scripts d.script d.at, bytes) ∷ files) → IsLawfulReport process w (get_or ((name_at scripts d.script d.at, bytes) ∷ files) k other).1
    each bytes lawful files all zero other less = lawful
    each bytes lawful files all (suc k) other less = all k other (omega (arith, less))
