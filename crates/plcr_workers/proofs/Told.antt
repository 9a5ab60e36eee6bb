-- What a run on threads kept: reports that are lawful in what the writer has seen, also where the run stopped.
use Rattle.std.proofs.Common.{inl, inr, ◌≡◌, ◌<◌, ◌⊎◌, ℕ, List, [], ◌∷◌, ◌++◌, Option, Some, Result, Ok, Err, map, get_or, length, refl, sym, ap, subst, ◌∙◌, append-nil, arith}
use Rattle.std.specs.Prelude.{All, reverse}
use Rattle.std.proofs.lemmas.List.{map-append}
use Rattle.std.proofs.lemmas.List.Elements.{All-nil, All-head, All-tail, All-append, All-weaker}
use Rattle.std.proofs.lemmas.Option.{slice_get-get_or}
use Rattle.atomic_table.specs.Seated.{TableId}
use Rattle.plcr_base.specs.Told.{IfTold, Gains}
use Rattle.plcr_imagelist.specs.Holds.{WalkerState}
use Rattle.plcr_imagelist.specs.States.{WriterState, IsAtRest}
use Rattle.plcr_io.specs.Desk.{Told}
use Rattle.plcr_script.specs.Meanings.{Meanings}
use Rattle.plcr_script.specs.Reading.{written_by}
use Rattle.plcr_script.specs.Scripts.{ScriptValue}
use Rattle.plcr_command.specs.declared.jobs.Job.{Job}
use Rattle.plcr_command.specs.declared.endings.Ending.{Ending}
use Rattle.plcr_command.specs.declared.endings.Ending.TheVariants.{Done, Stopped, Refused, Misused}
use Rattle.plcr_command.specs.declared.refusals.Refusal.TheVariants.{CannotRead, TooLong, CoreRefused, ScriptRefused, ReportRefused, OutOfMemory}
use Rattle.plcr_command.specs.Endings.{HasRead, kept_names, status_of}
use Rattle.plcr_command.specs.Jobs.{IsJob, job_files}
use Rattle.plcr_command.specs.Refusals.{IsRead}
use Rattle.plcr_command.specs.Seen.{Seen, seen}
use Rattle.plcr_command.specs.Taking.{MadeNothing}
use Rattle.plcr_command.proofs.Takings.{read_after}
use Rattle.plcr_turns.proofs.Fronts.{all_front}
use Rattle.plcr_workers.specs.declared.command.TheConstants.{SIDE_BY_SIDE}
use Rattle.plcr_workers.specs.declared.drafts.Draft.{Draft}
use Rattle.plcr_workers.specs.declared.drafts.Progress.{Progress}
use Rattle.plcr_workers.specs.declared.drafts.Progress.TheVariants.{Waiting, Written}
use Rattle.plcr_workers.specs.declared.making.Unwritten.{Unwritten}
use Rattle.plcr_workers.specs.declared.worker.Worker.{Worker}
use Rattle.plcr_workers.specs.Command.{KeptReports, RanReports, ThreadsKept, meanings_in}
use Rattle.plcr_workers.specs.Stopped.{IsLawfulReport}
use Rattle.plcr_workers.specs.inner.Hired.{IsGone, passes_left}
use Rattle.plcr_workers.specs.inner.Outputs.{AreEmpty, AreFiles, HaveEmpty, draft_names, name_at, outputs_of}
use Rattle.plcr_workers.specs.inner.Reports.{IsEmptyOutput, IsSeenBy, IsToldReport}
use Rattle.plcr_workers.specs.inner.Stages.{HasMetThese, HasReported, KeptBy, KeptIn, Settles, ToldReports}
use Rattle.plcr_workers.proofs.Commanded.{neither}
use Rattle.plcr_workers.proofs.Joined.{pass_of}
use Rattle.plcr_workers.proofs.Lawful.{files_told, reports_told}
use Rattle.plcr_workers.proofs.Staged.{Worked, gains_same, kept_some, names_are, worked_ok}

-- ---- what the workers wrote

waits_not : Waiting ≡ Written → ⊥
waits_not e = absurd cc

empties : {K : Type 0} (written : K → Option (List ℕ)) (workers : List (Worker K)) → HaveEmpty written workers → All (λ (d : Draft K). IsEmptyOutput written d) (outputs_of workers)
empties {K} written [] all = All-nil (λ (d : Draft K). IsEmptyOutput written d)
empties {K} written (x ∷ workers) all =
    let Empty : Draft K → Type 0 = λ d. IsEmptyOutput written d in
    let Waits : Draft K → Type 0 = λ d. (d.progress ≡ Waiting) × IfTold (written d.out) (λ bytes. bytes ≡ []) in
    All-append Empty x.drafts.items (outputs_of workers)
    (All-weaker Waits Empty (λ d one. ((λ is. waits_not (sym one.0 ∙ is)), one.1)) x.drafts.items (All-head (λ (y : Worker K). AreEmpty written y.drafts.items) x workers all))
    (empties written workers (All-tail (λ (y : Worker K). AreEmpty written y.drafts.items) x workers all))

-- the writer has met all their passes, so what they wrote whole are lawful reports in what it has seen
pub told_by : {K : Type 0} (written : K → Option (List ℕ)) (faults : K → ℕ) (process : Meanings) (queue list : TableId) (scripts : List ScriptValue) (workers : List (Worker K)) (images : List WalkerState) (old w : WriterState)
    → All (λ x. IsGone queue list scripts x) workers → map Some images ≡ reverse (passes_left workers) → HasMetThese images old w → IsAtRest w → HasReported written faults process workers → ToldReports written process w workers
told_by {K} written faults process queue list scripts workers images old w gone left met rest h =
    reports_told written faults process w h.first workers rest h.reports h.taken (empties written h.first h.empty) (λ k other within. seen_one k other within)
  where
    seen_one : (k : ℕ) (other : Worker K) → k < length workers → (image : WalkerState) × ((get_or workers k other).image ≡ Some image) × IsSeenBy w image
    seen_one k other within =
        let n = get_or workers k other in
        let g : IsGone queue list scripts n = gone k other within in
        let both : All (λ (i : WalkerState). IsSeenBy w i) images = λ place d less. (met.seen place d less, met.known place d less) in
        (g.image.image, g.image.held, pass_of (λ (i : WalkerState). IsSeenBy w i) workers images k n g.image.image left both (slice_get-get_or workers k other within) g.image.held)

-- ---- what was kept of it

file_names_are : {K : Type 0} (written : K → Option (List ℕ)) (scripts : List ScriptValue) (drafts : List (Draft K)) (files : List (List ℕ × List ℕ)) → AreFiles written scripts drafts files → kept_names files ≡ draft_names scripts drafts
file_names_are written scripts [] files are = ap kept_names are
file_names_are written scripts (d ∷ drafts) [] are = absurd are
file_names_are written scripts (d ∷ drafts) (f ∷ files) are = λ i. are.0 i ∷ file_names_are written scripts drafts files are.2 i

module _ {K : Type 0} (written : K → Option (List ℕ)) (faults : K → ℕ) (job : Job) (workers lent : List (Worker K)) (front : lent ≡ workers) (drafts : List (Draft K)) (are : drafts ≡ outputs_of lent) (old mid new : Told) (lines lines' : Option (List ℕ)) (counts counts' : ℕ)
    (made : Result (Unit {0}) Unwritten) (w : WriterState) (worked : Worked faults job.scripts workers old mid made)
    (tells : (process : Meanings) → HasReported written faults process lent → ToldReports written process w lent)
    (reported : made ≡ Ok tt → HasReported written faults (meanings_in job.core job.scripts) workers) where
  outputs_same : drafts ≡ outputs_of workers
  outputs_same = are ∙ ap (λ (l : List (Worker K)). outputs_of l) front

  abbrev IsTold : Draft K → Type 0
  IsTold d = d.progress ≡ Written → IsToldReport written (meanings_in job.core job.scripts) w d

  told_drafts : made ≡ Ok tt → All IsTold drafts
  told_drafts is =
      subst (All IsTold) (sym are) (tells (meanings_in job.core job.scripts) (subst (λ (l : List (Worker K)). HasReported written faults (meanings_in job.core job.scripts) l) (sym front) (reported is)))

  -- the first outputs were kept
  kept_reports : (part rest : List (Draft K)) → made ≡ Ok tt → drafts ≡ part ++ rest → All (λ (d : Draft K). d.progress ≡ Written) part → ((files : List (List ℕ × List ℕ)) → AreFiles written job.scripts part files → Gains mid.kept new.kept files)
      → KeptReports job w (seen old lines counts) (seen new lines' counts')
  kept_reports part rest is parts whole gains =
      let work = worked_ok faults job.scripts workers old mid made worked is in
      let f = files_told written (meanings_in job.core job.scripts) job.scripts w part (all_front IsTold part rest (subst (All IsTold) parts (told_drafts is))) whole in
      let Named : Draft K → List ℕ = λ d. name_at job.scripts d.script d.at in
      record {
        files = f.files;
        rest = draft_names job.scripts rest;
        names = sym (names_are written faults job workers drafts outputs_same old mid new lines lines' counts counts' work) ∙ ap (λ (l : List (Draft K)). draft_names job.scripts l) parts ∙ map-append Named part rest
            ∙ ap (λ (l : List (List ℕ)). l ++ draft_names job.scripts rest) (sym (file_names_are written job.scripts part f.files f.are));
        gained = kept_some written faults job workers drafts outputs_same old mid new lines lines' counts counts' f.files work (gains f.files f.are);
        reports = f.lawful;
      }

  -- or none
  no_reports : new.kept ≡ old.kept → KeptReports job w (seen old lines counts) (seen new lines' counts')
  no_reports same = record {
    files = [];
    rest = written_by job.scripts;
    names = refl;
    gained = gains_same old.kept new.kept same;
    reports = All-nil (λ (file : List ℕ × List ℕ). IsLawfulReport (meanings_in job.core job.scripts) w file.1);
  }

  -- by what each call answered
  settled_reports : (m : Result (Unit {0}) Unwritten) → made ≡ m → (r : Result (Unit {0}) Unwritten) → Worked faults job.scripts workers old mid m → Settles written job.scripts drafts m mid new r → KeptReports job w (seen old lines counts) (seen new lines' counts')
  settled_reports (Ok ok) is (Ok done) work k = kept_reports drafts [] is (sym (append-nil drafts)) k.whole k.kept
  settled_reports (Ok ok) is (Err unwritten) work k = kept_reports k.before (k.draft ∷ k.after) is k.parts k.whole k.kept
  settled_reports (Err unmade) is (Ok done) work k = absurd k
  settled_reports (Err unmade) is (Err unwritten) work k = no_reports (k.1.kept ∙ work.made.kept)

  pub run_reports : (result : Result (Unit {0}) Unwritten) → Settles written job.scripts drafts made mid new result → RanReports (Some w) job (seen old lines counts) (seen new lines' counts')
  run_reports result settles = record { writer = w; is = refl; kept = settled_reports made refl result worked settles }

-- however the printing of the log ended
pub kept_any : (job : Job) (old new : Seen) (past : Option WriterState) (ending : Ending) → RanReports past job old new → KeptBy job old new past ending
kept_any job old new past Done r = r
kept_any job old new past Stopped r = r
kept_any job old new past (Refused refusal) r = tt
kept_any job old new past Misused r = tt

-- ---- as seen from before the files were taken

reports_since : (job : Job) (past : Option WriterState) (old mid new : Told) (lines lines' : Option (List ℕ)) (faults faults' : ℕ) → MadeNothing old mid → RanReports past job (seen mid lines faults) (seen new lines' faults') → RanReports past job (seen old lines faults) (seen new lines' faults')
reports_since job past old mid new lines lines' faults faults' nothing r = record {
  writer = r.writer;
  is = r.is;
  kept = record {
    files = r.kept.files;
    rest = r.kept.rest;
    names = r.kept.names;
    gained = subst (λ (m : Option (List (List ℕ × List ℕ))). Gains m new.kept r.kept.files) nothing.kept r.kept.gained;
    reports = r.kept.reports;
  };
}

pub run_keeps : (core : List ℕ) (scripts : List (List ℕ)) (job : Job) (past : Option WriterState) (ending : Ending) (old mid new : Told) (lines lines' : Option (List ℕ)) (faults faults' : ℕ) → IsRead (IsJob SIDE_BY_SIDE) (job_files core scripts) old mid job → MadeNothing old mid → new.taken ≡ mid.taken
    → KeptBy job (seen mid lines faults) (seen new lines' faults') past ending → KeptIn core scripts (seen old lines faults) (seen new lines' faults') past ending
run_keeps core scripts job past Done old mid new lines lines' faults faults' read nothing same kept = record {
  value = job;
  read = read_after (IsJob SIDE_BY_SIDE) (job_files core scripts) job old mid new read same;
  ends = reports_since job past old mid new lines lines' faults faults' nothing kept;
}
run_keeps core scripts job past Stopped old mid new lines lines' faults faults' read nothing same kept = record {
  value = job;
  read = read_after (IsJob SIDE_BY_SIDE) (job_files core scripts) job old mid new read same;
  ends = reports_since job past old mid new lines lines' faults faults' nothing kept;
}
run_keeps core scripts job past (Refused refusal) old mid new lines lines' faults faults' read nothing same kept = tt
run_keeps core scripts job past Misused old mid new lines lines' faults faults' read nothing same kept = tt

pub kept_by : (core : List ℕ) (scripts : List (List ℕ)) (old new : Seen) (past : Option WriterState) (ending : Ending) (status : ℕ) → status ≡ status_of ending → KeptIn core scripts old new past ending → ThreadsKept core scripts old new past status
kept_by core scripts old new past Done status is kept = λ how. kept
kept_by core scripts old new past Stopped status is kept = λ how. kept
kept_by core scripts old new past (Refused (CannotRead word)) status is kept = λ how. neither status 2 is (λ e. omega (arith, e)) (λ e. omega (arith, e)) how
kept_by core scripts old new past (Refused (TooLong word)) status is kept = λ how. neither status 2 is (λ e. omega (arith, e)) (λ e. omega (arith, e)) how
kept_by core scripts old new past (Refused (CoreRefused fault)) status is kept = λ how. neither status 3 is (λ e. omega (arith, e)) (λ e. omega (arith, e)) how
kept_by core scripts old new past (Refused (ScriptRefused number line kind)) status is kept = λ how. neither status 4 is (λ e. omega (arith, e)) (λ e. omega (arith, e)) how
kept_by core scripts old new past (Refused (ReportRefused fault)) status is kept = λ how. neither status 6 is (λ e. omega (arith, e)) (λ e. omega (arith, e)) how
kept_by core scripts old new past (Refused OutOfMemory) status is kept = λ how. neither status 7 is (λ e. omega (arith, e)) (λ e. omega (arith, e)) how
kept_by core scripts old new past Misused status is kept = λ how. neither status 1 is (λ e. omega (arith, e)) (λ e. omega (arith, e)) how
