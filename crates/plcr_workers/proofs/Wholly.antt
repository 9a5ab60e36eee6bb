-- What a run on threads comes to whose scripts all ran whole.
use Rattle.std.proofs.Common.{inl, inr, ◌≡◌, ℕ, List, Option, Some, Result, Ok, Err, refl, sym, ap, ◌∙◌, subst, arith}
use Rattle.std.specs.Prelude.{All, OnOk}
use Rattle.std.specs.Io.KnownBytes.{append_known}
use Rattle.plcr_base.specs.Told.{Gains}
use Rattle.plcr_imagelist.specs.States.{WriterState}
use Rattle.plcr_io.specs.Desk.{Told}
use Rattle.plcr_script.specs.Meanings.{Meanings}
use Rattle.plcr_command.specs.declared.jobs.Job.{Job}
use Rattle.plcr_command.specs.declared.endings.Ending.{Ending}
use Rattle.plcr_command.specs.declared.endings.Ending.TheVariants.{Done, Stopped, Refused, Misused}
use Rattle.plcr_command.specs.Jobs.{IsJob, job_files}
use Rattle.plcr_command.specs.Seen.{Seen, seen}
use Rattle.plcr_command.specs.Taking.{MadeNothing}
use Rattle.plcr_command.specs.Refusals.{IsRead}
use Rattle.plcr_command.proofs.Takings.{read_after}
use Rattle.plcr_command.specs.Endings.{status_of}
use Rattle.plcr_command.specs.declared.refusals.Refusal.TheVariants.{CannotRead}
use Rattle.plcr_command.specs.declared.refusals.Refusal.TheVariants.{TooLong}
use Rattle.plcr_command.specs.declared.refusals.Refusal.TheVariants.{CoreRefused}
use Rattle.plcr_command.specs.declared.refusals.Refusal.TheVariants.{ScriptRefused}
use Rattle.plcr_command.specs.declared.refusals.Refusal.TheVariants.{ReportRefused}
use Rattle.plcr_command.specs.declared.refusals.Refusal.TheVariants.{OutOfMemory}
use Rattle.plcr_turns.specs.declared.lines.ChangeLine.{ChangeLine}
use Rattle.plcr_workers.specs.declared.command.TheConstants.{SIDE_BY_SIDE}
use Rattle.plcr_workers.specs.declared.drafts.Draft.{Draft}
use Rattle.plcr_workers.specs.declared.drafts.Progress.TheVariants.{Written}
use Rattle.plcr_workers.specs.declared.lines.PassLine.{PassLine}
use Rattle.plcr_workers.specs.declared.making.Unwritten.{Unwritten}
use Rattle.plcr_workers.specs.declared.worker.Worker.{Worker}
use Rattle.plcr_workers.specs.Command.{IsCut, IsJournalOf, IsPrinted, RanAndStopped, RanWhole, ThreadsRan, meanings_in}
use Rattle.plcr_workers.specs.Log.{threads_log}
use Rattle.plcr_workers.specs.inner.Outputs.{AreFiles, HasKeptAll, outputs_of}
use Rattle.plcr_workers.specs.inner.Own.{KnowsOwnOf}
use Rattle.plcr_workers.specs.inner.Stages.{AppliesAll, HasWorked, LogEnds, RunWhole, Settles, WholeBy, WholeIn}
use Rattle.plcr_workers.specs.inner.Traces.{IsActed, IsRunnable}
use Rattle.plcr_workers.proofs.Commanded.{some_since}
use Rattle.plcr_workers.proofs.Staged.{Worked}

module _ {K : Type 0} (written : K → Option (List ℕ)) (faults : K → ℕ) (job : Job) (workers all : List (Worker K)) (front : all ≡ workers) (drafts : List (Draft K)) (drafts_are : drafts ≡ outputs_of all)
    (old mid new : Told) (lines lines' : Option (List ℕ)) (counts counts' : ℕ) (w : WriterState) (journal : List ChangeLine) (others : List (List PassLine))
    (own : All (λ x. KnowsOwnOf (meanings_in job.core job.scripts) job.scripts x) workers)
    (tells : (process : Meanings) → All (λ x. KnowsOwnOf process job.scripts x) all → IsJournalOf process job.scripts journal w × AppliesAll job.scripts all journal)
    (runs : (process : Meanings) → RunWhole written process job.scripts all w journal others) where
  same : drafts ≡ outputs_of workers
  same = drafts_are ∙ ap (λ (l : List (Worker K)). outputs_of l) front

  both : IsJournalOf (meanings_in job.core job.scripts) job.scripts journal w × AppliesAll job.scripts workers journal
  both = subst (λ (l : List (Worker K)). All (λ x. KnowsOwnOf (meanings_in job.core job.scripts) job.scripts x) l → IsJournalOf (meanings_in job.core job.scripts) job.scripts journal w × AppliesAll job.scripts l journal) front (tells (meanings_in job.core job.scripts)) own

  ran_whole : (CameOut : List ℕ → Seen → Seen → Type 0) → HasWorked faults job.scripts workers old mid → HasKeptAll written job.scripts drafts mid new → All (λ (x : Worker K). IsActed written (meanings_in job.core job.scripts).report job.scripts x) workers
      → CameOut (threads_log job.scripts journal others) (seen old lines counts) (seen new lines' counts') → All IsRunnable job.scripts → RanWhole (Some w) CameOut job (seen old lines counts) (seen new lines' counts')
  ran_whole CameOut worked k acted out may =
      let whole = subst (All (λ (d : Draft K). d.progress ≡ Written)) same k.whole in
      let r = subst (λ (l : List (Worker K)). RunWhole written (meanings_in job.core job.scripts) job.scripts l w journal others) front (runs (meanings_in job.core job.scripts)) may acted worked.names whole in
      record {
        writer = w;
        is = refl;
        journal = journal;
        others = others;
        files = r.files;
        tells = both.0;
        applied = both.1 worked.wholes whole;
        runs = r.runs;
        names = r.names;
        kept = subst (λ (o : Option (List (List ℕ × List ℕ))). Gains o new.kept r.files) worked.made.kept (k.kept r.files (subst (λ (l : List (Draft K)). AreFiles written job.scripts l r.files) (sym same) r.are));
        log = out;
      }

  by_ending : (made result : Result (Unit {0}) Unwritten) (done : Unit {0}) (ending : Ending) → Worked faults job.scripts workers old mid made → OnOk made (All (λ (x : Worker K). IsActed written (meanings_in job.core job.scripts).report job.scripts x) workers)
      → Settles written job.scripts drafts made mid new (Ok done) → LogEnds lines lines' (threads_log job.scripts journal others) counts counts' ending → WholeBy job (seen old lines counts) (seen new lines' counts') (Some w) ending
  by_ending (Ok ok) result done Done worked acted k ends = λ may. ran_whole IsPrinted worked k acted ends may
  by_ending (Ok ok) result done Stopped worked acted k ends = λ may. inr (ran_whole IsCut worked k acted (record { lines = ends.0; cause = ends.1 }) may)
  by_ending (Err unwritten) result done Done worked acted k ends = absurd k
  by_ending (Err unwritten) result done Stopped worked acted k ends = absurd k
  by_ending made result done (Refused refusal) worked acted k ends = tt
  by_ending made result done Misused worked acted k ends = tt

  pub whole_kept : (made result : Result (Unit {0}) Unwritten) (done : Unit {0}) (ending : Ending) → Worked faults job.scripts workers old mid made → OnOk made (All (λ (x : Worker K). IsActed written (meanings_in job.core job.scripts).report job.scripts x) workers)
      → result ≡ Ok done → Settles written job.scripts drafts made mid new result → LogEnds lines lines' (threads_log job.scripts journal others) counts counts' ending → WholeBy job (seen old lines counts) (seen new lines' counts') (Some w) ending
  whole_kept made result done ending worked acted is settles ends =
      by_ending made result done ending worked acted (subst (λ (r : Result (Unit {0}) Unwritten). Settles written job.scripts drafts made mid new r) is settles) ends

-- ---- the command

ran_since : (past : Option WriterState) (CameOut : List ℕ → Seen → Seen → Type 0) (job : Job) (old mid new : Told) (lines lines' : Option (List ℕ)) (counts counts' : ℕ) → MadeNothing old mid
    → ((log : List ℕ) → CameOut log (seen mid lines counts) (seen new lines' counts') → CameOut log (seen old lines counts) (seen new lines' counts'))
    → RanWhole past CameOut job (seen mid lines counts) (seen new lines' counts') → RanWhole past CameOut job (seen old lines counts) (seen new lines' counts')
ran_since past CameOut job old mid new lines lines' counts counts' nothing same r = record {
  writer = r.writer;
  is = r.is;
  journal = r.journal;
  others = r.others;
  files = r.files;
  tells = r.tells;
  applied = r.applied;
  runs = r.runs;
  names = r.names;
  kept = subst (λ (m : Option (List (List ℕ × List ℕ))). Gains m new.kept r.files) nothing.kept r.kept;
  log = same (threads_log job.scripts r.journal r.others) r.log;
}

stopped_since : (past : Option WriterState) (job : Job) (old mid new : Told) (lines lines' : Option (List ℕ)) (counts counts' : ℕ) → MadeNothing old mid
    → RanAndStopped past job (seen mid lines counts) (seen new lines' counts') → RanAndStopped past job (seen old lines counts) (seen new lines' counts')
stopped_since past job old mid new lines lines' counts counts' nothing (inl unkept) = inl (some_since job old mid new lines lines' counts counts' nothing unkept)
stopped_since past job old mid new lines lines' counts counts' nothing (inr cut) = inr (ran_since past IsCut job old mid new lines lines' counts counts' nothing (λ log c. record { lines = c.lines; cause = c.cause }) cut)

pub run_whole : (core : List ℕ) (scripts : List (List ℕ)) (job : Job) (past : Option WriterState) (ending : Ending) (old mid new : Told) (lines lines' : Option (List ℕ)) (counts counts' : ℕ) → IsRead (IsJob SIDE_BY_SIDE) (job_files core scripts) old mid job → MadeNothing old mid → new.taken ≡ mid.taken → All IsRunnable job.scripts
    → WholeBy job (seen mid lines counts) (seen new lines' counts') past ending → WholeIn core scripts (seen old lines counts) (seen new lines' counts') past ending
run_whole core scripts job past Done old mid new lines lines' counts counts' read nothing taken may ran = record {
  value = job;
  read = read_after (IsJob SIDE_BY_SIDE) (job_files core scripts) job old mid new read taken;
  ends = ran_since past IsPrinted job old mid new lines lines' counts counts' nothing (λ log printed. printed) (ran may);
}
run_whole core scripts job past Stopped old mid new lines lines' counts counts' read nothing taken may ran = record {
  value = job;
  read = read_after (IsJob SIDE_BY_SIDE) (job_files core scripts) job old mid new read taken;
  ends = stopped_since past job old mid new lines lines' counts counts' nothing (ran may);
}
run_whole core scripts job past (Refused refusal) old mid new lines lines' counts counts' read nothing taken may ran = tt
run_whole core scripts job past Misused old mid new lines lines' counts counts' read nothing taken may ran = tt

pub whole_by : (core : List ℕ) (scripts : List (List ℕ)) (old new : Seen) (past : Option WriterState) (ending : Ending) (status : ℕ) → status ≡ status_of ending → WholeIn core scripts old new past ending → ThreadsRan core scripts old new past status
whole_by core scripts old new past Done status is whole = record { done = λ zero. whole; stopped = λ five. absurd (omega (arith, is, five)) }
whole_by core scripts old new past Stopped status is whole = record { done = λ zero. absurd (omega (arith, is, zero)); stopped = λ five. whole }
whole_by core scripts old new past (Refused (CannotRead word)) status is whole = record { done = λ zero. absurd (omega (arith, is, zero)); stopped = λ five. absurd (omega (arith, is, five)) }
whole_by core scripts old new past (Refused (TooLong word)) status is whole = record { done = λ zero. absurd (omega (arith, is, zero)); stopped = λ five. absurd (omega (arith, is, five)) }
whole_by core scripts old new past (Refused (CoreRefused fault)) status is whole = record { done = λ zero. absurd (omega (arith, is, zero)); stopped = λ five. absurd (omega (arith, is, five)) }
whole_by core scripts old new past (Refused (ScriptRefused number line kind)) status is whole = record { done = λ zero. absurd (omega (arith, is, zero)); stopped = λ five. absurd (omega (arith, is, five)) }
whole_by core scripts old new past (Refused (ReportRefused fault)) status is whole = record { done = λ zero. absurd (omega (arith, is, zero)); stopped = λ five. absurd (omega (arith, is, five)) }
whole_by core scripts old new past (Refused OutOfMemory) status is whole = record { done = λ zero. absurd (omega (arith, is, zero)); stopped = λ five. absurd (omega (arith, is, five)) }
whole_by core scripts old new past Misused status is whole = record { done = λ zero. absurd (omega (arith, is, zero)); stopped = λ five. absurd (omega (arith, is, five)) }
