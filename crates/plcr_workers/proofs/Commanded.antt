-- A run on threads that begins after the files were taken, as seen from before that.
use Rattle.std.proofs.Common.{inl, inr, ◌≡◌, ◌⊎◌, ℕ, List, [], Option, refl, sym, ap, subst, ◌∙◌, arith}
use Rattle.plcr_base.specs.Causes.{Rose}
use Rattle.plcr_base.specs.Told.{Gains}
use Rattle.plcr_base.proofs.Appended.{append_nothing}
use Rattle.plcr_base.proofs.Gained.{gains_none}
use Rattle.plcr_io.specs.Desk.{Told}
use Rattle.plcr_imagelist.specs.States.{WriterState}
use Rattle.plcr_script.specs.Reading.{written_by}
use Rattle.plcr_command.specs.declared.jobs.Job.{Job}
use Rattle.plcr_command.specs.declared.endings.Ending.{Ending}
use Rattle.plcr_command.specs.declared.endings.Ending.TheVariants.{Done, Stopped, Refused, Misused}
use Rattle.plcr_command.specs.declared.refusals.Refusal.TheVariants.{CannotRead, TooLong, CoreRefused, ScriptRefused, ReportRefused, OutOfMemory}
use Rattle.plcr_command.specs.Seen.{Seen, seen}
use Rattle.plcr_command.specs.Taking.{MadeNothing, TookSome}
use Rattle.plcr_command.specs.Refusals.{IsRead}
use Rattle.plcr_command.specs.Jobs.{IsJob, job_files}
use Rattle.plcr_command.specs.Endings.{HasRead, status_of}
use Rattle.plcr_command.proofs.Kept.{kept_since, unprinted_since}
use Rattle.plcr_command.proofs.Takings.{read_after, read_some, nothing_none}
use Rattle.plcr_turns.specs.declared.lines.ChangeLine.{ChangeLine}
use Rattle.plcr_workers.specs.declared.command.TheConstants.{SIDE_BY_SIDE}
use Rattle.plcr_workers.specs.Command.{AllKept, NotAllKept, NotPrinted, RanTogether, StoppedBy, Threads, ThreadsLeave, ThreadsTell}
use Rattle.plcr_workers.specs.inner.Stages.{RunEnds, LeavesBy, TellsBy}

all_since : (job : Job) (old mid new : Told) (lines lines' : Option (List ℕ)) (faults faults' : ℕ) → MadeNothing old mid → AllKept job (seen mid lines faults) (seen new lines' faults') → AllKept job (seen old lines faults) (seen new lines' faults')
all_since job old mid new lines lines' faults faults' nothing k = record {
  journal = k.journal;
  others = k.others;
  files = k.files;
  names = k.names;
  kept = kept_since _ _ old mid new lines lines' faults faults' nothing k.kept;
}

pub some_since : (job : Job) (old mid new : Told) (lines lines' : Option (List ℕ)) (faults faults' : ℕ) → MadeNothing old mid → NotAllKept job (seen mid lines faults) (seen new lines' faults') → NotAllKept job (seen old lines faults) (seen new lines' faults')
some_since job old mid new lines lines' faults faults' nothing k = record {
  name = k.name;
  files = k.files;
  later = k.later;
  outcome = elim k.outcome [
    | inl unmade ↦ inl (unmade.0, unmade.1, unmade.2, subst (λ (m : Option (List (List ℕ))). Gains m new.made unmade.0) nothing.made unmade.3)
    | inr unkept ↦ inr (unkept.0, subst (λ (m : Option (List (List ℕ))). Gains m new.made (written_by job.scripts)) nothing.made unkept.1)
  ];
  kept = subst (λ (m : Option (List (List ℕ × List ℕ))). Gains m new.kept k.files) nothing.kept k.kept;
  lines = k.lines;
  cause = subst (λ (n : ℕ). Rose n new.out_faults) nothing.out_faults k.cause;
}

cut_since : (job : Job) (journal : List ChangeLine) (old mid new : Told) (lines lines' : Option (List ℕ)) (faults faults' : ℕ) → MadeNothing old mid → NotPrinted job journal (seen mid lines faults) (seen new lines' faults') → NotPrinted job journal (seen old lines faults) (seen new lines' faults')
cut_since job journal old mid new lines lines' faults faults' nothing k = record {
  others = k.others;
  files = k.files;
  names = k.names;
  cut = unprinted_since _ _ _ old mid new lines lines' faults faults' nothing k.cut;
  applied = k.applied;
}

stopped_since : (job : Job) (journal : List ChangeLine) (old mid new : Told) (lines lines' : Option (List ℕ)) (faults faults' : ℕ) → MadeNothing old mid → StoppedBy job journal (seen mid lines faults) (seen new lines' faults') → StoppedBy job journal (seen old lines faults) (seen new lines' faults')
stopped_since job journal old mid new lines lines' faults faults' nothing (inl keep) = inl (some_since job old mid new lines lines' faults faults' nothing keep)
stopped_since job journal old mid new lines lines' faults faults' nothing (inr log) = inr (cut_since job journal old mid new lines lines' faults faults' nothing log)

-- the command did what its run did
pub threads_run : (core : List ℕ) (scripts : List (List ℕ)) (job : Job) (past : Option WriterState) (ending : Ending) (old mid new : Told) (lines lines' : Option (List ℕ)) (faults faults' : ℕ) → IsRead (IsJob SIDE_BY_SIDE) (job_files core scripts) old mid job → MadeNothing old mid → new.taken ≡ mid.taken
    → RunEnds job (seen mid lines faults) (seen new lines' faults') past ending → Threads core scripts (seen old lines faults) (seen new lines' faults') ending
threads_run core scripts job past Done old mid new lines lines' faults faults' read nothing same ran = record {
  value = job;
  read = read_after (IsJob SIDE_BY_SIDE) (job_files core scripts) job old mid new read same;
  ends = all_since job old mid new lines lines' faults faults' nothing ran.2;
}
threads_run core scripts job past Stopped old mid new lines lines' faults faults' read nothing same ran = record {
  value = job;
  read = read_after (IsJob SIDE_BY_SIDE) (job_files core scripts) job old mid new read same;
  ends = (ran.0, stopped_since job ran.0 old mid new lines lines' faults faults' nothing ran.1);
}
threads_run core scripts job past (Refused OutOfMemory) old mid new lines lines' faults faults' read nothing same ran =
    let desk : new ≡ mid = ap (λ (s : Seen). s.desk) ran.0 in
    let told : lines' ≡ lines = ap (λ (s : Seen). s.lines) ran.0 in
    record {
      cause = inl (subst (λ (n : Told). TookSome (job_files core scripts) old n) (sym desk) (read_some (IsJob SIDE_BY_SIDE) (job_files core scripts) job old mid read));
      nothing = subst (λ (n : Told). MadeNothing old n) (sym desk) nothing;
      printed = inl (told ∙ sym (append_nothing lines));
      silent = λ want. ap (λ (s : Seen). s.line_faults) ran.0;
    }
threads_run core scripts job past (Refused (CannotRead word)) old mid new lines lines' faults faults' read nothing same ran = absurd ran
threads_run core scripts job past (Refused (TooLong word)) old mid new lines lines' faults faults' read nothing same ran = absurd ran
threads_run core scripts job past (Refused (CoreRefused fault)) old mid new lines lines' faults faults' read nothing same ran = absurd ran
threads_run core scripts job past (Refused (ScriptRefused number line kind)) old mid new lines lines' faults faults' read nothing same ran = absurd ran
threads_run core scripts job past (Refused (ReportRefused fault)) old mid new lines lines' faults faults' read nothing same ran = absurd ran
threads_run core scripts job past Misused old mid new lines lines' faults faults' read nothing same ran = absurd ran

-- and left what its run left
pub run_left : (core : List ℕ) (scripts : List (List ℕ)) (job : Job) (past : Option WriterState) (ending : Ending) (old mid new : Told) (lines lines' : Option (List ℕ)) (faults faults' : ℕ) → IsRead (IsJob SIDE_BY_SIDE) (job_files core scripts) old mid job → new.taken ≡ mid.taken
    → RunEnds job (seen mid lines faults) (seen new lines' faults') past ending → LeavesBy core scripts (seen old lines faults) (seen new lines' faults') past ending
run_left core scripts job past Done old mid new lines lines' faults faults' read same ran = record {
  value = job;
  read = read_after (IsJob SIDE_BY_SIDE) (job_files core scripts) job old mid new read same;
  ends = ran.3.met;
}
run_left core scripts job past Stopped old mid new lines lines' faults faults' read same ran = record {
  value = job;
  read = read_after (IsJob SIDE_BY_SIDE) (job_files core scripts) job old mid new read same;
  ends = ran.2.met;
}
run_left core scripts job past (Refused OutOfMemory) old mid new lines lines' faults faults' read same ran = ran.1
run_left core scripts job past (Refused (CannotRead word)) old mid new lines lines' faults faults' read same ran = absurd ran
run_left core scripts job past (Refused (TooLong word)) old mid new lines lines' faults faults' read same ran = absurd ran
run_left core scripts job past (Refused (CoreRefused fault)) old mid new lines lines' faults faults' read same ran = absurd ran
run_left core scripts job past (Refused (ScriptRefused number line kind)) old mid new lines lines' faults faults' read same ran = absurd ran
run_left core scripts job past (Refused (ReportRefused fault)) old mid new lines lines' faults faults' read same ran = absurd ran
run_left core scripts job past Misused old mid new lines lines' faults faults' read same ran = absurd ran

-- and so its journal tells what this has seen
pub run_tells : (core : List ℕ) (scripts : List (List ℕ)) (job : Job) (past : Option WriterState) (ending : Ending) (old mid new : Told) (lines lines' : Option (List ℕ)) (faults faults' : ℕ) → IsRead (IsJob SIDE_BY_SIDE) (job_files core scripts) old mid job → MadeNothing old mid → new.taken ≡ mid.taken
    → RunEnds job (seen mid lines faults) (seen new lines' faults') past ending → TellsBy core scripts (seen old lines faults) (seen new lines' faults') past ending
run_tells core scripts job past Done old mid new lines lines' faults faults' read nothing same ran = record {
  value = job;
  read = read_after (IsJob SIDE_BY_SIDE) (job_files core scripts) job old mid new read same;
  ends = record { writer = ran.3.met.writer; is = ran.3.met.is; journal = ran.0; tells = ran.3.tells; applied = λ zero. ran.5; stopped = λ five. absurd (omega (arith, five)); printed = λ zero. (ran.1, ran.4) };
}
run_tells core scripts job past Stopped old mid new lines lines' faults faults' read nothing same ran = record {
  value = job;
  read = read_after (IsJob SIDE_BY_SIDE) (job_files core scripts) job old mid new read same;
  ends = record { writer = ran.2.met.writer; is = ran.2.met.is; journal = ran.0; tells = ran.2.tells; applied = λ zero. absurd (omega (arith, zero)); stopped = λ five. stopped_since job ran.0 old mid new lines lines' faults faults' nothing ran.1; printed = λ zero. absurd (omega (arith, zero)) };
}
run_tells core scripts job past (Refused refusal) old mid new lines lines' faults faults' read nothing same ran = tt
run_tells core scripts job past Misused old mid new lines lines' faults faults' read nothing same ran = tt

pub neither : {A : Type 0} (status other : ℕ) → status ≡ other → (other ≡ 0 → ⊥) → (other ≡ 5 → ⊥) → (status ≡ 0) ⊎ (status ≡ 5) → A
neither status other is zero five (inl e) = absurd (zero (sym is ∙ e))
neither status other is zero five (inr e) = absurd (five (sym is ∙ e))

pub tells_by : (core : List ℕ) (scripts : List (List ℕ)) (old new : Seen) (past : Option WriterState) (ending : Ending) (status : ℕ) → status ≡ status_of ending → TellsBy core scripts old new past ending → ThreadsTell core scripts old new past status
tells_by core scripts old new past Done status is tells = λ how. subst (λ (n : ℕ). HasRead (IsJob SIDE_BY_SIDE) (job_files core scripts) (RanTogether past n) old new) (sym is) tells
tells_by core scripts old new past Stopped status is tells = λ how. subst (λ (n : ℕ). HasRead (IsJob SIDE_BY_SIDE) (job_files core scripts) (RanTogether past n) old new) (sym is) tells
tells_by core scripts old new past (Refused (CannotRead word)) status is tells = λ how. neither status 2 is (λ e. omega (arith, e)) (λ e. omega (arith, e)) how
tells_by core scripts old new past (Refused (TooLong word)) status is tells = λ how. neither status 2 is (λ e. omega (arith, e)) (λ e. omega (arith, e)) how
tells_by core scripts old new past (Refused (CoreRefused fault)) status is tells = λ how. neither status 3 is (λ e. omega (arith, e)) (λ e. omega (arith, e)) how
tells_by core scripts old new past (Refused (ScriptRefused number line kind)) status is tells = λ how. neither status 4 is (λ e. omega (arith, e)) (λ e. omega (arith, e)) how
tells_by core scripts old new past (Refused (ReportRefused fault)) status is tells = λ how. neither status 6 is (λ e. omega (arith, e)) (λ e. omega (arith, e)) how
tells_by core scripts old new past (Refused OutOfMemory) status is tells = λ how. neither status 7 is (λ e. omega (arith, e)) (λ e. omega (arith, e)) how
tells_by core scripts old new past Misused status is tells = λ how. neither status 1 is (λ e. omega (arith, e)) (λ e. omega (arith, e)) how

-- what an ending leaves, by its status
pub leaves_by : (core : List ℕ) (scripts : List (List ℕ)) (old new : Seen) (past : Option WriterState) (ending : Ending) (status : ℕ) → status ≡ status_of ending → LeavesBy core scripts old new past ending → ThreadsLeave core scripts old new past status
leaves_by core scripts old new past Done status is leaves = record { done = λ zero. leaves; stopped = λ five. absurd (omega (arith, is, five)); others = λ a b. absurd (a is) }
leaves_by core scripts old new past Stopped status is leaves = record { done = λ zero. absurd (omega (arith, is, zero)); stopped = λ five. leaves; others = λ a b. absurd (b is) }
leaves_by core scripts old new past (Refused (CannotRead word)) status is leaves = record { done = λ zero. absurd (omega (arith, is, zero)); stopped = λ five. absurd (omega (arith, is, five)); others = λ a b. leaves }
leaves_by core scripts old new past (Refused (TooLong word)) status is leaves = record { done = λ zero. absurd (omega (arith, is, zero)); stopped = λ five. absurd (omega (arith, is, five)); others = λ a b. leaves }
leaves_by core scripts old new past (Refused (CoreRefused fault)) status is leaves = record { done = λ zero. absurd (omega (arith, is, zero)); stopped = λ five. absurd (omega (arith, is, five)); others = λ a b. leaves }
leaves_by core scripts old new past (Refused (ScriptRefused number line kind)) status is leaves = record { done = λ zero. absurd (omega (arith, is, zero)); stopped = λ five. absurd (omega (arith, is, five)); others = λ a b. leaves }
leaves_by core scripts old new past (Refused (ReportRefused fault)) status is leaves = record { done = λ zero. absurd (omega (arith, is, zero)); stopped = λ five. absurd (omega (arith, is, five)); others = λ a b. leaves }
leaves_by core scripts old new past (Refused OutOfMemory) status is leaves = record { done = λ zero. absurd (omega (arith, is, zero)); stopped = λ five. absurd (omega (arith, is, five)); others = λ a b. leaves }
leaves_by core scripts old new past Misused status is leaves = record { done = λ zero. absurd (omega (arith, is, zero)); stopped = λ five. absurd (omega (arith, is, five)); others = λ a b. leaves }

-- want of memory before anything was taken
pub wants_first : (core : List ℕ) (scripts : List (List ℕ)) (old : Seen) → Threads core scripts old old (Refused OutOfMemory)
wants_first core scripts old = record {
  cause = inl (record { some = []; others = job_files core scripts; parts = refl; taken = gains_none old.desk.taken });
  nothing = nothing_none old.desk;
  printed = inl (sym (append_nothing old.lines));
  silent = λ want. refl;
}
