-- A run that begins after the files were taken, as seen from before that.
use Rattle.std.proofs.Common.{inl, inr, ◌≡◌, ℕ, List, Option, sym, ap, subst, ◌∙◌, arith}
use Rattle.plcr_base.proofs.Appended.{append_nothing}
use Rattle.plcr_io.specs.Desk.{Told}
use Rattle.plcr_imagelist.specs.States.{WriterState}
use Rattle.plcr_script.specs.Run.{NumberedTurn, kept_by, log_of}
use Rattle.plcr_command.specs.declared.jobs.Job.{Job}
use Rattle.plcr_command.specs.declared.endings.Ending.{Ending}
use Rattle.plcr_command.specs.declared.endings.Ending.TheVariants.{Done, Stopped, Refused, Misused}
use Rattle.plcr_command.specs.declared.refusals.Refusal.TheVariants.{CannotRead, TooLong, CoreRefused, ScriptRefused, ReportRefused, OutOfMemory}
use Rattle.plcr_command.specs.Seen.{Seen, seen}
use Rattle.plcr_command.specs.Taking.{MadeNothing, TookSome}
use Rattle.plcr_command.specs.Refusals.{IsRead}
use Rattle.plcr_command.specs.Jobs.{IsJob}
use Rattle.plcr_command.specs.Endings.{status_of}
use Rattle.plcr_command.proofs.Kept.{kept_since, unwritten_since, unprinted_since}
use Rattle.plcr_command.proofs.Takings.{read_after, read_some}
use Rattle.plcr_run.specs.Runs.{IsStopped, line_of}
use Rattle.plcr_tool.specs.declared.report.TheConstants.{ALONE}
use Rattle.plcr_tool.specs.Report.{Reports, report_files}
use Rattle.plcr_tool.specs.Past.{ReportLeaves}
use Rattle.plcr_tool.specs.inner.Report.{RunEnds, Leaves}

stopped_since : (run : List NumberedTurn) (old mid new : Told) (lines lines' : Option (List ℕ)) (faults faults' : ℕ) → MadeNothing old mid → IsStopped run (seen mid lines faults) (seen new lines' faults') → IsStopped run (seen old lines faults) (seen new lines' faults')
stopped_since run old mid new lines lines' faults faults' nothing stop = record {
  before = stop.before;
  at = stop.at;
  after = stop.after;
  parts = stop.parts;
  how = elim stop.how [
    | inl keep ↦ inl (record {
      name = keep.name;
      bytes = keep.bytes;
      file = keep.file;
      stop = unwritten_since (kept_by stop.before) (log_of stop.before) keep.name keep.bytes old mid new lines lines' faults faults' nothing keep.stop;
    })
    | inr log ↦ inr (unprinted_since _ (log_of stop.before) (line_of stop.at) old mid new lines lines' faults faults' nothing log)
  ];
}

-- the command did what its run did
pub reports_run : (core script : List ℕ) (job : Job) (past : Option WriterState) (ending : Ending) (old mid new : Told) (lines lines' : Option (List ℕ)) (faults faults' : ℕ) → IsRead (IsJob ALONE) (report_files core script) old mid job → MadeNothing old mid → new.taken ≡ mid.taken → RunEnds job (seen mid lines faults) (seen new lines' faults') past ending → Reports core script (seen old lines faults) (seen new lines' faults') ending
reports_run core script job past Done old mid new lines lines' faults faults' read nothing same ran = record {
  value = job;
  read = read_after (IsJob ALONE) (report_files core script) job old mid new read same;
  ends = record { script = ran.script; alone = ran.alone; ends = kept_since _ _ old mid new lines lines' faults faults' nothing ran.ends.done };
}
reports_run core script job past Stopped old mid new lines lines' faults faults' read nothing same ran = record {
  value = job;
  read = read_after (IsJob ALONE) (report_files core script) job old mid new read same;
  ends = record { script = ran.script; alone = ran.alone; ends = stopped_since _ old mid new lines lines' faults faults' nothing ran.ends.stopped };
}
reports_run core script job past (Refused OutOfMemory) old mid new lines lines' faults faults' read nothing same ran =
    let desk : new ≡ mid = ap (λ (s : Seen). s.desk) ran.ends.same in
    let told : lines' ≡ lines = ap (λ (s : Seen). s.lines) ran.ends.same in
    record {
      cause = inl (subst (λ (n : Told). TookSome (report_files core script) old n) (sym desk) (read_some (IsJob ALONE) (report_files core script) job old mid read));
      nothing = subst (λ (n : Told). MadeNothing old n) (sym desk) nothing;
      printed = inl (told ∙ sym (append_nothing lines));
      silent = λ want. ap (λ (s : Seen). s.line_faults) ran.ends.same;
    }
reports_run core script job past (Refused (CannotRead word)) old mid new lines lines' faults faults' read nothing same ran = absurd ran.ends
reports_run core script job past (Refused (TooLong word)) old mid new lines lines' faults faults' read nothing same ran = absurd ran.ends
reports_run core script job past (Refused (CoreRefused fault)) old mid new lines lines' faults faults' read nothing same ran = absurd ran.ends
reports_run core script job past (Refused (ScriptRefused number line kind)) old mid new lines lines' faults faults' read nothing same ran = absurd ran.ends
reports_run core script job past (Refused (ReportRefused fault)) old mid new lines lines' faults faults' read nothing same ran = absurd ran.ends
reports_run core script job past Misused old mid new lines lines' faults faults' read nothing same ran = absurd ran.ends

-- and left what its run left
pub run_left : (core script : List ℕ) (job : Job) (past : Option WriterState) (ending : Ending) (old mid new : Told) (lines lines' : Option (List ℕ)) (faults faults' : ℕ) → IsRead (IsJob ALONE) (report_files core script) old mid job → new.taken ≡ mid.taken → RunEnds job (seen mid lines faults) (seen new lines' faults') past ending → Leaves core script (seen old lines faults) (seen new lines' faults') past ending
run_left core script job past Done old mid new lines lines' faults faults' read same ran = record {
  value = job;
  read = read_after (IsJob ALONE) (report_files core script) job old mid new read same;
  ends = record { script = ran.script; alone = ran.alone; leaves = ran.ends.past_is };
}
run_left core script job past Stopped old mid new lines lines' faults faults' read same ran = record {
  value = job;
  read = read_after (IsJob ALONE) (report_files core script) job old mid new read same;
  ends = record { script = ran.script; alone = ran.alone; leaves = ran.ends.past_is };
}
run_left core script job past (Refused OutOfMemory) old mid new lines lines' faults faults' read same ran = ran.ends.none
run_left core script job past (Refused (CannotRead word)) old mid new lines lines' faults faults' read same ran = absurd ran.ends
run_left core script job past (Refused (TooLong word)) old mid new lines lines' faults faults' read same ran = absurd ran.ends
run_left core script job past (Refused (CoreRefused fault)) old mid new lines lines' faults faults' read same ran = absurd ran.ends
run_left core script job past (Refused (ScriptRefused number line kind)) old mid new lines lines' faults faults' read same ran = absurd ran.ends
run_left core script job past (Refused (ReportRefused fault)) old mid new lines lines' faults faults' read same ran = absurd ran.ends
run_left core script job past Misused old mid new lines lines' faults faults' read same ran = absurd ran.ends

-- what an ending leaves, by its status
pub leaves_by : (core script : List ℕ) (old new : Seen) (past : Option WriterState) (ending : Ending) (status : ℕ) → status ≡ status_of ending → Leaves core script old new past ending → ReportLeaves core script old new past status
leaves_by core script old new past Done status is leaves = record { done = λ zero. leaves; stopped = λ five. absurd (omega (arith, is, five)); others = λ a b. absurd (a is) }
leaves_by core script old new past Stopped status is leaves = record { done = λ zero. absurd (omega (arith, is, zero)); stopped = λ five. leaves; others = λ a b. absurd (b is) }
leaves_by core script old new past (Refused (CannotRead word)) status is leaves = record { done = λ zero. absurd (omega (arith, is, zero)); stopped = λ five. absurd (omega (arith, is, five)); others = λ a b. leaves }
leaves_by core script old new past (Refused (TooLong word)) status is leaves = record { done = λ zero. absurd (omega (arith, is, zero)); stopped = λ five. absurd (omega (arith, is, five)); others = λ a b. leaves }
leaves_by core script old new past (Refused (CoreRefused fault)) status is leaves = record { done = λ zero. absurd (omega (arith, is, zero)); stopped = λ five. absurd (omega (arith, is, five)); others = λ a b. leaves }
leaves_by core script old new past (Refused (ScriptRefused number line kind)) status is leaves = record { done = λ zero. absurd (omega (arith, is, zero)); stopped = λ five. absurd (omega (arith, is, five)); others = λ a b. leaves }
leaves_by core script old new past (Refused (ReportRefused fault)) status is leaves = record { done = λ zero. absurd (omega (arith, is, zero)); stopped = λ five. absurd (omega (arith, is, five)); others = λ a b. leaves }
leaves_by core script old new past (Refused OutOfMemory) status is leaves = record { done = λ zero. absurd (omega (arith, is, zero)); stopped = λ five. absurd (omega (arith, is, five)); others = λ a b. leaves }
leaves_by core script old new past Misused status is leaves = record { done = λ zero. absurd (omega (arith, is, zero)); stopped = λ five. absurd (omega (arith, is, five)); others = λ a b. leaves }
