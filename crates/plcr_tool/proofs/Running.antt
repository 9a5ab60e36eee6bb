-- What `threads` did, by its status, and what it answers where its files are told.
use Rattle.std.proofs.Common.{inl, inr, ◌≡◌, ℕ, List, Option, sym, subst, ◌∙◌, arith}
use Rattle.plcr_imagelist.specs.States.{WriterState}
use Rattle.plcr_command.specs.declared.endings.Ending.{Ending}
use Rattle.plcr_command.specs.declared.endings.Ending.TheVariants.{Done, Stopped, Refused, Misused}
use Rattle.plcr_command.specs.declared.refusals.Refusal.TheVariants.{CannotRead, TooLong, CoreRefused, ScriptRefused, ReportRefused, OutOfMemory}
use Rattle.plcr_command.specs.Seen.{Seen}
use Rattle.plcr_command.specs.Files.{named}
use Rattle.plcr_command.specs.Taking.{IsUnreadable, IsTooLong}
use Rattle.plcr_command.specs.Jobs.{IsJob, JobMisread, job_files}
use Rattle.plcr_command.specs.Endings.{status_of}
use Rattle.plcr_command.proofs.Exact.{core_exact, job_wants, one_job, scripts_exact}
use Rattle.plcr_command.proofs.Offered.{Found, completed, found, long_refused}
use Rattle.plcr_workers.specs.declared.command.TheConstants.{SIDE_BY_SIDE}
use Rattle.plcr_workers.specs.Command.{Threads, AllKept, HasStopped, ThreadsLeave}
use Rattle.plcr_tool.specs.Threads.{ThreadsIs, ThreadsByStatus, ThreadsAreComplete, ThreadsRefuseCores, ThreadsRefuseScripts, ThreadsRefuseLong}
use Rattle.plcr_tool.proofs.Statused.{refuses, is_none, wants, job_read, job_long, job_report}

threads_at : (core : List ℕ) (scripts : List (List ℕ)) (old new : Seen) (past : Option WriterState) (status : ℕ) (ending : Ending) → status ≡ status_of ending → Threads core scripts old new ending → ThreadsLeave core scripts old new past status → ThreadsIs core scripts old new past status
threads_at core scripts old new past status Done is did left = inl (is, did, left.done is)
threads_at core scripts old new past status Stopped is did left = inr (inr (inr (inr (inl (is, did, left.stopped is)))))
threads_at core scripts old new past status (Refused (CannotRead word)) is did left =
    let none = left.others (λ e. omega (arith, is, e)) (λ e. omega (arith, is, e)) in
    let unreadable : IsUnreadable (job_files core scripts) (named word) old.desk new.desk = elim did.cause [ inl un ↦ un | inr m ↦ absurd (job_read SIDE_BY_SIDE m.contents word m.misread) ] in
    inr (inl (is, record { word = word; how = inl (unreadable, refuses (JobMisread SIDE_BY_SIDE) (job_files core scripts) old new (CannotRead word) did) }, none))
threads_at core scripts old new past status (Refused (TooLong word)) is did left =
    let none = left.others (λ e. omega (arith, is, e)) (λ e. omega (arith, is, e)) in
    let long : IsTooLong (job_files core scripts) (named word) old.desk new.desk = elim did.cause [ inl un ↦ un | inr m ↦ absurd (job_long SIDE_BY_SIDE m.contents word m.misread) ] in
    inr (inl (is, record { word = word; how = inr (long, refuses (JobMisread SIDE_BY_SIDE) (job_files core scripts) old new (TooLong word) did) }, none))
threads_at core scripts old new past status (Refused (CoreRefused fault)) is did left =
    let none = left.others (λ e. omega (arith, is, e)) (λ e. omega (arith, is, e)) in
    inr (inr (inl (is, (fault, is_none (JobMisread SIDE_BY_SIDE) (job_files core scripts) old new (CoreRefused fault) (λ cause. elim cause [ inl un ↦ absurd un | inr m ↦ m ]) did), none)))
threads_at core scripts old new past status (Refused (ScriptRefused number line kind)) is did left =
    let none = left.others (λ e. omega (arith, is, e)) (λ e. omega (arith, is, e)) in
    inr (inr (inr (inl (is, (number, line, kind, is_none (JobMisread SIDE_BY_SIDE) (job_files core scripts) old new (ScriptRefused number line kind) (λ cause. elim cause [ inl un ↦ absurd un | inr m ↦ m ]) did), none))))
threads_at core scripts old new past status (Refused (ReportRefused fault)) is did left = let no : ⊥ = elim did.cause [ inl un ↦ un | inr m ↦ job_report SIDE_BY_SIDE m.contents fault m.misread ] in absurd no
threads_at core scripts old new past status (Refused OutOfMemory) is did left =
    let none = left.others (λ e. omega (arith, is, e)) (λ e. omega (arith, is, e)) in
    inr (inr (inr (inr (inr (is, wants (JobMisread SIDE_BY_SIDE) (job_files core scripts) old new did, none)))))
threads_at core scripts old new past status Misused is did left = absurd did

pub threads_by_status : ThreadsByStatus
threads_by_status core scripts old new past status does left = threads_at core scripts old new past status does.ending does.number does.did left

pub threads_complete : ThreadsAreComplete
threads_complete core scripts contents job old new status can read outs lines does =
    elim (completed (IsJob SIDE_BY_SIDE) (JobMisread SIDE_BY_SIDE) (job_files core scripts) AllKept HasStopped contents job old new does.ending can
    (λ other is. one_job SIDE_BY_SIDE contents other job is read)
    (λ refusal is. job_wants SIDE_BY_SIDE contents job refusal read is)
    (λ other ran. elim ran.1 [ inl keep ↦ outs keep.cause | inr log ↦ lines log.cut.cause ])
    does.did) [
      | inl all ↦ inl (does.number ∙ all.0, all.1, all.2)
      | inr want ↦ inr (does.number ∙ want)
    ]

pub threads_cores : ThreadsRefuseCores
threads_cores core scripts contents old new status can does =
    core_exact SIDE_BY_SIDE contents status (subst (Found (IsJob SIDE_BY_SIDE) (JobMisread SIDE_BY_SIDE) contents) (sym does.number) (found (IsJob SIDE_BY_SIDE) (JobMisread SIDE_BY_SIDE) (job_files core scripts) AllKept HasStopped contents old new does.ending can does.did))

pub threads_scripts : ThreadsRefuseScripts
threads_scripts core scripts contents old new status can does =
    scripts_exact SIDE_BY_SIDE contents status (subst (Found (IsJob SIDE_BY_SIDE) (JobMisread SIDE_BY_SIDE) contents) (sym does.number) (found (IsJob SIDE_BY_SIDE) (JobMisread SIDE_BY_SIDE) (job_files core scripts) AllKept HasStopped contents old new does.ending can does.did))

pub threads_long : ThreadsRefuseLong
threads_long core scripts file old new status first does =
    elim (long_refused (IsJob SIDE_BY_SIDE) (JobMisread SIDE_BY_SIDE) (job_files core scripts) AllKept HasStopped file old new does.ending first does.did) [
      | inl long ↦ inl (does.number ∙ long.0, long.1)
      | inr want ↦ inr (does.number ∙ want)
    ]
