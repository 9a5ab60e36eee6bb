-- What the commands did, by the status.
use Rattle.std.proofs.Common.{inl, inr, ◌≡◌, ℕ, ◌<◌, List, [], ◌∷◌, ◌++◌, Option, length, refl, sym, subst, ◌∙◌, arith, append-nil}
use Rattle.plcr_base.specs.Told.{Prints}
use Rattle.plcr_base.proofs.Appended.{append_nothing}
use Rattle.plcr_core.specs.declared.fault.CoreFault.{CoreFault}
use Rattle.plcr_decode.specs.declared.faults.DecodeFault.{DecodeFault}
use Rattle.plcr_imagelist.specs.States.{WriterState}
use Rattle.plcr_command.specs.declared.files.FileWord.{FileWord}
use Rattle.plcr_command.specs.declared.jobs.Modes.{Modes}
use Rattle.plcr_command.specs.declared.endings.Ending.{Ending}
use Rattle.plcr_command.specs.declared.endings.Ending.TheVariants.{Done, Stopped, Refused, Misused}
use Rattle.plcr_command.specs.declared.refusals.Refusal.{Refusal}
use Rattle.plcr_command.specs.declared.refusals.Refusal.TheVariants.{CannotRead, TooLong, CoreRefused, ScriptRefused, ReportRefused, OutOfMemory}
use Rattle.plcr_command.specs.Seen.{Seen}
use Rattle.plcr_command.specs.Files.{File, named}
use Rattle.plcr_command.specs.Taking.{IsUnreadable, IsTooLong}
use Rattle.plcr_command.specs.Refusals as refusals
use Rattle.plcr_command.specs.Refusals.{IsMisread}
use Rattle.plcr_command.specs.Jobs.{JobMisread}
use Rattle.plcr_command.specs.Endings.{IsRefused, status_of}
use Rattle.plcr_tool.specs.declared.report.TheConstants.{ALONE}
use Rattle.plcr_tool.specs.Report.{Reports, report_files}
use Rattle.plcr_tool.specs.Show.{ReportMisread, Shows, shown_files}
use Rattle.plcr_tool.specs.Past.{ReportLeaves}
use Rattle.plcr_tool.specs.Top.{Form, Report, Show, Make, SideBySide, Usage, Does, form_of}
use Rattle.plcr_tool.specs.Statuses.{Refuses, IsNone, WantsMemory, ReportIs, ShowIs, ReportsByStatus, ShownByStatus, MisusedWords}

-- no line was printed for want of memory
unprinted : (old new : Option (List ℕ)) (before after : ℕ) → Prints old new [] before after → new ≡ old
unprinted old new before after (inl all) = all ∙ append_nothing old
unprinted old new before after (inr cut) = none cut.0.front cut.0.rest cut.0.parts cut.0.left
  where
    none : (front rest : List ℕ) → [] ≡ front ++ rest → 0 < length rest → new ≡ old
    none [] [] parts left = absurd (omega (arith, left))
    none [] (x ∷ rest) parts left = absurd cc
    none (x ∷ front) rest parts left = absurd cc

module _ (Misread : List (List ℕ) → Refusal → Type 0) (files : List File) (old new : Seen) where
  pub refuses : (refusal : Refusal) → IsRefused Misread files refusal old new → Refuses refusal old new
  refuses refusal r = record { nothing = r.nothing; printed = r.printed }

  pub is_none : (refusal : Refusal) → (refusals.Refuses Misread files old.desk new.desk refusal → IsMisread Misread files refusal old.desk new.desk) → IsRefused Misread files refusal old new → IsNone Misread files refusal old new
  is_none refusal only r = record { why = only r.cause; refuses = refuses refusal r }

  pub wants : IsRefused Misread files OutOfMemory old new → WantsMemory files old new
  wants r = record {
    took = elim r.cause [
      | inl some ↦ some
      | inr misread ↦ record { some = files; others = []; parts = sym (append-nil files); taken = misread.took.taken }
    ];
    nothing = r.nothing;
    lines = unprinted old.lines new.lines old.line_faults new.line_faults r.printed;
  }

-- bytes aren't refused for what can't be wrong with them
pub job_read : (modes : Modes) (contents : List (List ℕ)) (word : FileWord) → JobMisread modes contents (CannotRead word) → ⊥
job_read modes [] word is = is
job_read modes (core ∷ contents) word is = is

pub job_long : (modes : Modes) (contents : List (List ℕ)) (word : FileWord) → JobMisread modes contents (TooLong word) → ⊥
job_long modes [] word is = is
job_long modes (core ∷ contents) word is = is

pub job_report : (modes : Modes) (contents : List (List ℕ)) (fault : DecodeFault) → JobMisread modes contents (ReportRefused fault) → ⊥
job_report modes [] fault is = is
job_report modes (core ∷ contents) fault is = is

report_at : (core script : List ℕ) (old new : Seen) (past : Option WriterState) (status : ℕ) (ending : Ending) → status ≡ status_of ending → Reports core script old new ending → ReportLeaves core script old new past status → ReportIs core script old new past status
report_at core script old new past status Done is did left = inl (is, (did, left.done is))
report_at core script old new past status Stopped is did left = inr (inr (inr (inr (inl (is, (did, left.stopped is))))))
report_at core script old new past status (Refused (CannotRead word)) is did left =
    let none = left.others (λ e. omega (arith, is, e)) (λ e. omega (arith, is, e)) in
    let unreadable : IsUnreadable (report_files core script) (named word) old.desk new.desk = elim did.cause [ inl un ↦ un | inr m ↦ absurd (job_read ALONE m.contents word m.misread) ] in
    inr (inl (is, record { word = word; how = inl (unreadable, refuses (JobMisread ALONE) (report_files core script) old new (CannotRead word) did) }, none))
report_at core script old new past status (Refused (TooLong word)) is did left =
    let none = left.others (λ e. omega (arith, is, e)) (λ e. omega (arith, is, e)) in
    let long : IsTooLong (report_files core script) (named word) old.desk new.desk = elim did.cause [ inl un ↦ un | inr m ↦ absurd (job_long ALONE m.contents word m.misread) ] in
    inr (inl (is, record { word = word; how = inr (long, refuses (JobMisread ALONE) (report_files core script) old new (TooLong word) did) }, none))
report_at core script old new past status (Refused (CoreRefused fault)) is did left =
    let none = left.others (λ e. omega (arith, is, e)) (λ e. omega (arith, is, e)) in
    inr (inr (inl (is, (fault, is_none (JobMisread ALONE) (report_files core script) old new (CoreRefused fault) (λ cause. elim cause [ inl un ↦ absurd un | inr m ↦ m ]) did), none)))
report_at core script old new past status (Refused (ScriptRefused number line kind)) is did left =
    let none = left.others (λ e. omega (arith, is, e)) (λ e. omega (arith, is, e)) in
    inr (inr (inr (inl (is, (number, line, kind, is_none (JobMisread ALONE) (report_files core script) old new (ScriptRefused number line kind) (λ cause. elim cause [ inl un ↦ absurd un | inr m ↦ m ]) did), none))))
report_at core script old new past status (Refused (ReportRefused fault)) is did left = let no : ⊥ = elim did.cause [ inl un ↦ un | inr m ↦ job_report ALONE m.contents fault m.misread ] in absurd no
report_at core script old new past status (Refused OutOfMemory) is did left =
    let none = left.others (λ e. omega (arith, is, e)) (λ e. omega (arith, is, e)) in
    inr (inr (inr (inr (inr (is, wants (JobMisread ALONE) (report_files core script) old new did, none)))))
report_at core script old new past status Misused is did left = absurd did

pub reports_by_status : ReportsByStatus
reports_by_status core script old new past status does left = report_at core script old new past status does.ending does.number does.did left

-- the same of a report that is shown
shown_read : (contents : List (List ℕ)) (word : FileWord) → ReportMisread contents (CannotRead word) → ⊥
shown_read [] word is = is
shown_read (bytes ∷ []) word is = is
shown_read (bytes ∷ other ∷ contents) word is = is

shown_long : (contents : List (List ℕ)) (word : FileWord) → ReportMisread contents (TooLong word) → ⊥
shown_long [] word is = is
shown_long (bytes ∷ []) word is = is
shown_long (bytes ∷ other ∷ contents) word is = is

shown_core : (contents : List (List ℕ)) (fault : CoreFault) → ReportMisread contents (CoreRefused fault) → ⊥
shown_core [] fault is = is
shown_core (bytes ∷ []) fault is = is
shown_core (bytes ∷ other ∷ contents) fault is = is

shown_script : (contents : List (List ℕ)) (number line kind : ℕ) → ReportMisread contents (ScriptRefused number line kind) → ⊥
shown_script [] number line kind is = is
shown_script (bytes ∷ []) number line kind is = is
shown_script (bytes ∷ other ∷ contents) number line kind is = is

show_at : (report : List ℕ) (old new : Seen) (status : ℕ) (ending : Ending) → status ≡ status_of ending → Shows report old new ending → ShowIs report old new status
show_at report old new status Done is did = inl (is, did)
show_at report old new status Stopped is did = inr (inr (inl (is, did)))
show_at report old new status (Refused (CannotRead word)) is did =
    let unreadable : IsUnreadable (shown_files report) (named word) old.desk new.desk = elim did.cause [ inl un ↦ un | inr m ↦ absurd (shown_read m.contents word m.misread) ] in
    inr (inl (is, record { word = word; how = inl (unreadable, refuses ReportMisread (shown_files report) old new (CannotRead word) did) }))
show_at report old new status (Refused (TooLong word)) is did =
    let long : IsTooLong (shown_files report) (named word) old.desk new.desk = elim did.cause [ inl un ↦ un | inr m ↦ absurd (shown_long m.contents word m.misread) ] in
    inr (inl (is, record { word = word; how = inr (long, refuses ReportMisread (shown_files report) old new (TooLong word) did) }))
show_at report old new status (Refused (CoreRefused fault)) is did = let no : ⊥ = elim did.cause [ inl un ↦ un | inr m ↦ shown_core m.contents fault m.misread ] in absurd no
show_at report old new status (Refused (ScriptRefused number line kind)) is did = let no : ⊥ = elim did.cause [ inl un ↦ un | inr m ↦ shown_script m.contents number line kind m.misread ] in absurd no
show_at report old new status (Refused (ReportRefused fault)) is did =
    inr (inr (inr (inl (is, (fault, is_none ReportMisread (shown_files report) old new (ReportRefused fault) (λ cause. elim cause [ inl un ↦ absurd un | inr m ↦ m ]) did)))))
show_at report old new status (Refused OutOfMemory) is did = inr (inr (inr (inr (is, wants ReportMisread (shown_files report) old new did))))
show_at report old new status Misused is did = absurd did

pub shown_by_status : ShownByStatus
shown_by_status report old new status does = show_at report old new status does.ending does.number does.did

-- status 1
one_is : (ending : Ending) → status_of ending ≡ 1 → ending ≡ Misused
one_is Misused is = refl
one_is Done is = absurd (omega (arith, is))
one_is Stopped is = absurd (omega (arith, is))
one_is (Refused (CannotRead word)) is = absurd (omega (arith, is))
one_is (Refused (TooLong word)) is = absurd (omega (arith, is))
one_is (Refused (CoreRefused fault)) is = absurd (omega (arith, is))
one_is (Refused (ScriptRefused number line kind)) is = absurd (omega (arith, is))
one_is (Refused (ReportRefused fault)) is = absurd (omega (arith, is))
one_is (Refused OutOfMemory) is = absurd (omega (arith, is))

only_usage : (form : Form) (old new : Seen) → Does form old new Misused → form ≡ Usage
only_usage (Report core script) old new does = absurd does
only_usage (Show report) old new does = absurd does
only_usage (Make images core script) old new does = absurd does
only_usage (SideBySide core scripts) old new does = absurd does
only_usage Usage old new does = refl

only_misused : (ending : Ending) (old new : Seen) → Does Usage old new ending → status_of ending ≡ 1
only_misused Misused old new does = refl
only_misused Done old new does = absurd does
only_misused Stopped old new does = absurd does
only_misused (Refused refusal) old new does = absurd does

pub misused_words : MisusedWords
misused_words words old new status does = (
  (λ one. only_usage (form_of words) old new (subst (λ (e : Ending). Does (form_of words) old new e) (one_is does.ending (sym does.number ∙ one)) does.did)),
  (λ usage. does.number ∙ only_misused does.ending old new (subst (λ (f : Form). Does f old new does.ending) usage does.did)),
)
