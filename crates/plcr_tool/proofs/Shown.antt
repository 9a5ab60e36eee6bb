-- What `show` answers where its report is told.
use Rattle.std.proofs.Common.{inl, inr, ◌⊎◌, ◌≡◌, ℕ, List, [], ◌∷◌, refl, sym, subst, ◌∙◌, arith}
use Rattle.plcr_report.specs.declared.messages.Report.{Report as ReportValue}
use Rattle.plcr_command.specs.declared.refusals.Refusal.{Refusal}
use Rattle.plcr_command.specs.declared.refusals.Refusal.TheVariants.{CannotRead, TooLong, CoreRefused, ScriptRefused, ReportRefused, OutOfMemory}
use Rattle.plcr_command.specs.Complete.{ComesExactly}
use Rattle.plcr_command.proofs.Offered.{Found, Value, None, Wants, completed, found, long_refused}
use Rattle.plcr_tool.specs.Show.{HasNoReport, IsCut, IsPrinted, IsReport, ReportMisread, shown_files}
use Rattle.plcr_tool.specs.Complete.{ShownReportsAreComplete, ReportRefusalsAreExact, LongReportsAreRefused}

-- bytes mean one report
one_report : (contents : List (List ℕ)) (a b : ReportValue) → IsReport contents a → IsReport contents b → a ≡ b
one_report [] a b x y = absurd x
one_report (bytes ∷ []) a b x y = cc
one_report (bytes ∷ other ∷ contents) a b x y = absurd x

-- and are refused for want of memory alone
report_wants : (contents : List (List ℕ)) (value : ReportValue) (refusal : Refusal) → IsReport contents value → ReportMisread contents refusal → refusal ≡ OutOfMemory
report_wants [] value refusal read is = absurd read
report_wants (bytes ∷ other ∷ contents) value refusal read is = absurd read
report_wants (bytes ∷ []) value (CannotRead word) read is = absurd is
report_wants (bytes ∷ []) value (TooLong word) read is = absurd is
report_wants (bytes ∷ []) value (CoreRefused fault) read is = absurd is
report_wants (bytes ∷ []) value (ScriptRefused script line kind) read is = absurd is
report_wants (bytes ∷ []) value (ReportRefused fault) read is = let a = is.first in absurd cc
report_wants (bytes ∷ []) value OutOfMemory read is = refl

pub shown_reports_complete : ShownReportsAreComplete
shown_reports_complete report contents value old new status can read lines does =
    elim (completed IsReport ReportMisread (shown_files report) IsPrinted IsCut contents value old new does.ending can
    (λ other is. one_report contents other value is read)
    (λ refusal is. report_wants contents value refusal read is)
    (λ other cut. lines cut.cause)
    does.did) [
      | inl all ↦ inl (does.number ∙ all.0, all.1, all.2)
      | inr want ↦ inr (does.number ∙ want)
    ]

-- bytes that are a report aren't none
report_or_none : (contents : List (List ℕ)) (value : ReportValue) → IsReport contents value → HasNoReport contents → ⊥
report_or_none [] value read none = none
report_or_none (bytes ∷ other ∷ contents) value read none = none
report_or_none (bytes ∷ []) value read none = let a = none.1.first in absurd cc

value_exact : (contents : List (List ℕ)) (value : ReportValue) (status : ℕ) → IsReport contents value → (status ≡ 0) ⊎ (status ≡ 5) → ComesExactly 6 (HasNoReport contents) status
value_exact contents value status read is = record {
  only = λ six. absurd (elim is [ inl zero ↦ omega (arith, six, zero) | inr five ↦ omega (arith, six, five) ]);
  always = λ none. absurd (report_or_none contents value read none);
}

wants_exact : (contents : List (List ℕ)) (status : ℕ) → status ≡ 7 → ComesExactly 6 (HasNoReport contents) status
wants_exact contents status is = record { only = λ six. absurd (omega (arith, six, is)); always = λ none. inr is }

report_exact : (contents : List (List ℕ)) (status : ℕ) → Found IsReport ReportMisread contents status → ComesExactly 6 (HasNoReport contents) status
report_exact contents status (Value value read is) = value_exact contents value status read is
report_exact contents status (Wants is) = wants_exact contents status is
report_exact [] status (None refusal misread is) = absurd misread
report_exact (bytes ∷ other ∷ contents) status (None refusal misread is) = absurd misread
report_exact (bytes ∷ []) status (None (CannotRead word) misread is) = absurd misread
report_exact (bytes ∷ []) status (None (TooLong word) misread is) = absurd misread
report_exact (bytes ∷ []) status (None (CoreRefused fault) misread is) = absurd misread
report_exact (bytes ∷ []) status (None (ScriptRefused script line kind) misread is) = absurd misread
report_exact (bytes ∷ []) status (None (ReportRefused fault) misread is) = record { only = λ six. (fault, misread); always = λ none. inl is }
report_exact (bytes ∷ []) status (None OutOfMemory misread is) = wants_exact (bytes ∷ []) status is

pub report_refusals : ReportRefusalsAreExact
report_refusals report contents old new status can does =
    report_exact contents status (subst (Found IsReport ReportMisread contents) (sym does.number) (found IsReport ReportMisread (shown_files report) IsPrinted IsCut contents old new does.ending can does.did))

pub long_reports : LongReportsAreRefused
long_reports report file old new status first does =
    elim (long_refused IsReport ReportMisread (shown_files report) IsPrinted IsCut file old new does.ending first does.did) [
      | inl long ↦ inl (does.number ∙ long.0, long.1)
      | inr want ↦ inr (does.number ∙ want)
    ]
