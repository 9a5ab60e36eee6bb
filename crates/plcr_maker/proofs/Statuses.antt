-- What `make` did, by its status.
use Rattle.std.proofs.Common.{inl, inr, ◌≡◌, ◌⊎◌, ℕ, List, Option, arith}
use Rattle.plcr_base.specs.Causes.{Rose}
use Rattle.plcr_imagelist.specs.States.{WriterState}
use Rattle.plcr_command.specs.declared.endings.Ending.{Ending}
use Rattle.plcr_command.specs.declared.endings.Ending.TheVariants.{Done, Stopped, Refused, Misused}
use Rattle.plcr_command.specs.declared.refusals.Refusal.TheVariants.{CannotRead, TooLong, CoreRefused, ScriptRefused, ReportRefused, OutOfMemory}
use Rattle.plcr_command.specs.Seen.{Seen}
use Rattle.plcr_command.specs.Endings.{HasKept, status_of}
use Rattle.plcr_maker.specs.Make.{StopsIn, HasMade, Makes, MakeLeaves}
use Rattle.plcr_maker.specs.Laws.{MakeIs, MadeByStatus, MakesAreComplete}

at : (images : ℕ) (core script : List ℕ) (old new : Seen) (past : Option WriterState) (status : ℕ) (ending : Ending) → status ≡ status_of ending → Makes images core script old new ending → MakeLeaves images past status → MakeIs images core script old new past status
at images core script old new past status Done is did leaves = inl (is, did, leaves.ran (inl is))
at images core script old new past status Stopped is did leaves = inr (inl (is, did, leaves.ran (inr is)))
at images core script old new past status (Refused OutOfMemory) is did leaves =
    inr (inr (is, did, leaves.others (λ e. omega (arith, is, e)) (λ e. omega (arith, is, e))))
at images core script old new past status (Refused (CannotRead word)) is did leaves = absurd did
at images core script old new past status (Refused (TooLong word)) is did leaves = absurd did
at images core script old new past status (Refused (CoreRefused fault)) is did leaves = absurd did
at images core script old new past status (Refused (ScriptRefused number line kind)) is did leaves = absurd did
at images core script old new past status (Refused (ReportRefused fault)) is did leaves = absurd did
at images core script old new past status Misused is did leaves = absurd did

pub made_by_status : MadeByStatus
made_by_status images core script old new past status does leaves = at images core script old new past status does.ending does.number does.did leaves

-- a stop has a cause
caused : (images : ℕ) (core script : List ℕ) (old new : Seen) → HasMade images core script StopsIn old new → Rose old.desk.out_faults new.desk.out_faults ⊎ Rose old.line_faults new.line_faults
caused images core script old new made = elim made.hands [
  | inl unkept ↦ inl unkept.stop.cause
  | inr unprinted ↦ inr unprinted.cause
]

whole : (images : ℕ) (core script : List ℕ) (old new : Seen) (status : ℕ) (ending : Ending) → ¬ Rose old.desk.out_faults new.desk.out_faults → ¬ Rose old.line_faults new.line_faults → status ≡ status_of ending → Makes images core script old new ending
    → ((status ≡ 0) × HasMade images core script HasKept old new) ⊎ (status ≡ 7)
whole images core script old new status Done outs lines is did = inl (is, did)
whole images core script old new status Stopped outs lines is did = elim (caused images core script old new did) [
  | inl rose ↦ absurd (outs rose)
  | inr rose ↦ absurd (lines rose)
]
whole images core script old new status (Refused OutOfMemory) outs lines is did = inr is
whole images core script old new status (Refused (CannotRead word)) outs lines is did = absurd did
whole images core script old new status (Refused (TooLong word)) outs lines is did = absurd did
whole images core script old new status (Refused (CoreRefused fault)) outs lines is did = absurd did
whole images core script old new status (Refused (ScriptRefused number line kind)) outs lines is did = absurd did
whole images core script old new status (Refused (ReportRefused fault)) outs lines is did = absurd did
whole images core script old new status Misused outs lines is did = absurd did

pub makes_complete : MakesAreComplete
makes_complete images core script old new status outs lines does = whole images core script old new status does.ending outs lines does.number does.did
