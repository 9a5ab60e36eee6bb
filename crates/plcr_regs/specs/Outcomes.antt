-- What a reader of frames answers that puts the frame of the caller into room that it is lent.
use Rattle.plcr_regs.specs.declared.frame.Frame.{Frame}
use Rattle.plcr_regs.specs.declared.frame.Step.{Step}
use Rattle.plcr_regs.specs.declared.frame.Step.TheVariants as steps
use Rattle.plcr_regs.specs.declared.outcome.Outcome.{Outcome}
use Rattle.plcr_regs.specs.declared.outcome.Outcome.TheVariants.{Caller, End, Bad}

-- the step that an answer tells, with the frame that stands in the room then; the room counts only
-- where the caller stands there
abbrev pub step_in : Outcome → Frame → Step
step_in Caller room = steps.Frame room
step_in End room = steps.End
step_in (Bad number) room = steps.Bad number
