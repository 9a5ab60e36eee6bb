use Rattle.std.proofs.Common.{◌≡◌, length, option_map}
use Rattle.std.specs.Option.{option_or}
use Rattle.plcr_core.proofs.GroupSteps.{accepted_in}
use Rattle.plcr_core.proofs.thread.accepted_state.Given as goal

abbrev pub invariant-loop-rest : goal.invariant-loop-rest
invariant-loop-rest l = option_map (option_or l.accepted) (accepted_in l.arch l.rest) ≡ accepted_in l.arch l.groups

abbrev pub decreases-loop-rest : goal.decreases-loop-rest
decreases-loop-rest l = length l.rest
