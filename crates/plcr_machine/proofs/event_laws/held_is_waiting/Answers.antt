use Rattle.plcr_machine.proofs.EventsMade.{held_waiting}
use Rattle.plcr_machine.proofs.event_laws.held_is_waiting.Goals as goal

pub returns : goal.returns
returns c = held_waiting
