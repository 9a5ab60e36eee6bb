use Rattle.plcr_machine.proofs.EventsMade.{load_events, look_events}
use Rattle.plcr_machine.proofs.event_laws.events_are_added.Goals as goal

pub returns-clause-load : goal.returns-clause-load
returns-clause-load c = load_events

pub returns-clause-looks : goal.returns-clause-looks
returns-clause-looks c = look_events
