use Rattle.plcr_machine.proofs.EventsMade.{events-changes, events-counts, events-stamp, events-announced, events-seen, events-inside, events-before}
use Rattle.plcr_machine.proofs.event_laws.events_tell.Goals as goal

pub returns : goal.returns
returns c = λ names h.
    (events-changes names h, events-counts names h, λ p. (events-stamp p names h, events-announced p names h, events-seen p names h, events-inside p names h, events-before p names h))
