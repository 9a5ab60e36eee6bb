use Rattle.std.proofs.Common.{ap}
use Rattle.plcr_nodes.specs.inner.Seats.{owner_state}
use Rattle.plcr_nodes.proofs.FirstSteps.{finds_nothing}
use Rattle.plcr_nodes.proofs.nodes.Nodes.open.Goals as goal

pub returns-clause-first : goal.returns-clause-first
returns-clause-first c =
    let seat = c.give_numbers.new.seat in
    finds_nothing seat.table_id c.args.nodes c.args.passes (owner_state seat.table_id seat.me.0) (ap (λ m. owner_state seat.table_id m.0) c.in_ok-all.ensures.given.0.me_is)
