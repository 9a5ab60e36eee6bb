use Rattle.plcr_compact.proofs.Orders.{order_below, order_each, order_found, order_same}
use Rattle.plcr_compact.proofs.laws.permutations_are_orders.Goals as goal

pub returns-clause-order : goal.returns-clause-order
returns-clause-order c = order_found

pub returns-clause-below : goal.returns-clause-below
returns-clause-below c = order_below

pub returns-clause-same : goal.returns-clause-same
returns-clause-same c = order_same

pub returns-clause-each : goal.returns-clause-each
returns-clause-each c = order_each
