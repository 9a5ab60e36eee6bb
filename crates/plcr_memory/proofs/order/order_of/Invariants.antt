use Rattle.plcr_memory.proofs.Orders.{Listed}
use Rattle.plcr_memory.proofs.order.order_of.Given as goal

abbrev pub invariant-loop-index : goal.invariant-loop-index
invariant-loop-index l = Listed l.regions l.order.items l.index
